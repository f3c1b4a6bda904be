use Rattle.segment_text.specs.Items.{text_of}
use Rattle.segment_text.specs.Seen.{head_seen}
use Rattle.segment_text.specs.Streams.{HasWritten}
use Rattle.account_folder.specs.Texts.{IsOnItsWay}
use Rattle.account_folder.proofs.TextLemmas.{first_items}
use Rattle.account_folder.proofs.writing.write_segment.Given as goal

abbrev pub invariant-loop-entry : goal.invariant-loop-entry
invariant-loop-entry g l = record {
  written : HasWritten l.draft.writer (first_items (head_seen l.head) l.entries l.entry-index);
  way : IsOnItsWay (g.W.OctetWrite.written l.fn.output) (g.W.OctetWrite.written l.output) l.text.items (text_of (first_items (head_seen l.head) l.entries l.entry-index));
}
