use Rattle.std.proofs.Common.{◌∙◌, ℕ, List, [], subst, sym}
use Rattle.sha2.specs.Hashers.{Holds256}
use Rattle.segment_text.specs.Seen.{head_seen}
use Rattle.segment_text.proofs.InTurn.{head_entries}
use Rattle.segment_text.proofs.writer.SegmentWriter.begin.Goals as goal

pub returns-clause-written : goal.returns-clause-written
returns-clause-written c = (
  subst (λ (m : List ℕ). Holds256 c.update.new.self m) (c.as_slice-2.ensures.value ∙ c.in_ok-lines.ensures) (c.update.ensures [] c.new-hash.ensures),
  sym (head_entries (head_seen c.args.head.now)),
)
