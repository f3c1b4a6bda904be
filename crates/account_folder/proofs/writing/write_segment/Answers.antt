use Rattle.std.proofs.Common.{◌∷◌, ◌++◌, List, ℕ, map, subst, sym}
use Rattle.sha2.specs.Sha256.{sha256}
use Rattle.account.specs.Seen.{event_seen}
use Rattle.account_text.specs.Lines.{event_line}
use Rattle.lpd_commands.specs.Ends.{Writes}
use Rattle.segment_text.specs.Heads.{last_line}
use Rattle.segment_text.specs.Items.{Item, body_items, entries_of, text_of, with_feed}
use Rattle.segment_text.specs.Items.Item.{OfEvent}
use Rattle.segment_text.specs.Seen.{head_seen}
use Rattle.segment_text.specs.Streams.{HasWritten}
use Rattle.account_folder.specs.Texts.{IsOnItsWay}
use Rattle.account_folder.proofs.TextLemmas.{ends, first_all, first_items, first_more, grows, last_more}
use Rattle.account_folder.proofs.writing.write_segment.Goals as goal

pub loop-entry-preserved : goal.loop-entry-preserved
loop-entry-preserved g c =
    let h = head_seen c.args.head.now in
    let entries = c.args.entries.now in
    let i = c.loop-entry.entry-index in
    let e = event_seen c.entry-item.result in
    let is = first_items h entries i in
    let more = first_more h entries i c.entry-item.result c.loop-entry-test.true c.entry-item.is in
    let was = g.W.OctetWrite.written c.args.output.now in
    let grown : IsOnItsWay was (g.W.OctetWrite.written c.loop-entry.output) c.with.new.text.items (text_of (OfEvent e ∷ is)) =
    rw c.in_ok-draft-2.ensures.text (grows was _ c.loop-entry.text.items (text_of is) (with_feed (event_line e)) c.loop-entry.invariant.way) in
    record {
      written = subst (λ (js : List Item). HasWritten c.in_ok-draft-2.draft.writer js) (sym more) (c.in_ok-draft-2.ensures.written is c.loop-entry.invariant.written);
      way = subst (λ (js : List Item). IsOnItsWay was (g.W.OctetWrite.written c.pass_on.new.output) c.pass_on.new.text.items (text_of js)) (sym more) (c.in_ok-pass_on.ensures was (text_of (OfEvent e ∷ is)) grown);
    }

pub returns-clause-written : goal.returns-clause-written
returns-clause-written g c =
    let h = head_seen c.args.head.now in
    let entries = c.args.entries.now in
    let es = map event_seen entries in
    let is = body_items h es in
    let all = first_all h entries c.loop-entry.entry-index c.loop-entry-test.false in
    let was = g.W.OctetWrite.written c.args.output.now in
    let wrote : HasWritten c.loop-entry.draft.writer is = subst (λ (js : List Item). HasWritten c.loop-entry.draft.writer js) all c.loop-entry.invariant.written in
    let way : IsOnItsWay was (g.W.OctetWrite.written c.loop-entry.output) c.loop-entry.text.items (text_of is) =
    subst (λ (js : List Item). IsOnItsWay was (g.W.OctetWrite.written c.loop-entry.output) c.loop-entry.text.items (text_of js)) all c.loop-entry.invariant.way in
    let last = with_feed (last_line (record { entries = entries_of is; digest = sha256 (text_of is) })) in
    let grown : IsOnItsWay was (g.W.OctetWrite.written c.loop-entry.output) c.end.new.text.items (text_of is ++ last) =
    subst (λ (l : List ℕ). IsOnItsWay was (g.W.OctetWrite.written c.loop-entry.output) l (text_of is ++ last)) (sym (c.in_ok-digest.ensures.text is wrote)) (grows was _ c.loop-entry.text.items (text_of is) last way) in
    let writes = ends was _ _ c.end.new.text.items (text_of is ++ last) grown (rw c.as_slice.ensures.value at c.in_ok-write_all.ensures.ok.0) in
    subst (λ (l : List ℕ). Writes was (g.W.OctetWrite.written c.write_all.new.writer) l) (last_more h es) writes

pub returns-clause-digest : goal.returns-clause-digest
returns-clause-digest g c =
    let h = head_seen c.args.head.now in
    let entries = c.args.entries.now in
    let all = first_all h entries c.loop-entry.entry-index c.loop-entry-test.false in
    c.in_ok-digest.ensures.digest (body_items h (map event_seen entries)) (subst (λ (js : List Item). HasWritten c.loop-entry.draft.writer js) all c.loop-entry.invariant.written)
