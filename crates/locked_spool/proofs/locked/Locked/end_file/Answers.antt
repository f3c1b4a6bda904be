use Rattle.std.proofs.Common.{rules, ◌≡◌, ℕ, Bool, List, ◌∷◌, refl, sym, ◌∙◌, ap, subst}
use Rattle.std.specs.Prelude.{Result, Ok, Err}
use Rattle.account.specs.Seen.{base_seen}
use Rattle.account.specs.declared.entry.Outline.{Outline}
use Rattle.spool_history.specs.Events.{Event}
use Rattle.spool_history.specs.Events.Act.{FileEnded}
use Rattle.spool_history.specs.Events.Event.{OfJob}
use Rattle.lpd_values.specs.declared.refusal.Refusal.{Refusal}
use Rattle.spool_calls.specs.declared.answers.Receipt.{Receipt}
use Rattle.spool_calls.specs.Looks.Detail.{Outlines}
use Rattle.spool_calls.specs.Kept.{Kept, Leaves}
use Rattle.spool_calls.specs.Calls.{Ends, EndsFile, IsRight, is_whole}
use Rattle.locked_spool.specs.Held.{Held}
use Rattle.locked_spool.specs.Entries.{WritesFileEnded}
use Rattle.locked_spool.proofs.Written.{room_here, whole_is, written_here}
use Rattle.locked_spool.proofs.locked.Locked.end_file.Given.{Over}
use Rattle.locked_spool.proofs.locked.Locked.end_file.Goals.{After-eq-is_whole}
use Rattle.locked_spool.proofs.locked.Locked.end_file.Goals as goal

module _ (g : Over) (c : After-eq-is_whole g) where
  -- what the lock held before
  abbrev h : Held
  h = let a = c.self.inside in record { core = a.core; base = base_seen a.base; events = a.account.events; since = a.since; freed = a.freed; number = a.number; before = a.before; kinds_before = a.kinds_before; handed_before = a.handed_before }

  abbrev k : Kept
  k = c.end_last.new.self

  abbrev got : Receipt
  got = c.in_ok-file.field-0.receipt

  abbrev file : ℕ
  file = c.in_ok-file.field-0.file

  end : EndsFile Outlines h.base h.events h.core c.args.job k got file
  end = c.in_ok-file.ensures.ended Outlines h.base h.events c.self.invariant.left

  said : c.eq-is_whole.result ≡ is_whole got
  said = c.eq-is_whole.ensures ∙ whole_is got

  ended : Leaves Outlines h.base (OfJob c.args.job (FileEnded file c.eq-is_whole.result) ∷ h.events) k
  ended = subst (λ (v : Bool). Leaves Outlines h.base (OfJob c.args.job (FileEnded file v) ∷ h.events) k) (sym said) end.1

  abbrev Writes : Held → Held → Type 0
  Writes old new = WritesFileEnded old new c.args.job (Ok got)

  told : (events : List (Event Outline)) → events ≡ OfJob c.args.job (FileEnded file c.eq-is_whole.result) ∷ h.events → Writes h (record h { core = k; events = events })
  told events one = (
    file,
    end.0,
    ap (λ (es : List (Event Outline)). record h { core = k; events = es }) one
        ∙ ap (λ (v : Bool). record h { core = k; events = OfJob c.args.job (FileEnded file v) ∷ h.events }) said,
  )

pub write-requires-clause-room : goal.write-requires-clause-room
write-requires-clause-room g c = room_here c.self.invariant (ended g (goal.at.write-requires-clause-room g c).After-eq-is_whole) c.in_ok-file.ensures.config refl

pub invariant_of-self-2 : goal.invariant_of-self-2
invariant_of-self-2 g c =
    let w = c.write.ensures in
    written_here c.self.invariant c.write.new.account.events c.write.new.account.kept c.write.new.account.room c.write.new.books (ended g (goal.at.invariant_of-self-2 g c).After-eq-is_whole) c.in_ok-file.ensures.config refl refl w.events w.kept w.room w.books

pub returns-clause-account : goal.returns-clause-account
returns-clause-account g c =
    let n = (goal.at.returns-clause-account g c).After-eq-is_whole in
    let es = c.write.new.account.events in
    subst (λ (z : Held). Writes g n z (record (h g n) { core = k g n; events = es })) c.self.view_is (told g n es c.write.ensures.events)

pub returns-in_err-file-clause-answer : goal.returns-in_err-file-clause-answer
returns-in_err-file-clause-answer g c =
    let told : c.from_residual.result ≡ Err c.in_err-file.field-0.0 = search rules in
    subst (λ (r : Result Receipt Refusal). IsRight c.args.self.now.core (λ d b h. Ends d b h c.args.self.now.core c.args.job c.end_last.new.self r)) (sym told)
    (subst (λ (z : Kept). IsRight z (λ d b h. Ends d b h z c.args.job c.end_last.new.self (Err c.in_err-file.field-0.0))) (ap (λ (z : Held). z.core) c.self.view_is) c.in_err-file.ensures.refused)
