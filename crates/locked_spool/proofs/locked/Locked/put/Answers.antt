use Rattle.std.proofs.Common.{rules, ◌≡◌, ℕ, List, ◌∷◌, refl, sym, ◌∙◌, ap, subst}
use Rattle.std.specs.Prelude.{Result, Ok, Err}
use Rattle.account.specs.Seen.{base_seen}
use Rattle.account.specs.declared.entry.Outline.{Outline}
use Rattle.spool_history.specs.Events.{Event}
use Rattle.spool_history.specs.Events.Act.{Put}
use Rattle.spool_history.specs.Events.Event.{OfJob}
use Rattle.spool_calls.specs.Looks.Detail.{Outlines}
use Rattle.spool_calls.specs.Kept.{Kept, Leaves}
use Rattle.spool_calls.specs.declared.answers.ReturnedPage.{ReturnedPage}
use Rattle.spool_calls.specs.Calls.{IsRight, Puts, PutsAs}
use Rattle.locked_spool.specs.Held.{Held}
use Rattle.locked_spool.specs.Entries.{WritesPut}
use Rattle.locked_spool.proofs.Written.{room_here, written_here}
use Rattle.locked_spool.proofs.locked.Locked.put.Given.{Over}
use Rattle.locked_spool.proofs.locked.Locked.put.Goals.{In_ok-file}
use Rattle.locked_spool.proofs.locked.Locked.put.Goals as goal

module _ (g : Over) (c : In_ok-file g) where
  -- what the lock held before
  abbrev h : Held
  h = let a = c.self.inside in record { core = a.core; base = base_seen a.base; events = a.account.events; since = a.since; freed = a.freed; number = a.number; before = a.before; kinds_before = a.kinds_before; handed_before = a.handed_before }

  abbrev k : Kept
  k = c.put_sized.new.self

  abbrev file : ℕ
  file = c.in_ok-file.field-0.file

  abbrev number : ℕ
  number = c.in_ok-file.field-0.number

  put : PutsAs Outlines h.base h.events h.core c.args.job c.args.page k file number
  put = c.in_ok-file.ensures.put Outlines h.base h.events c.self.invariant.left

  taken : Leaves Outlines h.base (OfJob c.args.job (Put file number c.outline_of-outline.result) ∷ h.events) k
  taken = subst (λ (o : Outline). Leaves Outlines h.base (OfJob c.args.job (Put file number o) ∷ h.events) k) (sym c.outline_of-outline.ensures) put.1

  abbrev Writes : Held → Held → Type 0
  Writes old new = WritesPut old new c.args.job c.args.page (Ok tt)

  told : (events : List (Event Outline)) → events ≡ OfJob c.args.job (Put file number c.outline_of-outline.result) ∷ h.events → Writes h (record h { core = k; events = events })
  told events one = (
    file,
    number,
    put.0,
    ap (λ (es : List (Event Outline)). record h { core = k; events = es }) one
        ∙ ap (λ (o : Outline). record h { core = k; events = OfJob c.args.job (Put file number o) ∷ h.events }) c.outline_of-outline.ensures,
  )

pub write-requires-clause-room : goal.write-requires-clause-room
write-requires-clause-room g c = room_here c.self.invariant (taken g (goal.at.write-requires-clause-room g c).In_ok-file) c.in_ok-file.ensures.config refl

pub invariant_of-self-2 : goal.invariant_of-self-2
invariant_of-self-2 g c =
    let w = c.write.ensures in
    written_here c.self.invariant c.write.new.account.events c.write.new.account.kept c.write.new.account.room c.write.new.books (taken g (goal.at.invariant_of-self-2 g c).In_ok-file) c.in_ok-file.ensures.config refl refl w.events w.kept w.room w.books

pub returns-clause-account : goal.returns-clause-account
returns-clause-account g c =
    let n = (goal.at.returns-clause-account g c).In_ok-file in
    let es = c.write.new.account.events in
    subst (λ (z : Held). Writes g n z (record (h g n) { core = k g n; events = es })) c.self.view_is (told g n es c.write.ensures.events)

pub returns-in_err-file-clause-answer : goal.returns-in_err-file-clause-answer
returns-in_err-file-clause-answer g c =
    let told : c.from_residual.result ≡ Err c.in_err-file.field-0.0 = search rules in
    subst (λ (r : Result (Unit {0}) ReturnedPage). IsRight c.args.self.now.core (λ d b h. Puts d b h c.args.self.now.core c.args.job c.args.page c.put_sized.new.self r)) (sym told)
    (subst (λ (z : Kept). IsRight z (λ d b h. Puts d b h z c.args.job c.args.page c.put_sized.new.self (Err c.in_err-file.field-0.0))) (ap (λ (z : Held). z.core) c.self.view_is) c.in_err-file.ensures.refused)
