use Rattle.std.proofs.Common.{◌≡◌, ◌≢◌, ◌∙◌, ◌<◌, ℕ, List, ◌∷◌, refl, sym, ap, subst, inl, inr, arith}
use Rattle.std.specs.Prelude.{Ok}
use Rattle.account.specs.Seen.{base_seen}
use Rattle.account.specs.declared.entry.Outline.{Outline}
use Rattle.spool_history.specs.Events.{Event}
use Rattle.spool_history.specs.Events.Event.{Started}
use Rattle.spool_history.specs.Legal.{May}
use Rattle.spool_calls.specs.Looks.{size}
use Rattle.spool_calls.specs.Looks.Detail.{Outlines}
use Rattle.spool_calls.specs.Kept.{Kept, Leaves}
use Rattle.spool_calls.specs.Calls.{before}
use Rattle.spool_core.specs.Halves.{FindsStart}
use Rattle.locked_spool.specs.Held.{Held}
use Rattle.locked_spool.specs.Entries.{WritesStarted}
use Rattle.locked_spool.proofs.Stopped.{may_start}
use Rattle.locked_spool.proofs.Written.{room_here, written_here}
use Rattle.locked_spool.proofs.locked.Locked.start_queue.Given.{Over}
use Rattle.locked_spool.proofs.locked.Locked.start_queue.Goals.{After-start_printers}
use Rattle.locked_spool.proofs.locked.Locked.start_queue.Goals as goal

module _ (g : Over) (c : After-start_printers g) where
  -- what the lock held before
  abbrev h : Held
  h = let a = c.self.inside in record { core = a.core; base = base_seen a.base; events = a.account.events; since = a.since; freed = a.freed; number = a.number; before = a.before; kinds_before = a.kinds_before; handed_before = a.handed_before }

  abbrev k : Kept
  k = c.start_printers.new.self

  abbrev name : List ℕ
  name = c.args.queue.now

  abbrev q : ℕ
  q = c.in_ok-found.found.queue

  found : FindsStart Outlines h.base h.events h.core name (Ok c.in_ok-found.found)
  found = c.in_ok-found.ensures.answer Outlines h.base h.events c.self.invariant.left

  -- one of the queue's printers was stopped
  some : 0 < c.in_ok-found.found.stopped
  some = let ne : c.in_ok-found.found.stopped ≢ 0 = c.if-found-eq0.false in omega arith

  may : May (size Outlines) (before Outlines h.base h.events h.core) (Started q)
  may = may_start Outlines h.base h.events h.core q found.1.0 found.1.1 (subst (λ (n : ℕ). 0 < n) found.2 some)

  -- it isn't any more
  started : Leaves Outlines h.base (Started q ∷ h.events) k
  started = elim (c.start_printers.ensures.answer Outlines h.base h.events c.self.invariant.left) [ inl x ↦ x.1 | inr x ↦ absurd (x.0 may) ]

  abbrev Writes : Held → Held → Type 0
  Writes old new = WritesStarted old new name (Ok tt)

  told : (events : List (Event Outline)) → events ≡ Started q ∷ h.events → Writes h (record h { core = k; events = events })
  told events one =
      inl (
        subst (λ (n : ℕ). May (size Outlines) (before Outlines h.base h.events h.core) (Started n)) (sym found.0) may,
        ap (λ (es : List (Event Outline)). record h { core = k; events = es }) one
            ∙ ap (λ (n : ℕ). record h { core = k; events = Started n ∷ h.events }) (sym found.0),
      )

pub write-requires-clause-room : goal.write-requires-clause-room
write-requires-clause-room g c =
    room_here c.self.invariant (started g (goal.at.write-requires-clause-room g c).After-start_printers) c.start_printers.ensures.config refl

pub invariant_of-self : goal.invariant_of-self
invariant_of-self g c =
    let w = c.write.ensures in
    written_here c.self.invariant c.write.new.account.events c.write.new.account.kept c.write.new.account.room c.write.new.books (started g (goal.at.invariant_of-self g c).After-start_printers) c.start_printers.ensures.config refl refl w.events w.kept w.room w.books

pub returns-clause-account : goal.returns-clause-account
returns-clause-account g c =
    let n = (goal.at.returns-clause-account g c).After-start_printers in
    let es = c.write.new.account.events in
    subst (λ (z : Held). Writes g n z (record (h g n) { core = k g n; events = es })) c.self.view_is (told g n es c.write.ensures.events)
