use Rattle.std.proofs.Common.{◌≢◌, ◌∙◌, ℕ, List, [], ◌∷◌, length, refl, sym, subst, inl, inr}
use Rattle.account.specs.Seen.{base_seen}
use Rattle.spool_history.specs.Events.Event.{Removed}
use Rattle.spool_calls.specs.Looks.Detail.{Outlines}
use Rattle.spool_calls.specs.Kept.{Kept, Leaves}
use Rattle.locked_spool.specs.Held.{Held}
use Rattle.locked_spool.proofs.Removed.{not_empty}
use Rattle.locked_spool.proofs.Written.{room_here, written_here}
use Rattle.locked_spool.proofs.locked.Locked.remove_jobs.Given.{Over}
use Rattle.locked_spool.proofs.locked.Locked.remove_jobs.Goals.{After-remove_chosen}
use Rattle.locked_spool.proofs.locked.Locked.remove_jobs.Goals as goal

module _ (g : Over) (c : After-remove_chosen g) where
  -- what the lock held before
  abbrev h : Held
  h = let a = c.self.inside in record { core = a.core; base = base_seen a.base; events = a.account.events; since = a.since; freed = a.freed; number = a.number; before = a.before; kinds_before = a.kinds_before; handed_before = a.handed_before }

  abbrev k : Kept
  k = c.remove_chosen.new.self

  abbrev q : ℕ
  q = c.in_ok-found.found

  abbrev numbers : List ℕ
  numbers = c.args.numbers.now

  some : numbers ≢ []
  some = not_empty (length numbers) numbers (sym c.is_empty.ensures ∙ c.if-is_empty.false) refl

  -- the jobs of the entry are those that were removed
  gone : Leaves Outlines h.base (Removed q c.in-Ok.jobs.items ∷ h.events) k
  gone =
      subst (λ (ms : List ℕ). Leaves Outlines h.base (Removed q ms ∷ h.events) k) (sym c.in-Ok.ensures.items)
      (elim (c.remove_chosen.ensures.answer Outlines h.base h.events c.self.invariant.left) [ inl x ↦ absurd (some x.0) | inr x ↦ x.1 ])

pub write-requires-clause-room : goal.write-requires-clause-room
write-requires-clause-room g c =
    room_here c.self.invariant (gone g (goal.at.write-requires-clause-room g c).After-remove_chosen) c.remove_chosen.ensures.config refl

pub invariant_of-self : goal.invariant_of-self
invariant_of-self g c =
    let w = c.write.ensures in
    written_here c.self.invariant c.write.new.account.events c.write.new.account.kept c.write.new.account.room c.write.new.books (gone g (goal.at.invariant_of-self g c).After-remove_chosen) c.remove_chosen.ensures.config refl refl w.events w.kept w.room w.books
