use Rattle.std.proofs.Common.{◌≡◌, ◌≢◌, ◌∙◌, ℕ, List, [], ◌∷◌, refl, ap, sym, subst, inl, inr}
use Rattle.std.specs.Prelude.{Ok}
use Rattle.account.specs.declared.entry.Outline.{Outline}
use Rattle.config_values.specs.Config.{queue_named}
use Rattle.spool_history.specs.Events.{Event}
use Rattle.spool_calls.specs.Calls.{removed_by}
use Rattle.spool_core.specs.Halves.{FindsRemoval, RemovesJobs}
use Rattle.account.specs.Seen.{base_seen}
use Rattle.spool_history.specs.Events.Event.{Removed}
use Rattle.spool_calls.specs.Looks.Detail.{Outlines}
use Rattle.spool_calls.specs.Kept.{Kept, Leaves}
use Rattle.spool_core.specs.declared.telling.Removal.{Removal}
use Rattle.locked_spool.specs.Held.{Held}
use Rattle.locked_spool.specs.Entries.{WritesRemoved}
use Rattle.locked_spool.proofs.Removed.{has_none, has_some}
use Rattle.locked_spool.proofs.Written.{room_here, written_here}
use Rattle.locked_spool.proofs.locked.Locked.remove_telling.Given.{Over}
use Rattle.locked_spool.proofs.locked.Locked.remove_telling.Goals.{After-remove_chosen}
use Rattle.locked_spool.proofs.locked.Locked.remove_telling.Goals as goal

module _ (g : Over) (c : After-remove_chosen g) where
  -- what the lock held before
  abbrev h : Held
  h = let a = c.self.inside in record { core = a.core; base = base_seen a.base; events = a.account.events; since = a.since; freed = a.freed; number = a.number; before = a.before; kinds_before = a.kinds_before; handed_before = a.handed_before }

  abbrev k : Kept
  k = c.remove_chosen.new.self

  abbrev r : Removal
  r = c.in_ok-removal.removal

  abbrev jobs : List ℕ
  jobs = c.in_ok-jobs.jobs.items

  some : r.numbers.items ≢ []
  some = has_some r (sym c.is_empty.ensures ∙ c.if-is_empty.false)

  copied : r.numbers.items ≡ jobs
  copied = sym (c.in_ok-jobs.ensures.items ∙ c.as_slice.ensures.value)

  -- the jobs of the entry are those that were removed
  gone : Leaves Outlines h.base (Removed r.queue jobs ∷ h.events) k
  gone =
      subst (λ (ms : List ℕ). Leaves Outlines h.base (Removed r.queue ms ∷ h.events) k) copied
      (elim (subst (λ (ms : List ℕ). RemovesJobs Outlines h.base h.events h.core r.queue ms k) c.as_slice-2.ensures.value (c.remove_chosen.ensures.answer Outlines h.base h.events c.self.invariant.left)) [ inl x ↦ absurd (some x.0) | inr x ↦ x.1 ])

  abbrev found' : FindsRemoval Outlines h.base h.events h.core c.args.queue.now c.args.agent.now c.args.list.now (Ok r)
  found' = c.in_ok-removal.ensures.answer Outlines h.base h.events c.self.invariant.left

  abbrev picked : ℕ → List ℕ
  picked q = removed_by Outlines h.base h.events h.core q c.args.agent.now c.args.list.now

  picked_is : picked (queue_named h.core.config c.args.queue.now) ≡ r.numbers.items
  picked_is = ap picked found'.0 ∙ sym found'.2

  abbrev Grows : Held → Held → Type 0
  Grows old new = WritesRemoved old new c.args.queue.now c.args.agent.now c.args.list.now (Ok r.text)

  told : (events : List (Event Outline)) → events ≡ Removed r.queue jobs ∷ h.events → Grows h (record h { core = k; events = events })
  told events one =
      inr (
        λ z. some (sym picked_is ∙ z),
        ap (λ (es : List (Event Outline)). record h { core = k; events = es }) one
            ∙ (ap (λ (q : ℕ). record h { core = k; events = Removed q jobs ∷ h.events }) (sym found'.0)
            ∙ ap (λ (ms : List ℕ). record h { core = k; events = Removed (queue_named h.core.config c.args.queue.now) ms ∷ h.events }) (sym copied ∙ sym picked_is)),
      )

pub write-requires-clause-room : goal.write-requires-clause-room
write-requires-clause-room g c =
    room_here c.self.invariant (gone g (goal.at.write-requires-clause-room g c).After-remove_chosen) c.remove_chosen.ensures.config refl

pub invariant_of-self : goal.invariant_of-self
invariant_of-self g c =
    let w = c.write.ensures in
    written_here c.self.invariant c.write.new.account.events c.write.new.account.kept c.write.new.account.room c.write.new.books (gone g (goal.at.invariant_of-self g c).After-remove_chosen) c.remove_chosen.ensures.config refl refl w.events w.kept w.room w.books

pub returns-clause-account : goal.returns-clause-account
returns-clause-account g c =
    let n = (goal.at.returns-clause-account g c).After-remove_chosen in
    subst (λ (z : Held). Grows g n z (record (h g n) { core = k g n; events = c.write.new.account.events })) c.self.view_is (told g n c.write.new.account.events c.write.ensures.events)

pub returns-then-is_empty-clause-account : goal.returns-then-is_empty-clause-account
returns-then-is_empty-clause-account g c =
    let a = c.self.inside in
    let r = c.in_ok-removal.removal in
    let f = c.in_ok-removal.ensures.answer Outlines (base_seen a.base) a.account.events c.self.invariant.left in
    let P : ℕ → List ℕ = λ q. removed_by Outlines (base_seen a.base) a.account.events a.core q c.args.agent.now c.args.list.now in
    let none : P (queue_named a.core.config c.args.queue.now) ≡ [] = ap P f.0 ∙ (sym f.2 ∙ has_none r (sym c.is_empty.ensures ∙ c.if-is_empty.true)) in
    subst (λ (z : Held). WritesRemoved z z c.args.queue.now c.args.agent.now c.args.list.now (Ok r.text)) c.self.view_is (inl (none, refl))
