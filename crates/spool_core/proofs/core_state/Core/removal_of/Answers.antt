use Rattle.std.proofs.Common.{◌≡◌, ℕ, List, ◌∙◌, subst, sym}
use Rattle.std.specs.Prelude.{Result, Ok}
use Rattle.lpd_values.specs.declared.refusal.Refusal.{Refusal}
use Rattle.spool_history.specs.Base.{Base}
use Rattle.spool_history.specs.Events.{Event}
use Rattle.spool_history.specs.Events.Event.{Removed}
use Rattle.spool_history.specs.Legal.{May}
use Rattle.spool_calls.specs.Looks.{Detail, What, size}
use Rattle.spool_calls.specs.Kept.{Kept, Leaves}
use Rattle.spool_calls.specs.Calls.{before, removed_by}
use Rattle.step_lemmas.proofs.Cores.Leaving.{is_open}
use Rattle.step_lemmas.proofs.Cores.Removing.{may_remove}
use Rattle.step_lemmas.proofs.Cores.Telling.{numbers_left, removal_left}
use Rattle.spool_core.specs.declared.telling.Removal.{Removal}
use Rattle.spool_core.specs.Halves.{FindsRemoval, MayRemove}
use Rattle.spool_core.specs.Inside.{core_view}
use Rattle.spool_core.proofs.Cores.{stays}
use Rattle.spool_core.proofs.core_state.Core.removal_of.Goals.{After-from_vec}
use Rattle.spool_core.proofs.core_state.Core.removal_of.Goals as goal

abbrev Finds : List ℕ → List ℕ → List (List ℕ) → Result Removal Refusal → Kept → (d : Detail) → Base → List (Event (What d)) → Type 0
Finds name agent list r k d b h = FindsRemoval d b h k name agent list r

abbrev Takes : ℕ → List ℕ → Kept → (d : Detail) → Base → List (Event (What d)) → Type 0
Takes q numbers k d b h = MayRemove d b h k q numbers

-- the jobs that were found are those of the removal
module _ (c : After-from_vec) where
  abbrev k : Kept
  k = core_view c.self.inside

  abbrev q : ℕ
  q = c.in-Some.q

  abbrev numbers : List ℕ
  numbers = c.in_ok-numbers.numbers.items

  taken : (d : Detail) (b : Base) (h : List (Event (What d))) → Leaves d b h k → numbers ≡ removed_by d b h k q c.args.agent.now c.args.list.now
  taken d b h l = c.in_ok-numbers.ensures ∙ numbers_left d b h k l q c.args.agent.now c.args.list.now

pub returns-clause-answer : goal.returns-clause-answer
returns-clause-answer c =
    let x = (goal.at.returns-clause-answer c).After-from_vec in
    stays (k x) c.args.self.now (Finds c.args.queue.now c.args.agent.now c.args.list.now (Ok (record { queue = q x; numbers = c.in_ok-numbers.numbers; text = c.from_vec.result }))) c.self.view_is
    (λ d b h l. (
      c.in-Some.ensures.named,
      (is_open d b h (k x) l c.if-self.false, c.in-Some.ensures.found.0),
      taken x d b h l,
      c.from_vec.ensures ∙ (c.in_ok-text.ensures ∙ removal_left d b h (k x) l (q x) c.args.agent.now c.args.list.now),
    ))

pub returns-clause-takes : goal.returns-clause-takes
returns-clause-takes c =
    let x = (goal.at.returns-clause-takes c).After-from_vec in
    stays (k x) c.args.self.now (Takes (q x) (numbers x)) c.self.view_is
    (λ d b h l some. subst (λ (m : List ℕ). May (size d) (before d b h (k x)) (Removed (q x) m)) (sym (taken x d b h l))
    (may_remove d b h (k x) l c.args.agent.now c.args.list.now (q x) c.if-self.false c.in-Some.ensures.found.0 (λ none. some (taken x d b h l ∙ none))))
