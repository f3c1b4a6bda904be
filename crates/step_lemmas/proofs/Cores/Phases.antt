-- How far a job is, in the words of its history and of the book.
use Rattle.std.proofs.Common.{◌≡◌, Bool, true, false, refl, sym, ◌∙◌, ap}
use Rattle.std.specs.Prelude.{◌&&◌, cond, not}
use Rattle.held_jobs.specs.Turns as T
use Rattle.held_jobs.specs.Turns.{is_ended}
use Rattle.held_jobs.specs.declared.phase.Phase.{Phase}
use Rattle.held_jobs.specs.declared.phase.Phase.TheVariants.{Receiving, Received, Ended}
use Rattle.held_jobs.specs.Jobs.{HeldJob, Facts}
use Rattle.held_jobs.specs.Moves.{MayAsk}
use Rattle.held_jobs.specs.Shown.{Shelf, ShownJob, see_job}
use Rattle.page_pool.specs.Page.{Page}
use Rattle.config_values.specs.Config.{Config}
use Rattle.spool_history.specs.Acts.{is_open_in}
use Rattle.spool_history.specs.Now.{Job, is_received}
use Rattle.spool_history.specs.Legal.{IsReceiving, CanAsk}
use Rattle.spool_calls.specs.Kept.{shown_job, facts_of, phase_of, shelf_of, spots}

-- a phase says whether its job has ended, and whether it is received and goes on
pub ended_is : (e r : Bool) → is_ended (cond e Ended (cond r Received Receiving)) ≡ e
ended_is true r = refl
ended_is false true = refl
ended_is false false = refl

pub goes_is : (e r : Bool) → T.is_received (cond e Ended (cond r Received Receiving)) ≡ (r && not e)
goes_is true true = refl
goes_is true false = refl
goes_is false true = refl
goes_is false false = refl

receiving_by : (e r : Bool) → cond e Ended (cond r Received Receiving) ≡ Receiving → (e ≡ false) × (r ≡ false)
receiving_by true r s = absurd cc
receiving_by false true s = absurd cc
receiving_by false false s = (refl, refl)

pub received_is : (e r b : Bool) → (T.is_received (cond e Ended (cond r Received Receiving)) && b) ≡ (r && (not e && b))
received_is true true b = refl
received_is true false b = refl
received_is false true b = refl
received_is false false b = refl

pub receiving : {C : Type 0} (x : Job C) → phase_of x ≡ Receiving → IsReceiving x
receiving x s = receiving_by x.ended (is_received x) s

pub phase_receiving : {C : Type 0} (x : Job C) → IsReceiving x → phase_of x ≡ Receiving
phase_receiving x r = (let e = r.0 in let i = r.1 in rw (e, i) refl)

pub ended : {C : Type 0} (x : Job C) → phase_of x ≡ Ended → x.ended ≡ true
ended x s = sym (ended_is x.ended (is_received x)) ∙ ap is_ended s

pub phase_ended : {C : Type 0} (x : Job C) → x.ended ≡ true → phase_of x ≡ Ended
phase_ended x e = rw e refl

module _ {C : Type 0} (f : Page → C) (c : Config) (j : HeldJob) (x : Job C) (t : see_job f j ≡ shown_job c x) where
  pub facts_tie : j.facts ≡ facts_of c x
  facts_tie = ap (λ (s : ShownJob C). s.facts) t

  pub phase_tie : j.facts.phase ≡ phase_of x
  phase_tie = ap (λ (s : Facts). s.phase) facts_tie

  pub shelf_tie : (see_job f j).shelf ≡ shelf_of (phase_of x) x.files x.handed x.back (spots x)
  shelf_tie = ap (λ (s : ShownJob C). s.shelf) t

  -- while it is being received, a file of it is open in the book where one is in the history
  pub open_tie : IsReceiving x → j.chain.is_open ≡ is_open_in x.files
  open_tie r = ap (λ (s : Shelf C). s.is_open) shelf_tie ∙ ap (λ (p : Phase). (shelf_of p x.files x.handed x.back (spots x)).is_open) (phase_receiving x r)

  pub can_ask : MayAsk j → CanAsk x
  can_ask m =
      let r = receiving x (sym phase_tie ∙ m.0) in
      (r, sym (open_tie r) ∙ m.1, sym (ap (λ (s : Facts). s.lent) facts_tie) ∙ m.2)

  pub ask_can : CanAsk x → MayAsk j
  ask_can m = (phase_tie ∙ phase_receiving x m.0, open_tie m.0 ∙ m.1, ap (λ (s : Facts). s.lent) facts_tie ∙ m.2)
