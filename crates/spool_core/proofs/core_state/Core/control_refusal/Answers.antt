use Rattle.std.proofs.Common.{ℕ, sym, subst}
use Rattle.std.specs.Prelude.{IfErr, IfOk, MatchOption, Option, Result, Ok, Err}
use Rattle.std.specs.Result.{result_err}
use Rattle.lpd_values.specs.declared.refusal.Refusal.{Refusal}
use Rattle.spool_history.specs.Refusals.{MayControl, RefusesControl}
use Rattle.spool_calls.specs.Kept.{Kept}
use Rattle.spool_calls.specs.Calls.{IsRight, before}
use Rattle.step_lemmas.proofs.Cores.Reading.{may_control}
use Rattle.spool_core.specs.Places.{LacksControl}
use Rattle.spool_core.proofs.core_state.Core.control_refusal.Goals as goal

-- why a control file is refused, and that it may come where nothing is why
refuses : (k : Kept) (job : ℕ) (r : Result ℕ Refusal) → IfOk r (LacksControl k job) → IfErr r (λ n. IsRight k (λ d b h. RefusesControl (before d b h k) job n))
    → IsRight k (λ d b h. MatchOption (result_err r) (MayControl (before d b h k) job) (RefusesControl (before d b h k) job))
refuses k job (Ok i) lacks refused d b h l = may_control d b h k l job i (record { there = lacks.there; number' = lacks.number }) lacks.receiving lacks.none
refuses k job (Err n) lacks refused d b h l = refused d b h l

pub returns : goal.returns
returns c d b h l =
    let k = c.args.self.now in
    subst (λ (o : Option Refusal). MatchOption o (MayControl (before d b h k) c.args.job) (RefusesControl (before d b h k) c.args.job)) (sym c.err.ensures.value)
    (refuses k c.args.job c.lacks_control.result c.lacks_control.ensures.lacks c.lacks_control.ensures.refused d b h l)
