use Rattle.std.proofs.Common.{refl, inl}
use Rattle.std.proofs.lemmas.Result.{IfOk-weaker}
use Rattle.lpd_script.proofs.Stepping.{one_step}
use Rattle.lpd_script.proofs.Turning.{runs, went}
use Rattle.lpd_script.proofs.runner.Runner.go.Goals as goal

pub returns-in-Turned : goal.returns-in-Turned
returns-in-Turned c =
    runs _ _ _ c.go_on.result
    (IfOk-weaker c.go_on.result _ _
    (λ text w. went c.in-Turned.ensures.config c.in-Turned.ensures.hosts c.in-Turned.ensures.step w) c.go_on.ensures.ran)
    c.go_on.ensures.not_run

pub returns-in-Gone : goal.returns-in-Gone
returns-in-Gone c = one_step _ _ c.in-Gone.ensures.config c.in-Gone.ensures.hosts refl (λ v. inl (refl, c.in_ok-session_told-in-Gone.ensures)) c.in-Gone.ensures.step
