use Rattle.std.proofs.Common.{refl, inl}
use Rattle.std.proofs.lemmas.Result.{IfOk-weaker}
use Rattle.lpd_script.proofs.Stepping.{one_step}
use Rattle.lpd_script.proofs.Turning.{runs, sent}
use Rattle.lpd_script.proofs.runner.Runner.send.Goals as goal

pub returns-in-Gone : goal.returns-in-Gone
returns-in-Gone c = one_step _ _ c.in-Gone.ensures.config refl refl (λ v. inl (refl, c.in_ok-session_told-in-Gone.ensures)) c.in-Gone.ensures.step

pub returns-in-Turned : goal.returns-in-Turned
returns-in-Turned c =
    runs _ _ _ c.go_on.result
    (IfOk-weaker c.go_on.result _ _
    (λ text w. sent (record { alloc = c.args.self.now.alloc; world = c.step.new.self; hosts = c.args.self.now.hosts })
    c.in-Taken.ensures.config refl c.in-Taken.ensures.step c.in-Turned.ensures.config c.in-Turned.ensures.hosts c.in-Turned.ensures.step w)
    c.go_on.ensures.ran)
    c.go_on.ensures.not_run
