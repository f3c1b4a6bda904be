use Rattle.std.proofs.Common.{refl}
use Rattle.lpd_script.proofs.Stepping.{one_step}
use Rattle.lpd_script.proofs.runner.Runner.next.Goals as goal

pub returns-in-Gave : goal.returns-in-Gave
returns-in-Gave c = one_step _ _ c.in-Gave.ensures.config refl refl (λ v. (c.in-Gave.given, refl, c.in_ok-given_line-in-Gave.ensures)) c.in-Gave.ensures.step
