use Rattle.std.proofs.Common.{refl, inl, inr}
use Rattle.lpd_script.proofs.Stepping.{one_step}
use Rattle.lpd_script.proofs.runner.Runner.break_off.Goals as goal

pub returns-in-Broken : goal.returns-in-Broken
returns-in-Broken c = one_step _ _ c.in-Broken.ensures.config refl refl (λ v. inr (refl, c.in_ok-session_told-in-Broken.ensures)) c.in-Broken.ensures.step

pub returns-in-Gone : goal.returns-in-Gone
returns-in-Gone c = one_step _ _ c.in-Gone.ensures.config refl refl (λ v. inl (refl, c.in_ok-session_told-in-Gone.ensures)) c.in-Gone.ensures.step
