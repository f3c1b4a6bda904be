use Rattle.std.proofs.Common.{refl, inl, inr}
use Rattle.lpd_script.proofs.Stepping.{one_step}
use Rattle.lpd_script.proofs.runner.Runner.failed.Goals as goal

pub returns-in-Failed : goal.returns-in-Failed
returns-in-Failed c = one_step _ _ c.in-Failed.ensures.config refl refl (λ v. inr (refl, c.in_ok-printer_line-in-Failed.ensures)) c.in-Failed.ensures.step

pub returns-in-NoPage : goal.returns-in-NoPage
returns-in-NoPage c = one_step _ _ c.in-NoPage.ensures.config refl refl (λ v. inl (refl, c.in_ok-printer_line-in-NoPage.ensures)) c.in-NoPage.ensures.step
