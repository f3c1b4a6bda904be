use Rattle.std.proofs.Common.{refl, inl, inr}
use Rattle.lpd_script.proofs.Stepping.{one_step}
use Rattle.lpd_script.proofs.runner.Runner.printed.Goals as goal

pub returns-in-Printed : goal.returns-in-Printed
returns-in-Printed c = one_step _ _ c.in-Printed.ensures.config refl refl (λ v. inr (c.in-Printed.progress, refl, c.in_ok-progress_line-in-Printed.ensures)) c.in-Printed.ensures.step

pub returns-in-NoPage : goal.returns-in-NoPage
returns-in-NoPage c = one_step _ _ c.in-NoPage.ensures.config refl refl (λ v. inl (refl, c.in_ok-printer_line-in-NoPage.ensures)) c.in-NoPage.ensures.step
