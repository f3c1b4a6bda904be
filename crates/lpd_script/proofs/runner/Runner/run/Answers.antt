use Rattle.std.proofs.Common.{◌∷◌, ◌∙◌, [], refl, sym, ap}
use Rattle.spool_trace.specs.declared.step.Step.TheVariants as step
use Rattle.script_lines.specs.Texts.{free_line}
use Rattle.lpd_script.proofs.Stepping.{one_step}
use Rattle.lpd_script.proofs.runner.Runner.run.Goals as goal

pub returns-in-Connected : goal.returns-in-Connected
returns-in-Connected c =
    let number = c.in_ok-sender-in-Connect.ensures.number in
    rw c.in-Connect.is
    (one_step (step.Connect c.in_ok-sender-in-Connect.sender) _ c.in-Connected.ensures.config c.in_ok-sender-in-Connect.ensures.hosts
    (ap (λ n. step.Connect n ∷ []) (sym number))
    (λ v. (c.in-Connected.session, refl, c.in_ok-session_line-in-Connected.ensures)) c.in-Connected.ensures.step)

pub returns-in-Free : goal.returns-in-Free
returns-in-Free c = rw c.in-Free.is record {
  config = refl;
  hosts = refl;
  replies = [];
  tells = λ t l. (refl, c.in_ok-free_line-in-Free.ensures ∙ ap free_line (c.free.ensures t l));
  leads = λ t l. l;
}

pub returns-in-Pages : goal.returns-in-Pages
returns-in-Pages c = rw c.in-Pages.is record {
  config = refl;
  hosts = refl;
  replies = [];
  tells = λ t l.
      let p = c.pages_by_place.ensures t l in
      (refl, rw (p.free_is, p.chain_is, p.session_is, p.printer_is) at c.in_ok-pages_line-in-Pages.ensures);
  leads = λ t l. l;
}

pub returns-in-Closed : goal.returns-in-Closed
returns-in-Closed c =
    rw c.in-Shutdown.is
    (one_step _ _ c.in-Closed.ensures.config refl refl (λ v. (refl, c.in_ok-from_str-in-Closed.ensures.ok)) c.in-Closed.ensures.step)
