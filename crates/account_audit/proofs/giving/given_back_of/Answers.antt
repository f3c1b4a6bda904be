use Rattle.std.proofs.Common.{◌≡◌, ◌∙◌, ◌-◌, ◌+◌, ℕ, List, ap, arith, map}
use Rattle.std.specs.Prelude.{count_by, sum_by}
use Rattle.config_values.specs.Config.{reserve_of}
use Rattle.spool_history.specs.Now as N
use Rattle.account.specs.declared.entry.Outline.{Outline}
use Rattle.history_reader.specs.declared.state.Job.{Job}
use Rattle.history_reader.specs.declared.state.Printer.{Printer}
use Rattle.history_reader.specs.Seen.{job_seen, printer_seen}
use Rattle.account_audit.proofs.giving.given_back_of.Goals as goal

less_both : (a b c : ℕ) → a - b - c ≡ a - (b + c)
less_both a b c = omega arith

pub returns : goal.returns
returns c =
    let v = c.args.state.now in
    let jobs : List Job → ℕ = λ js. sum_by (λ (job : N.Job Outline). reserve_of c.args.config.now job.queue) (map job_seen js) in
    let stops : List Printer → ℕ = λ ps. count_by (λ (printer : N.Printer Outline). printer.stopped) (map printer_seen ps) in
    let rest = c.saturating_sub-rest.result in
    c.less_stopped.ensures
    ∙ (ap (λ (ps : List Printer). c.less_jobs-rest.result - stops ps) c.as_slice-2.ensures.value
    ∙ (ap (λ (n : ℕ). n - stops v.printers.items) (c.less_jobs-rest.ensures ∙ ap (λ (js : List Job). rest - jobs js) c.as_slice.ensures.value)
    ∙ (ap (λ (n : ℕ). n - jobs v.jobs.items - stops v.printers.items) (c.saturating_sub-rest.ensures ∙ ap (λ (n : ℕ). v.reserved - n) c.from.ensures)
    ∙ less_both (v.reserved - c.args.freed) (jobs v.jobs.items) (stops v.printers.items))))
