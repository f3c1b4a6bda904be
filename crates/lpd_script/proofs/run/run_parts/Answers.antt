use Rattle.std.proofs.Common.{rules, ◌≡◌, Err}
use Rattle.lpd_script.specs.declared.fault.Fault.TheVariants.{Config, Memory}
use Rattle.lpd_script.proofs.Running.{faulty_at_once, no_config_fault, short_at_once}
use Rattle.lpd_script.proofs.run.run_parts.Goals as goal

pub returns-in_err-config-clause-ran : goal.returns-in_err-config-clause-ran
returns-in_err-config-clause-ran g c =
    let told : c.from_residual.result ≡ Err (Config c.in_err-config.field-0.0) = search rules in
    faulty_at_once c.args.config.now c.args.script.now c.in_err-config.field-0.0 _ _ c.in_err-config.ensures.fault told

pub returns-in_err-runner-clause-ran : goal.returns-in_err-runner-clause-ran
returns-in_err-runner-clause-ran g c =
    let short : c.from_residual-in_err-runner.result ≡ Err Memory = search rules in
    short_at_once c.args.config.now c.args.script.now c.in_ok-config.config _ _ c.in_ok-config.ensures.config short

pub returns-clause-found : goal.returns-clause-found
returns-clause-found g c due is other = absurd (no_config_fault c.run_script.result due c.run_script.ensures.fault is)
