use Rattle.std.proofs.Common.{◌∙◌, ap}
use Rattle.std.proofs.lemmas.Result.{err_from_is_err_and}
use Rattle.server_house.specs.Faults.{write_faults}
use Rattle.server_house.proofs.Rotations.{TellsRotations-written, TellsRotations-counts, TellsRotations-fault, WritesAll-ok}
use Rattle.lpd_daemon.proofs.serving.run_house.Goals as goal

pub returns-clause-printed : goal.returns-clause-printed
returns-clause-printed g c =
    WritesAll-ok c.work-told.result.0 c.finish-ended.result _ _ _ _ _ c.in_ok-print_or_tell.ensures.written (TellsRotations-written _ _ _ _ _ c.work-told.ensures) c.finish-ended.ensures.before c.finish-ended.ensures.written

pub returns-clause-write_fault : goal.returns-clause-write_fault
returns-clause-write_fault g c =
    c.finish-ended.ensures.write_fault _ (TellsRotations-counts _ _ _ _ _ c.work-told.ensures ∙ ap (λ n. write_faults n c.work-told.result.0) c.in_ok-print_or_tell.ensures.write_fault)

pub returns-clause-fault : goal.returns-clause-fault
returns-clause-fault g c = c.finish-ended.ensures.fault (TellsRotations-fault _ _ _ _ _ c.work-told.ensures)

pub returns-in_err-print_or_tell-clause-write_fault : goal.returns-in_err-print_or_tell-clause-write_fault
returns-in_err-print_or_tell-clause-write_fault g c =
    let p = err_from_is_err_and c.from_residual.result c.from_residual.ensures.1 in
    rw (p.1, p.2) c.in_err-print_or_tell.ensures.write_fault

pub returns-in_err-print_or_tell-clause-fault : goal.returns-in_err-print_or_tell-clause-fault
returns-in_err-print_or_tell-clause-fault g c =
    let p = err_from_is_err_and c.from_residual.result c.from_residual.ensures.1 in
    rw (p.1, p.2) c.in_err-print_or_tell.ensures.fault
