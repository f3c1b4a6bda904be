use Rattle.std.proofs.Common.{refl}
use Rattle.std.proofs.lemmas.Result.{err_from_is_err_and}
use Rattle.program_words.proofs.printers.printer_limits_of.Goals as goal

pub returns-in_err-limit_of-2-clause-fault : goal.returns-in_err-limit_of-2-clause-fault
returns-in_err-limit_of-2-clause-fault c =
    let r = c.from_residual-in_err-limit_of-2 in
    let p = err_from_is_err_and r.result r.ensures.1 in
    rw (p.1, p.2, c.in_err-limit_of-2.ensures.fault.0)
    (refl, λ limits are. c.in_err-limit_of-2.ensures.fault.1 _ are.silence)
