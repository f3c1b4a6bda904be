use Rattle.std.proofs.lemmas.Result.{err_from_is_err_and}
use Rattle.program_words.proofs.questions.server_of.Goals as goal

pub returns-in_err-port-clause-fault : goal.returns-in_err-port-clause-fault
returns-in_err-port-clause-fault c =
    let p = err_from_is_err_and c.from_residual.result c.from_residual.ensures.1 in
    rw (p.1, p.2, c.in_err-port.ensures.fault.0) c.in_err-port.ensures.fault.1
