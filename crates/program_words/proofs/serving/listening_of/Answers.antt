use Rattle.std.proofs.lemmas.Result.{err_from_is_err_and}
use Rattle.program_words.proofs.serving.listening_of.Goals as goal

pub returns-in_err-number_of-clause-fault : goal.returns-in_err-number_of-clause-fault
returns-in_err-number_of-clause-fault c =
    let p = err_from_is_err_and c.from_residual.result c.from_residual.ensures.1 in
    rw (p.1, p.2, c.in_err-number_of.ensures.fault.0) (λ s is. c.in_err-number_of.ensures.fault.1 s.settings.port is.port)

pub returns-in_err-sessions_of-clause-fault : goal.returns-in_err-sessions_of-clause-fault
returns-in_err-sessions_of-clause-fault c =
    let p = err_from_is_err_and c.from_residual-in_err-sessions_of.result c.from_residual-in_err-sessions_of.ensures.1 in
    rw (p.1, p.2, c.in_err-sessions_of.ensures.fault.0) (λ s is. c.in_err-sessions_of.ensures.fault.1 s.settings.sessions is.sessions)

pub returns-in_err-count_of-clause-fault : goal.returns-in_err-count_of-clause-fault
returns-in_err-count_of-clause-fault c =
    let p = err_from_is_err_and c.from_residual-in_err-count_of.result c.from_residual-in_err-count_of.ensures.1 in
    rw (p.1, p.2, c.in_err-count_of.ensures.fault.0) (λ s is. c.in_err-count_of.ensures.fault.1 s.settings.connections is.connections)
