use Rattle.std.proofs.lemmas.Result.{err_from_is_err_and}
use Rattle.clap.specs.Words.{found_of, rows_of}
use Rattle.program_words.proofs.QuestionLemmas.{job_lacks_server}
use Rattle.program_words.proofs.words.sending_of.Goals as goal

pub returns-in_err-server-clause-fault : goal.returns-in_err-server-clause-fault
returns-in_err-server-clause-fault c =
    let p = err_from_is_err_and c.from_residual.result c.from_residual.ensures.1 in
    rw (p.1, p.2) (job_lacks_server (rows_of (found_of c.args.matches.now)) c.in_err-server.field-0.0 c.in_err-server.ensures.fault)

pub returns-in_err-number-clause-fault : goal.returns-in_err-number-clause-fault
returns-in_err-number-clause-fault c =
    let p = err_from_is_err_and c.from_residual-in_err-number.result c.from_residual-in_err-number.ensures.1 in
    rw (p.1, p.2, c.in_err-number.ensures.fault.0) (λ s is. c.in_err-number.ensures.fault.1 s.number is.number)
