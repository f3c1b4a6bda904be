use Rattle.std.proofs.lemmas.Result.{err_from_is_err_and}
use Rattle.clap.specs.Words.{found_of, rows_of}
use Rattle.program_words.proofs.QuestionLemmas.{lacks_query, question_lacks_server}
use Rattle.program_words.proofs.questions.question_of.Goals as goal

pub returns-in_err-command-clause-fault : goal.returns-in_err-command-clause-fault
returns-in_err-command-clause-fault c =
    let p = err_from_is_err_and c.from_residual.result c.from_residual.ensures.1 in
    rw (p.1, p.2) (lacks_query c.args.name.now (rows_of (found_of c.args.matches.now)) c.in_err-command.field-0.0 c.in_err-command.ensures.fault)

pub returns-in_err-server-clause-fault : goal.returns-in_err-server-clause-fault
returns-in_err-server-clause-fault c =
    let r = c.from_residual-in_err-server in
    let p = err_from_is_err_and r.result r.ensures.1 in
    rw (p.1, p.2)
    (question_lacks_server c.args.name.now (rows_of (found_of c.args.matches.now)) c.in_err-server.field-0.0 (c.in_ok-command.command, c.in_ok-command.ensures.query) c.in_err-server.ensures.fault)
