use Rattle.std.proofs.lemmas.Result.{err_from_is_err_and}
use Rattle.clap.specs.Words.{found_of, rows_of}
use Rattle.program_words.proofs.QuestionLemmas.{no_agent, no_command, no_queue}
use Rattle.program_words.proofs.questions.query_of.Goals as goal

pub returns-in_err-text-clause-fault : goal.returns-in_err-text-clause-fault
returns-in_err-text-clause-fault c =
    let p = err_from_is_err_and c.from_residual.result c.from_residual.ensures.1 in
    rw (p.1, p.2, c.in_err-text.ensures.fault.0) (no_queue c.args.name.now (rows_of (found_of c.args.matches.now)) c.in_err-text.ensures.fault.1)

pub returns-in_err-agent-in-remove-clause-fault : goal.returns-in_err-agent-in-remove-clause-fault
returns-in_err-agent-in-remove-clause-fault c =
    let r = c.from_residual-in_err-agent-in-remove in
    let p = err_from_is_err_and r.result r.ensures.1 in
    rw (p.1, p.2, c.in_err-agent-in-remove.ensures.fault.0)
    (no_agent c.args.name.now (rows_of (found_of c.args.matches.now)) c.in-remove.is c.in_err-agent-in-remove.ensures.fault.1)

pub returns-in_default-clause-fault : goal.returns-in_default-clause-fault
returns-in_default-clause-fault c =
    no_command c.args.name.now (rows_of (found_of c.args.matches.now)) c.in_default.not-start c.in_default.not-state c.in_default.not-remove
