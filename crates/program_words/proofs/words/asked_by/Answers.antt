use Rattle.std.proofs.lemmas.Result.{err_from_is_err_and}
use Rattle.clap.specs.Words.{found_of, rows_of}
use Rattle.program_words.proofs.QuestionLemmas.{asks_no_question}
use Rattle.program_words.proofs.words.asked_by.Goals as goal

pub returns-in_err-question_of-in_default-clause-fault : goal.returns-in_err-question_of-in_default-clause-fault
returns-in_err-question_of-in_default-clause-fault c =
    let p = err_from_is_err_and c.from_residual.result c.from_residual.ensures.1 in
    let d = c.in_default in
    rw (p.1, p.2)
    (asks_no_question c.args.name.now (rows_of (found_of c.args.matches.now)) c.in_err-question_of-in_default.field-0.0 d.not-check d.not-replay d.not-send d.not-serve d.not-control d.not-audit d.not-usage c.in_err-question_of-in_default.ensures.fault)
