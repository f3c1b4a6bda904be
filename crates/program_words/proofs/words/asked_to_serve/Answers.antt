use Rattle.std.proofs.Common.{codes, refl}
use Rattle.std.proofs.lemmas.Result.{err_from_is_err_and}
use Rattle.clap.specs.Words.{found_of, rows_of}
use Rattle.program_words.proofs.QuestionLemmas.{no_serving}
use Rattle.program_words.proofs.ServingLemmas.{asks_no_server}
use Rattle.program_words.proofs.words.asked_to_serve.Goals as goal

pub returns-in_err-config-clause-fault : goal.returns-in_err-config-clause-fault
returns-in_err-config-clause-fault c =
    let p = err_from_is_err_and c.from_residual.result c.from_residual.ensures.1 in
    rw (p.1, p.2, c.in_err-config.ensures.fault.0) (no_serving (codes "serve") (rows_of (found_of c.args.matches.now)) refl c.in_err-config.ensures.fault.1)

pub returns-in_err-request-clause-fault : goal.returns-in_err-request-clause-fault
returns-in_err-request-clause-fault c =
    let r = c.from_residual-in_err-request in
    let p = err_from_is_err_and r.result r.ensures.1 in
    rw (p.1, p.2) (asks_no_server (codes "serve") (rows_of (found_of c.args.matches.now)) c.in_err-request.field-0.0 refl c.in_err-request.ensures.fault)
