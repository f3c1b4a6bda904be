use Rattle.std.proofs.Common.{codes, refl}
use Rattle.std.proofs.lemmas.Result.{err_from_is_err_and}
use Rattle.clap.specs.Words.{found_of, rows_of}
use Rattle.program_words.proofs.AskedLemmas.{names_no_job}
use Rattle.program_words.proofs.QuestionLemmas.{asks_no_job}
use Rattle.program_words.proofs.words.asked_to_send.Goals as goal

pub returns-in_err-sending-clause-fault : goal.returns-in_err-sending-clause-fault
returns-in_err-sending-clause-fault c =
    let p = err_from_is_err_and c.from_residual.result c.from_residual.ensures.1 in
    rw (p.1, p.2) (asks_no_job (codes "send") (rows_of (found_of c.args.matches.now)) c.in_err-sending.field-0.0 refl c.in_err-sending.ensures.fault)

pub returns-in_err-envelope-clause-fault : goal.returns-in_err-envelope-clause-fault
returns-in_err-envelope-clause-fault c =
    let r = c.from_residual-in_err-envelope in
    let p = err_from_is_err_and r.result r.ensures.1 in
    rw (p.1, p.2)
    (names_no_job (codes "send") (rows_of (found_of c.args.matches.now)) c.in_ok-sending.sending c.in_err-envelope.field-0.0 refl c.in_ok-sending.ensures.read
    c.in_err-envelope.ensures.fault)
