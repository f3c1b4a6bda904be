use Rattle.std.proofs.Common.{codes, refl}
use Rattle.std.proofs.lemmas.Result.{err_from_is_err_and}
use Rattle.clap.specs.Words.{found_of, rows_of}
use Rattle.program_words.proofs.AuditLemmas.{asks_no_audit}
use Rattle.program_words.proofs.words.asked_to_audit.Goals as goal

pub returns-in_err-audit_of-clause-fault : goal.returns-in_err-audit_of-clause-fault
returns-in_err-audit_of-clause-fault c =
    let p = err_from_is_err_and c.from_residual.result c.from_residual.ensures.1 in
    rw (p.1, p.2) (asks_no_audit (codes "audit") (rows_of (found_of c.args.matches.now)) c.in_err-audit_of.field-0.0 refl c.in_err-audit_of.ensures.fault)
