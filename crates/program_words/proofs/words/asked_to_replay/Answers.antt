use Rattle.std.proofs.Common.{codes, inl, inr, refl}
use Rattle.std.proofs.lemmas.Result.{err_from_is_err_and}
use Rattle.clap.specs.Words.{found_of, rows_of}
use Rattle.program_words.proofs.QuestionLemmas.{no_replay}
use Rattle.program_words.proofs.words.asked_to_replay.Goals as goal

pub returns-in_err-config-clause-fault : goal.returns-in_err-config-clause-fault
returns-in_err-config-clause-fault c =
    let p = err_from_is_err_and c.from_residual.result c.from_residual.ensures.1 in
    rw (p.1, p.2, c.in_err-config.ensures.fault.0) (no_replay (codes "replay") (rows_of (found_of c.args.matches.now)) refl (inl c.in_err-config.ensures.fault.1))

pub returns-in_err-script-clause-fault : goal.returns-in_err-script-clause-fault
returns-in_err-script-clause-fault c =
    let r = c.from_residual-in_err-script in
    let p = err_from_is_err_and r.result r.ensures.1 in
    rw (p.1, p.2, c.in_err-script.ensures.fault.0) (no_replay (codes "replay") (rows_of (found_of c.args.matches.now)) refl (inr c.in_err-script.ensures.fault.1))
