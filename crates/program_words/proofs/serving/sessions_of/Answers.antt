use Rattle.std.proofs.Common.{Ok, Err, refl, sym, codes}
use Rattle.std.specs.Str.Parse.{ExplainsUnsignedError, HasUnsignedDigitsIfOk}
use Rattle.clap.specs.Words.{found_of, rows_of}
use Rattle.clap.proofs.WalkLemmas.{one_text-rows}
use Rattle.program_words.proofs.ServingLemmas.{none_given, number_given}
use Rattle.program_words.proofs.serving.sessions_of.Goals as goal

pub returns-in-Ok-clause-sessions : goal.returns-in-Ok-clause-sessions
returns-in-Ok-clause-sessions c =
    let found = found_of c.args.matches.now in
    let id = codes "sessions" in
    (c.in-Ok.sessions, number_given (λ t r. ExplainsUnsignedError 10 t r) (λ t r. HasUnsignedDigitsIfOk t r) 32 (rows_of found) id (Ok c.in-Ok.sessions) _ (sym (one_text-rows found id)) c.in-Ok.ensures.none c.in-Ok.ensures.value, c.unwrap_or.ensures)

pub returns-in-Err-clause-fault : goal.returns-in-Err-clause-fault
returns-in-Err-clause-fault c =
    let found = found_of c.args.matches.now in
    let id = codes "sessions" in
    (refl, λ sessions is. none_given (λ t r. ExplainsUnsignedError 10 t r) (λ t r. HasUnsignedDigitsIfOk t r) 32 (rows_of found) id (Err c.in-Err.field-0) _ (sym (one_text-rows found id)) c.in-Err.ensures.none c.in-Err.ensures.value is.0 is.1)
