use Rattle.std.proofs.Common.{Ok, Err, refl, sym}
use Rattle.std.specs.Str.Parse.{ExplainsUnsignedError, HasUnsignedDigitsIfOk}
use Rattle.clap.specs.Words.{found_of, rows_of}
use Rattle.clap.proofs.WalkLemmas.{one_text-rows}
use Rattle.program_words.proofs.ServingLemmas.{none_given, number_given}
use Rattle.program_words.proofs.values.count_of.Goals as goal

pub returns-in-Ok-clause-count : goal.returns-in-Ok-clause-count
returns-in-Ok-clause-count c =
    let found = found_of c.args.matches.now in
    number_given (λ t r. ExplainsUnsignedError 10 t r) (λ t r. HasUnsignedDigitsIfOk t r) 64 (rows_of found) c.args.id.now (Ok c.in-Ok.count) _ (sym (one_text-rows found c.args.id.now)) c.in-Ok.ensures.none c.in-Ok.ensures.value

pub returns-in-Err-clause-fault : goal.returns-in-Err-clause-fault
returns-in-Err-clause-fault c =
    let found = found_of c.args.matches.now in
    (refl, none_given (λ t r. ExplainsUnsignedError 10 t r) (λ t r. HasUnsignedDigitsIfOk t r) 64 (rows_of found) c.args.id.now (Err c.in-Err.field-0) _ (sym (one_text-rows found c.args.id.now)) c.in-Err.ensures.none c.in-Err.ensures.value)
