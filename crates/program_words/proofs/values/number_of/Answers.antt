use Rattle.std.proofs.Common.{sym}
use Rattle.std.specs.Str.Parse.{ExplainsUnsignedError, HasUnsignedDigitsIfOk}
use Rattle.clap.specs.Words.{found_of, rows_of}
use Rattle.clap.proofs.WalkLemmas.{one_text-rows}
use Rattle.program_words.proofs.AskedLemmas.{no_number, number_read}
use Rattle.program_words.proofs.values.number_of.Goals as goal

pub returns-clause-number : goal.returns-clause-number
returns-clause-number c =
    let found = found_of c.args.matches.now in
    rw c.ok_or.ensures.value
    (number_read (λ t r. ExplainsUnsignedError 10 t r) (λ t r. HasUnsignedDigitsIfOk t r) (rows_of found) c.args.id.now c.get_one.result _ (sym (one_text-rows found c.args.id.now)) c.get_one.ensures.none c.get_one.ensures.value)

pub returns-clause-fault : goal.returns-clause-fault
returns-clause-fault c =
    let found = found_of c.args.matches.now in
    rw c.ok_or.ensures.value
    (no_number (λ t r. ExplainsUnsignedError 10 t r) (λ t r. HasUnsignedDigitsIfOk t r) (rows_of found) c.args.id.now c.get_one.result _ (sym (one_text-rows found c.args.id.now)) c.get_one.ensures.value)
