use Rattle.std.proofs.Common.{◌≡◌, ◌<◌, ◌^◌, ◌∙◌, ℕ, arith, subst, sym}
use Rattle.std.specs.Fmt.{decimal}
use Rattle.std.proofs.lemmas.Fmt.{decimal_injective}
use Rattle.program_edge.proofs.numerals.plain_number.Goals as goal

pub returns-in-Err-clause-none : goal.returns-in-Err-clause-none
returns-in-Err-clause-none c = λ n plain.
    let number = c.in_ok-number.number in
    let text : c.args.text.now ≡ decimal number = sym c.as_bytes.ensures.value ∙ c.in_ok-number.ensures in
    let same = decimal_injective n number (omega arith) (omega (arith, c)) (sym plain.0 ∙ text) in
    c.in-Err.ensures (subst (λ (m : ℕ). m < 2 ^ 32) same plain.1)
