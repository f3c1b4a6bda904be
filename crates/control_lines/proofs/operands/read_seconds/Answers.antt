use Rattle.std.proofs.Common.{◌<◌, ◌^◌, ℕ, sym, ◌∙◌, subst, arith}
use Rattle.std.proofs.lemmas.Fmt.{decimal_injective}
use Rattle.control_lines.proofs.operands.read_seconds.Goals as goal

pub returns-in-Err : goal.returns-in-Err
returns-in-Err c = λ n small e.
    let number = c.in_ok-number.number in
    let same = decimal_injective n number (omega arith) (omega (arith, c)) (sym e ∙ c.in_ok-number.ensures) in
    c.in-Err.ensures (subst (λ (m : ℕ). m < 2 ^ 32) same small)
