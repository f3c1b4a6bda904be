-- Numbers in plain digits, by their text.
use Rattle.std.proofs.Common.{◌≡◌, ◌∙◌, ℕ, List, arith, sym}
use Rattle.std.proofs.lemmas.Fmt.{decimal_injective}
use Rattle.program_edge.specs.Numerals.{IsPlainNumber}

-- a text is one number
pub one_plain_number : (text : List ℕ) (a b : ℕ) → IsPlainNumber text a → IsPlainNumber text b → a ≡ b
one_plain_number text a b h k = decimal_injective a b (omega arith) (omega arith) (sym h.0 ∙ k.0)
