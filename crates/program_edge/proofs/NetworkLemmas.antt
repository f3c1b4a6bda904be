-- What a network's text says of the two parts that it is read by.
use Rattle.std.proofs.Common.{◌≡◌, ◌∙◌, ℕ, List, Option, Some, None, Bor, arith, inl, inr, sym, subst}
use Rattle.program_edge.specs.NetworkParts.{IsBits, IsBitsText, StandsBehind}
use Rattle.program_edge.specs.Networks.{NamesBits}
use Rattle.program_edge.proofs.NumeralLemmas.{one_plain_number}

-- the bits that the whole text names are those that its second part names
pub bits_behind : (text : List ℕ) (o : Option (Bor (List ℕ))) → StandsBehind text o → (bits : ℕ) → NamesBits text bits → IsBits o bits
bits_behind text None stands bits (inl h) = h.1
bits_behind text None stands bits (inr h) = absurd (omega arith)
bits_behind text (Some rest) stands bits (inl h) = absurd (omega arith)
bits_behind text (Some rest) stands bits (inr h) = subst (λ t. IsBitsText t bits) (sym stands.1) h.1

-- a part names one number
pub one_number : (o : Option (Bor (List ℕ))) (a b : ℕ) → IsBits o a → IsBits o b → a ≡ b
one_number None a b h k = h ∙ sym k
one_number (Some text) a b h k = one_plain_number text.now a b h.0 k.0
