-- The digits of a head are read back.
use Rattle.std.proofs.Common.{◌≡◌, ◌<◌, ◌++◌, ◌/◌, ◌%◌, ℕ, zero, suc, List, length, Ok, arith, refl, nat_eq, true, [], ◌∷◌, sym}
use Rattle.std.specs.Prelude.{take, drop}
use Rattle.std.specs.Int.{to_be_bytes, w32}
use Rattle.std.specs.Cmp.Lexicographic.{pointwise}
use Rattle.std.proofs.lemmas.Bool.{eq-eqb}
use Rattle.std.proofs.Math.Seq.{take-append_seam}
use Rattle.hex.specs.Hex.{IsBytes, encode_lower, lower_digits, decode_sized}
use Rattle.hex.proofs.HexLemmas.{decode_sized-encode_lower, length-encode_with}
use Rattle.job_heads.specs.Head.{head}

four_bytes : (a b c d : ℕ) → a < 256 → b < 256 → c < 256 → d < 256 → IsBytes (a ∷ b ∷ c ∷ d ∷ [])
four_bytes a b c d ha hb hc hd zero = ha
four_bytes a b c d ha hb hc hd (suc zero) = hb
four_bytes a b c d ha hb hc hd (suc (suc zero)) = hc
four_bytes a b c d ha hb hc hd (suc (suc (suc zero))) = hd
four_bytes a b c d ha hb hc hd (suc (suc (suc (suc i)))) = omega arith

are_bytes : (sender : ℕ) → IsBytes (to_be_bytes w32 sender)
are_bytes sender = four_bytes (sender / 16777216 % 256) (sender / 65536 % 256) (sender / 256 % 256) (sender % 256)
    (omega (arith)) (omega (arith)) (omega (arith)) (omega (arith))

take_all : (xs ys : List ℕ) (n : ℕ) → length xs ≡ n → take n (xs ++ ys) ≡ xs
take_all xs ys n is = rw (sym is) (take-append_seam xs ys)

of_digits : (sender : ℕ) → take 8 (drop 11 (head sender)) ≡ encode_lower (to_be_bytes w32 sender)
of_digits sender =
    take_all (encode_lower (to_be_bytes w32 sender)) (10 ∷ []) 8 (length-encode_with lower_digits (to_be_bytes w32 sender))

pub digits_read : (sender : ℕ) → decode_sized (take 8 (drop 11 (head sender))) 4 ≡ Ok (to_be_bytes w32 sender)
digits_read sender =
    rw (of_digits sender) (decode_sized-encode_lower (to_be_bytes w32 sender) 4 refl (are_bytes sender))

-- octets are found equal to themselves
pub found_equal : (xs : List ℕ) → pointwise nat_eq xs xs ≡ true
found_equal [] = refl
found_equal (x ∷ xs) = rw (eq-eqb x x refl, found_equal xs) refl
