-- A text with a space for each line feed has none.
use Rattle.std.proofs.Common.{◌≡◌, ◌≤◌, ◌+◌, ◌/◌, ℕ, List, [], ◌∷◌, refl, arith, true, map}
use Rattle.std.specs.Prelude.{encode_utf8_all}
use Rattle.std.specs.Str.{chars}
use Rattle.std.proofs.lemmas.Bool.{and_from, cond_both}
use Rattle.std.proofs.lemmas.Bool.Decides.{nat_tests}
use Rattle.lpd_values.proofs.PieceLemmas.{list_all-join}
use Rattle.lpd_values.specs.Kept.{is_line_feed}
use Rattle.lpd_values.specs.Pieces.{is_kept}
use Rattle.control_lines.specs.Answers.{IsOneLine}
use Rattle.status_lines.specs.Pieces.{one_line, unbroken}
use lib.Dec.{ltb}
use lib.Utf8.{encode, next}

kept : (b : ℕ) → (b ≡ 10 → ⊥) → is_kept is_line_feed b ≡ true
kept b h = grind (arith, nat_tests)

high : (b : ℕ) → 128 ≤ b → is_kept is_line_feed b ≡ true
high b h = grind (arith, nat_tests)

-- the octets of a character that is no line feed
one_character : (c : ℕ) → (c ≡ 10 → ⊥) → IsOneLine (encode c)
unfolding encode
one_character c h =
    cond_both (ltb c 128) (c ∷ []) _ IsOneLine (λ e. and_from _ _ (kept c h) refl) (λ e.
    cond_both (ltb c 2048) ((192 + c / 64) ∷ next c ∷ []) _ IsOneLine
    (λ e. and_from _ _ (high (192 + c / 64) (omega arith)) (and_from _ _ (high (next c) (omega arith)) refl)) (λ e.
    cond_both (ltb c 65536) ((224 + c / 4096) ∷ next (c / 64) ∷ next c ∷ []) ((240 + c / 262144) ∷ next (c / 4096) ∷ next (c / 64) ∷ next c ∷ []) IsOneLine
    (λ e. and_from _ _ (high (224 + c / 4096) (omega arith)) (and_from _ _ (high (next (c / 64)) (omega arith)) (and_from _ _ (high (next c) (omega arith)) refl)))
    (λ e. and_from _ _ (high (240 + c / 262144) (omega arith)) (and_from _ _ (high (next (c / 4096)) (omega arith)) (
    and_from _ _ (high (next (c / 64)) (omega arith)) (and_from _ _ (high (next c) (omega arith)) refl))))))

unbroken_is_no_feed : (c : ℕ) → unbroken c ≡ 10 → ⊥
unbroken_is_no_feed c e = grind (arith, nat_tests)

characters : (cs : List ℕ) → IsOneLine (encode_utf8_all (map unbroken cs))
characters [] = refl
characters (c ∷ cs) =
    list_all-join (is_kept is_line_feed) (encode (unbroken c)) (encode_utf8_all (map unbroken cs))
    (one_character (unbroken c) (unbroken_is_no_feed c)) (characters cs)

pub no_feed : (text : List ℕ) → IsOneLine (one_line text)
no_feed text = characters (chars text)
