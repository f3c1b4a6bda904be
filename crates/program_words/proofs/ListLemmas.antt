-- The words of a list, copied one after another.
use Rattle.std.proofs.Common.{◌≡◌, ◌∙◌, ◌<◌, ◌++◌, ◌∷◌, ℕ, Bor, List, [], ap, arith, get_or, length, refl, suc, take, zero}
use Rattle.program_words.proofs.AllowLemmas.{texts}

texts_more : (words : List (Bor (List ℕ))) (i : ℕ) (other : Bor (List ℕ)) → i < length words → take i (texts words) ++ (get_or words i other).now ∷ [] ≡ take (suc i) (texts words)
texts_more [] i other few = absurd (omega arith)
texts_more (w ∷ ws) zero other few = refl
texts_more (w ∷ ws) (suc i) other few = ap (λ rest. w.now ∷ rest) (texts_more ws i other (omega arith))

-- one more word was copied
pub one_more_copied : (words : List (Bor (List ℕ))) (i : ℕ) (other : Bor (List ℕ)) (before after : List (List ℕ)) (octets : List ℕ) → i < length words
    → before ≡ take i (texts words) → after ≡ before ++ octets ∷ [] → octets ≡ (get_or words i other).now → after ≡ take (suc i) (texts words)
one_more_copied words i other before after octets few copied more same =
    more ∙ ap (λ (b : List (List ℕ)). b ++ octets ∷ []) copied ∙ ap (λ (o : List ℕ). take i (texts words) ++ o ∷ []) same
    ∙ texts_more words i other few
