-- The lines of a text.
use Rattle.std.proofs.Common.{◌≡◌, ◌<◌, ℕ, Bool, true, List, [], ◌∷◌, ◌-◌, length, take, drop, refl, ap, sym, ◌∙◌, arith, get_or, one-add, inl, inr}
use Rattle.std.proofs.lemmas.Bool.{and_parts, cases_Bool}
use Rattle.std.specs.List.{list_all, prefix_len}
use Rattle.std.proofs.lemmas.Grind.{common_steps}
use Rattle.lpd_values.proofs.PieceLemmas.{split_words, prefix_len-yes, prefix_len-no}
use Rattle.lpd_values.specs.Pieces.{is_kept, begins_piece, pieces_of}

-- a line is its first octet and the rest
pub head_and_rest : (s : List ℕ) → 0 < length s → get_or s 0 0 ∷ take (length s - 1) (drop 1 s) ≡ s
head_and_rest [] h = absurd (omega arith)
head_and_rest (b ∷ bs) h = grind (arith, common_steps)

pub split_lines : (cut : ℕ → Bool) (s front back : List ℕ) (n : ℕ) → begins_piece cut s ≡ true → n ≡ prefix_len (is_kept cut) s → front ≡ take n s → back ≡ drop n s → 0 < length front → pieces_of cut s ≡ (get_or front 0 0 ∷ take (length front - 1) (drop 1 front)) ∷ pieces_of cut back
split_lines cut s front back n h e f b k = split_words cut s front back n h e f b ∙ ap (λ l. l ∷ pieces_of cut back) (sym (head_and_rest front k))

pub list_all-prefix : (p : ℕ → Bool) (s : List ℕ) → list_all p (take (prefix_len p s) s) ≡ true
list_all-prefix p [] = refl
list_all-prefix p (b ∷ bs) =
    elim (cases_Bool (p b)) [
      | inl h ↦ rw (prefix_len-yes p b bs h, one-add) (rw h (list_all-prefix p bs))
      | inr h ↦ rw (prefix_len-no p b bs h) refl
    ]

list_all-rest : (p : ℕ → Bool) (s : List ℕ) → list_all p s ≡ true → list_all p (take (length s - 1) (drop 1 s)) ≡ true
list_all-rest p [] h = refl
list_all-rest p (b ∷ bs) h =
    let e : take (length (b ∷ bs) - 1) (drop 1 (b ∷ bs)) ≡ bs = grind (arith, common_steps) in
    rw e (and_parts _ _ h).1

pub operand_kept : (p : ℕ → Bool) (s front : List ℕ) (n : ℕ) → n ≡ prefix_len p s → front ≡ take n s → list_all p (take (length front - 1) (drop 1 front)) ≡ true
operand_kept p s front n e f = list_all-rest p front (rw (f, e) (list_all-prefix p s))
