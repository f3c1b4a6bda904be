-- The pieces of a text, one after another.
use Rattle.std.proofs.Common.{◌≡◌, ◌<◌, ℕ, Bool, true, false, not, List, [], ◌∷◌, ◌+◌, ◌-◌, length, take, drop, refl, ap, ◌∙◌, ◌⊎◌, inl, inr, arith, one-add, ◌++◌, sym}
use Rattle.std.proofs.lemmas.List.Folds.{list_all-append}
use Rattle.std.proofs.lemmas.Bool.{not-true, and_parts, and_from, cases_Bool}
use Rattle.std.proofs.lemmas.Grind.{common_steps}
use Rattle.std.specs.List.{prefix_len, list_all}
use Rattle.lpd_values.specs.Pieces.{is_kept, begins_piece, octet_before, pieces_of}

pub pieces_of-space : (cut : ℕ → Bool) (b : ℕ) (bs : List ℕ) → cut b ≡ true → pieces_of cut (b ∷ bs) ≡ pieces_of cut bs
pieces_of-space cut b bs h = rw h refl

pub pieces_of-octet : (cut : ℕ → Bool) (b : ℕ) (bs : List ℕ) → cut b ≡ false → pieces_of cut (b ∷ bs) ≡ octet_before b (begins_piece cut bs) (pieces_of cut bs)
pieces_of-octet cut b bs h = rw h refl

pub prefix_len-yes : (p : ℕ → Bool) (b : ℕ) (bs : List ℕ) → p b ≡ true → prefix_len p (b ∷ bs) ≡ 1 + prefix_len p bs
prefix_len-yes p b bs h = rw h refl

pub prefix_len-no : (p : ℕ → Bool) (b : ℕ) (bs : List ℕ) → p b ≡ false → prefix_len p (b ∷ bs) ≡ 0
prefix_len-no p b bs h = rw h refl

-- white space in front is passed over
pub pieces_of-after_space : (cut : ℕ → Bool) (s : List ℕ) → pieces_of cut (drop (prefix_len cut s) s) ≡ pieces_of cut s
pieces_of-after_space cut [] = refl
pieces_of-after_space cut (b ∷ bs) =
    elim (cases_Bool (cut b)) [
      | inl h ↦ rw (prefix_len-yes cut b bs h, pieces_of-space cut b bs h, one-add) (pieces_of-after_space cut bs)
      | inr h ↦ rw (prefix_len-no cut b bs h) refl
    ]

-- and then a word begins, or nothing is left
pub begins_piece-after_space : (cut : ℕ → Bool) (s : List ℕ) → (drop (prefix_len cut s) s ≡ []) ⊎ (begins_piece cut (drop (prefix_len cut s) s) ≡ true)
begins_piece-after_space cut [] = inl refl
begins_piece-after_space cut (b ∷ bs) =
    elim (cases_Bool (cut b)) [
      | inl h ↦ rw (prefix_len-yes cut b bs h, one-add) (begins_piece-after_space cut bs)
      | inr h ↦ rw (prefix_len-no cut b bs h) (inr (ap not h))
    ]

-- the first word of a text that begins with one
pub pieces_of-word : (cut : ℕ → Bool) (s : List ℕ) → begins_piece cut s ≡ true → pieces_of cut s ≡ take (prefix_len (is_kept cut) s) s ∷ pieces_of cut (drop (prefix_len (is_kept cut) s) s)
pieces_of-word cut [] h = cc
pieces_of-word cut (b ∷ []) h = let e : cut b ≡ false = not-true (cut b) h in rw (prefix_len-yes (is_kept cut) b [] h, pieces_of-octet cut b [] e) refl
pieces_of-word cut (b ∷ c ∷ bs) h =
    let e : cut b ≡ false = not-true (cut b) h in
    elim (cases_Bool (cut c)) [
      | inl k ↦
          let n : prefix_len (is_kept cut) (c ∷ bs) ≡ 0 = prefix_len-no (is_kept cut) c bs (ap not k) in
          rw (prefix_len-yes (is_kept cut) b (c ∷ bs) h, pieces_of-octet cut b (c ∷ bs) e, n) (ap (λ v. octet_before b (not v) (pieces_of cut (c ∷ bs))) k)
      | inr k ↦
          let n : pieces_of cut (c ∷ bs) ≡ take (prefix_len (is_kept cut) (c ∷ bs)) (c ∷ bs) ∷ pieces_of cut (drop (prefix_len (is_kept cut) (c ∷ bs)) (c ∷ bs)) = pieces_of-word cut (c ∷ bs) (ap not k) in
          rw (prefix_len-yes (is_kept cut) b (c ∷ bs) h, pieces_of-octet cut b (c ∷ bs) e, one-add)
          (ap (λ v. octet_before b (not v) (pieces_of cut (c ∷ bs))) k ∙ ap (octet_before b true) n)
    ]

pub word_some : (cut : ℕ → Bool) (s : List ℕ) → begins_piece cut s ≡ true → 0 < prefix_len (is_kept cut) s
word_some cut [] h = cc
word_some cut (b ∷ bs) h = let e = prefix_len-yes (is_kept cut) b bs h in omega arith

pub whole_rest : (s : List ℕ) (n : ℕ) → take (length s - n) (drop n s) ≡ drop n s
whole_rest s n = grind (arith, common_steps)

-- as the code has it
pub skip_words : (cut : ℕ → Bool) (s : List ℕ) (n : ℕ) → n ≡ prefix_len cut s → pieces_of cut (take (length s - n) (drop n s)) ≡ pieces_of cut s
skip_words cut s n e = rw (whole_rest s n, e) (pieces_of-after_space cut s)

pub skip_begins : (cut : ℕ → Bool) (s : List ℕ) (n : ℕ) → n ≡ prefix_len cut s → (take (length s - n) (drop n s) ≡ []) ⊎ (begins_piece cut (take (length s - n) (drop n s)) ≡ true)
skip_begins cut s n e = rw (whole_rest s n, e) (begins_piece-after_space cut s)

pub split_words : (cut : ℕ → Bool) (s front back : List ℕ) (n : ℕ) → begins_piece cut s ≡ true → n ≡ prefix_len (is_kept cut) s → front ≡ take n s → back ≡ drop n s → pieces_of cut s ≡ front ∷ pieces_of cut back
split_words cut s front back n h e f b = rw (f, b, e) (pieces_of-word cut s h)

-- where each octet that passes p passes q, so do lists
pub list_all-wider : (p q : ℕ → Bool) → ((b : ℕ) → p b ≡ true → q b ≡ true) → (s : List ℕ) → list_all p s ≡ true → list_all q s ≡ true
list_all-wider p q h [] k = refl
list_all-wider p q h (b ∷ bs) k = and_from _ _ (h b (and_parts _ _ k).0) (list_all-wider p q h bs (and_parts _ _ k).1)

pub list_all-join : (p : ℕ → Bool) (s t : List ℕ) → list_all p s ≡ true → list_all p t ≡ true → list_all p (s ++ t) ≡ true
list_all-join p s t h k = list_all-append p s t ∙ and_from _ _ h k

pub pieces_of-append : (cut : ℕ → Bool) (w rest : List ℕ) → 0 < length w → list_all (is_kept cut) w ≡ true → begins_piece cut rest ≡ false → pieces_of cut (w ++ rest) ≡ w ∷ pieces_of cut rest
pieces_of-append cut [] rest some h k = absurd (omega arith)
pieces_of-append cut (b ∷ []) rest some h k =
    pieces_of-octet cut b rest (not_not (cut b) (and_parts _ _ h).0) ∙ ap (λ v. octet_before b v (pieces_of cut rest)) k
  where
    not_not : (a : Bool) → not a ≡ true → a ≡ false
    not_not true h = sym h
    not_not false h = refl
pieces_of-append cut (b ∷ c ∷ w) rest some h k =
    let ih : pieces_of cut (c ∷ (w ++ rest)) ≡ (c ∷ w) ∷ pieces_of cut rest = pieces_of-append cut (c ∷ w) rest (omega arith) (and_parts _ _ h).1 k in
    pieces_of-octet cut b (c ∷ (w ++ rest)) (not_not (cut b) (and_parts _ _ h).0)
    ∙ (ap (λ v. octet_before b v (pieces_of cut (c ∷ (w ++ rest)))) (and_parts _ _ (and_parts _ _ h).1).0 ∙ ap (octet_before b true) ih)
  where
    not_not : (a : Bool) → not a ≡ true → a ≡ false
    not_not true h = sym h
    not_not false h = refl

pub pieces_of-gap : (cut : ℕ → Bool) (gap rest : List ℕ) → list_all cut gap ≡ true → pieces_of cut (gap ++ rest) ≡ pieces_of cut rest
pieces_of-gap cut [] rest h = refl
pieces_of-gap cut (b ∷ bs) rest h = pieces_of-space cut b (bs ++ rest) (and_parts _ _ h).0 ∙ pieces_of-gap cut bs rest (and_parts _ _ h).1

pub begins_piece-gap : (cut : ℕ → Bool) (gap rest : List ℕ) → 0 < length gap → list_all cut gap ≡ true → begins_piece cut (gap ++ rest) ≡ false
begins_piece-gap cut [] rest some h = absurd (omega arith)
begins_piece-gap cut (b ∷ bs) rest some h = ap not (and_parts _ _ h).0

pub pieces_of-blank : (cut : ℕ → Bool) (s : List ℕ) → list_all cut s ≡ true → pieces_of cut s ≡ []
pieces_of-blank cut [] h = refl
pieces_of-blank cut (b ∷ bs) h = pieces_of-space cut b bs (and_parts _ _ h).0 ∙ pieces_of-blank cut bs (and_parts _ _ h).1

pub begins_piece-blank : (cut : ℕ → Bool) (s : List ℕ) → list_all cut s ≡ true → begins_piece cut s ≡ false
begins_piece-blank cut [] h = refl
begins_piece-blank cut (b ∷ bs) h = ap not (and_parts _ _ h).0
