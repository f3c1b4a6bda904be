-- How a laid out line is cut into words, and back.
use Rattle.std.proofs.Common.{◌≡◌, ℕ, Bool, true, false, not, ◌||◌, List, [], ◌∷◌, ◌++◌, refl, ap, sym, ◌∙◌, ◌⊎◌, inl, inr, arith}
use Rattle.std.proofs.lemmas.Bool.{and_parts, and_from, both_ways, cases_Bool}
use Rattle.std.specs.List.{list_all}
use Rattle.std.proofs.lemmas.Bool.Decides.{nat_tests}
use Rattle.lpd_values.specs.Kinds.{is_space, is_word_octet, is_text_octet}
use Rattle.lpd_values.specs.Pieces.{is_kept, octet_before}
use Rattle.lpd_commands.specs.Line.{begins_word, words_of, is_worded}
use Rattle.lpd_commands.specs.Layout.{IsWord, AreLaidOut, IsLine}
use Rattle.lpd_values.proofs.PieceLemmas.{pieces_of-space, pieces_of-octet, begins_piece-blank, begins_piece-gap, list_all-join, list_all-wider, pieces_of-append, pieces_of-blank, pieces_of-gap}

pub word_not_space : (b : ℕ) → is_word_octet b ≡ true → is_space b ≡ false
word_not_space b h = grind (arith, nat_tests)

text_of_word : (b : ℕ) → is_word_octet b ≡ true → is_text_octet b ≡ true
text_of_word b h = rw h refl

text_of_space : (b : ℕ) → is_space b ≡ true → is_text_octet b ≡ true
text_of_space b h = ap (λ v. is_word_octet b || v) h ∙ or_true (is_word_octet b)
  where
    or_true : (a : Bool) → (a || true) ≡ true
    or_true true = refl
    or_true false = refl

word_of_text : (b : ℕ) → is_text_octet b ≡ true → is_space b ≡ false → is_word_octet b ≡ true
word_of_text b h k = only (is_word_octet b) (is_space b) h k
  where
    only : (a c : Bool) → (a || c) ≡ true → c ≡ false → a ≡ true
    only true c h k = refl
    only false c h k = sym k ∙ h

word_kept : (s : List ℕ) → list_all is_word_octet s ≡ true → list_all (is_kept is_space) s ≡ true
word_kept = list_all-wider is_word_octet (is_kept is_space) (λ b h. ap not (word_not_space b h))

-- operands as they are laid out are the words of their text
pub laid_out-words : (ws : List (List ℕ)) (text : List ℕ) → AreLaidOut ws text → (words_of text ≡ ws) × (begins_word text ≡ false) × (list_all is_text_octet text ≡ true)
laid_out-words [] text h = (pieces_of-blank is_space text h, begins_piece-blank is_space text h, list_all-wider is_space is_text_octet text_of_space text h)
laid_out-words (w ∷ ws) text h =
    let ih = laid_out-words ws h.1 h.6 in
    let words : words_of (h.0 ++ (w ++ h.1)) ≡ w ∷ ws =
    pieces_of-gap is_space h.0 (w ++ h.1) h.4 ∙ (pieces_of-append is_space w h.1 h.5.0 (word_kept w h.5.1) ih.1 ∙ ap (λ v. w ∷ v) ih.0) in
    let texts : list_all is_text_octet (h.0 ++ (w ++ h.1)) ≡ true =
    list_all-join is_text_octet h.0 (w ++ h.1) (list_all-wider is_space is_text_octet text_of_space h.0 h.4)
    (list_all-join is_text_octet w h.1 (list_all-wider is_word_octet is_text_octet text_of_word w h.5.1) ih.2) in
    (ap words_of h.2 ∙ words, ap begins_word h.2 ∙ begins_piece-gap is_space h.0 (w ++ h.1) h.3 h.4, ap (list_all is_text_octet) h.2 ∙ texts)

begins_with_word : (w rest : List ℕ) → IsWord w → begins_word (w ++ rest) ≡ true
begins_with_word [] rest h = absurd (omega (arith, h.0))
begins_with_word (b ∷ bs) rest h = ap not (word_not_space b (and_parts _ _ h.1).0)

-- a laid out line is its code and a text of these words
pub line_words : (code : ℕ) (w : List ℕ) (ops : List (List ℕ)) (line : List ℕ) → IsLine code w ops line → (rest : List ℕ) × (line ≡ code ∷ rest) × (is_worded rest ≡ true) × (words_of rest ≡ w ∷ ops)
line_words code w ops line h =
    let laid = laid_out-words ops h.0 h.3 in (
      w ++ h.0,
      h.1,
      and_from _ _ (begins_with_word w h.0 h.2) (list_all-join is_text_octet w h.0 (list_all-wider is_word_octet is_text_octet text_of_word w h.2.1) laid.2),
      pieces_of-append is_space w h.0 h.2.0 (word_kept w h.2.1) laid.1 ∙ ap (λ v. w ∷ v) laid.0,
    )

-- a text that begins with a word
pub record Worded (s : List ℕ) : Type 0 where
  pub first : List ℕ
  pub rest : List ℕ
  pub joins : s ≡ first ++ rest
  pub word : IsWord first
  pub laid : AreLaidOut (words_of rest) rest
  pub words : words_of s ≡ first ∷ words_of rest

abbrev pub Shape : List ℕ → Type 0
Shape s = ((begins_word s ≡ false) × AreLaidOut (words_of s) s) ⊎ ((begins_word s ≡ true) × Worded s)

longer_gap : (b : ℕ) → is_space b ≡ true → (ws : List (List ℕ)) (text : List ℕ) → AreLaidOut ws text → AreLaidOut ws (b ∷ text)
longer_gap b k [] text h = and_from _ _ k h
longer_gap b k (w ∷ ws) text h = (b ∷ h.0, h.1, ap (λ v. b ∷ v) h.2, omega arith, and_from _ _ k h.4, h.5, h.6)

after_space : (b : ℕ) (bs : List ℕ) → is_space b ≡ true → Shape bs → AreLaidOut (words_of bs) (b ∷ bs)
after_space b bs k (inl h) = longer_gap b k (words_of bs) bs h.1
after_space b bs k (inr h) =
    let w = h.1 in
    rw w.words (b ∷ [], w.rest, ap (λ v. b ∷ v) w.joins, omega arith, and_from _ _ k refl, w.word, w.laid)

word_at : (b : ℕ) (bs : List ℕ) → is_space b ≡ false → is_word_octet b ≡ true → Shape bs → Worded (b ∷ bs)
word_at b bs k m (inl h) =
    record {
      first = b ∷ [];
      rest = bs;
      joins = refl;
      word = (omega arith, and_from _ _ m refl);
      laid = h.1;
      words = pieces_of-octet is_space b bs k ∙ ap (λ v. octet_before b v (words_of bs)) h.0;
    }
word_at b bs k m (inr h) =
    let w = h.1 in
    record {
      first = b ∷ w.first;
      rest = w.rest;
      joins = ap (λ v. b ∷ v) w.joins;
      word = (omega arith, and_from _ _ m w.word.1);
      laid = w.laid;
      words = pieces_of-octet is_space b bs k ∙ (ap (λ v. octet_before b v (words_of bs)) h.0 ∙ ap (octet_before b true) w.words);
    }

-- a text of words and white space is laid out as its words
pub shape : (s : List ℕ) → list_all is_text_octet s ≡ true → Shape s
shape [] h = inl (refl, refl)
shape (b ∷ bs) h =
    elim (cases_Bool (is_space b)) [
      | inl k ↦ inl (ap not k, rw (pieces_of-space is_space b bs k) (after_space b bs k (shape bs (and_parts _ _ h).1)))
      | inr k ↦ inr (ap not k, word_at b bs k (word_of_text b (and_parts _ _ h).0 k) (shape bs (and_parts _ _ h).1))
    ]

pub worded : (s : List ℕ) → is_worded s ≡ true → Worded s
worded s h =
    elim (shape s (and_parts _ _ h).1) [
      | inl k ↦ absurd (both_ways _ k.0 (and_parts _ _ h).0)
      | inr k ↦ k.1
    ]

pub line_of_worded : (code : ℕ) (s : List ℕ) (w : Worded s) → IsLine code w.first (words_of w.rest) (code ∷ s)
line_of_worded code s w = (w.rest, ap (λ v. code ∷ v) w.joins, w.word, w.laid)
