-- How a laid out text is cut into lines and operands, and back.
use Rattle.std.proofs.Common.{◌≡◌, ℕ, Bool, true, false, not, ◌==◌, List, [], ◌∷◌, ◌++◌, refl, ap, sym, ◌∙◌, subst, ◌⊎◌, inl, inr, arith, if◌then◌else◌, Some, slice_get}
use Rattle.std.proofs.lemmas.Bool.{not-true, and_parts, and_from, cases_Bool}
use Rattle.std.proofs.lemmas.Bool.Decides.{nat_tests}
use Rattle.lpd_values.specs.Pieces.{begins_piece, octet_before}
use Rattle.lpd_values.proofs.PieceLemmas.{pieces_of-space, pieces_of-octet, pieces_of-append, pieces_of-gap, pieces_of-blank}
use Rattle.lpd_values.specs.Kept.{is_line_feed}
use Rattle.control_file.specs.Text.{lines_of, operands_of}
use Rattle.control_file.specs.Layout.{IsLine, EndsLine, AreLines, is_led, NoneLed, IsFirst, AreOperands}

not_begun : (rest : List ℕ) → EndsLine rest → begins_piece is_line_feed rest ≡ false
not_begun [] h = refl
not_begun (b ∷ bs) h = ap (λ v. not (v == 10)) h

ended : (rest : List ℕ) → begins_piece is_line_feed rest ≡ false → EndsLine rest
ended [] h = tt
ended (b ∷ bs) h = feed b h
  where
    feed : (b : ℕ) → not (b == 10) ≡ false → b ≡ 10
    feed b h = grind (arith, nat_tests)

-- lines as they are laid out are the lines of their text
pub lines_of-laid : (lines : List (List ℕ)) (text : List ℕ) → AreLines lines text → lines_of text ≡ lines
lines_of-laid [] text h = pieces_of-blank is_line_feed text h
lines_of-laid (l ∷ ls) text h =
    ap lines_of h.2 ∙ (pieces_of-gap is_line_feed h.0 (l ++ h.1) h.3
    ∙ (pieces_of-append is_line_feed l h.1 h.4.0 h.4.1 (not_begun h.1 h.5) ∙ ap (λ v. l ∷ v) (lines_of-laid ls h.1 h.6)))

-- a text that begins with a line
record Begun (s : List ℕ) : Type 0 where
  first : List ℕ
  rest : List ℕ
  joins : s ≡ first ++ rest
  line : IsLine first
  ends : EndsLine rest
  laid : AreLines (lines_of rest) rest
  lines : lines_of s ≡ first ∷ lines_of rest

abbrev Shape : List ℕ → Type 0
Shape s = ((begins_piece is_line_feed s ≡ false) × AreLines (lines_of s) s) ⊎ ((begins_piece is_line_feed s ≡ true) × Begun s)

longer_feeds : (b : ℕ) → is_line_feed b ≡ true → (ls : List (List ℕ)) (text : List ℕ) → AreLines ls text → AreLines ls (b ∷ text)
longer_feeds b k [] text h = and_from _ _ k h
longer_feeds b k (l ∷ ls) text h = (b ∷ h.0, h.1, ap (λ v. b ∷ v) h.2, and_from _ _ k h.3, h.4, h.5, h.6)

after_feed : (b : ℕ) (bs : List ℕ) → is_line_feed b ≡ true → Shape bs → AreLines (lines_of bs) (b ∷ bs)
after_feed b bs k (inl h) = longer_feeds b k (lines_of bs) bs h.1
after_feed b bs k (inr h) =
    let w = h.1 in
    rw w.lines (b ∷ [], w.rest, ap (λ v. b ∷ v) w.joins, and_from _ _ k refl, w.line, w.ends, w.laid)

line_at : (b : ℕ) (bs : List ℕ) → is_line_feed b ≡ false → Shape bs → Begun (b ∷ bs)
line_at b bs k (inl h) =
    record {
      first = b ∷ [];
      rest = bs;
      joins = refl;
      line = (omega arith, and_from _ _ (ap not k) refl);
      ends = ended bs h.0;
      laid = h.1;
      lines = pieces_of-octet is_line_feed b bs k ∙ ap (λ v. octet_before b v (lines_of bs)) h.0;
    }
line_at b bs k (inr h) =
    let w = h.1 in
    record {
      first = b ∷ w.first;
      rest = w.rest;
      joins = ap (λ v. b ∷ v) w.joins;
      line = (omega arith, and_from _ _ (ap not k) w.line.1);
      ends = w.ends;
      laid = w.laid;
      lines = pieces_of-octet is_line_feed b bs k ∙ (ap (λ v. octet_before b v (lines_of bs)) h.0 ∙ ap (octet_before b true) w.lines);
    }

shape : (s : List ℕ) → Shape s
shape [] = inl (refl, refl)
shape (b ∷ bs) =
    elim (cases_Bool (is_line_feed b)) [
      | inl k ↦ inl (ap not k, rw (pieces_of-space is_line_feed b bs k) (after_feed b bs k (shape bs)))
      | inr k ↦ inr (ap not k, line_at b bs k (shape bs))
    ]

-- each text is laid out as its lines
pub lines_laid : (s : List ℕ) → AreLines (lines_of s) s
lines_laid s =
    elim (shape s) [
      | inl h ↦ h.1
      | inr h ↦ let w = h.1 in rw w.lines ([], w.rest, w.joins, refl, w.line, w.ends, w.laid)
    ]

passed_over : (test : ℕ → Bool) (line : List ℕ) (lines : List (List ℕ)) → not (is_led test line) ≡ true → operands_of test (line ∷ lines) ≡ operands_of test lines
passed_over test [] lines h = refl
passed_over test (b ∷ bs) lines h = ap (λ v. if v then bs ∷ operands_of test lines else operands_of test lines) (not-true (test b) h)

none_before : (test : ℕ → Bool) (before lines : List (List ℕ)) → NoneLed test before → operands_of test (before ++ lines) ≡ operands_of test lines
none_before test [] lines h = refl
none_before test (l ∷ ls) lines h = passed_over test l (ls ++ lines) (and_parts _ _ h).0 ∙ none_before test ls lines (and_parts _ _ h).1

pub none_led : (test : ℕ → Bool) (lines : List (List ℕ)) → NoneLed test lines → operands_of test lines ≡ []
none_led test [] h = refl
none_led test (l ∷ ls) h = passed_over test l ls (and_parts _ _ h).0 ∙ none_led test ls (and_parts _ _ h).1

pub operands_of-first : (test : ℕ → Bool) (lines : List (List ℕ)) (operand : List ℕ) (h : IsFirst test lines (Some operand)) → operands_of test lines ≡ operand ∷ operands_of test h.2
operands_of-first test lines operand h =
    ap (operands_of test) h.3 ∙ (none_before test h.0 ((h.1 ∷ operand) ∷ h.2) h.5
    ∙ ap (λ v. if v then operand ∷ operands_of test h.2 else operands_of test h.2) h.4)

pub operands_of-laid : (test : ℕ → Bool) (operands lines : List (List ℕ)) → AreOperands test operands lines → operands_of test lines ≡ operands
operands_of-laid test [] lines h = none_led test lines h
operands_of-laid test (o ∷ os) lines h =
    operands_of-first test lines o (h.0, h.1, h.2, h.3, h.4, h.5) ∙ ap (λ v. o ∷ v) (operands_of-laid test os h.2 h.6)

pub add_before : (test : ℕ → Bool) (line : List ℕ) (operands lines : List (List ℕ)) → not (is_led test line) ≡ true → AreOperands test operands lines → AreOperands test operands (line ∷ lines)
add_before test line [] lines k h = and_from _ _ k h
add_before test line (o ∷ os) lines k h = (line ∷ h.0, h.1, h.2, ap (λ v. line ∷ v) h.3, h.4, and_from _ _ k h.5, h.6)

pub operands_laid : (test : ℕ → Bool) (lines : List (List ℕ)) → AreOperands test (operands_of test lines) lines
operands_laid test [] = refl
operands_laid test ([] ∷ ls) = add_before test [] (operands_of test ls) ls refl (operands_laid test ls)
operands_laid test ((b ∷ bs) ∷ ls) =
    elim (cases_Bool (test b)) [
      | inl h ↦
          let e : operands_of test ((b ∷ bs) ∷ ls) ≡ bs ∷ operands_of test ls = ap (λ v. if v then bs ∷ operands_of test ls else operands_of test ls) h in
          subst (λ (v : List (List ℕ)). AreOperands test v ((b ∷ bs) ∷ ls)) (sym e) ([], b, ls, refl, h, refl, operands_laid test ls)
      | inr h ↦
          let e : operands_of test ((b ∷ bs) ∷ ls) ≡ operands_of test ls = ap (λ v. if v then bs ∷ operands_of test ls else operands_of test ls) h in
          subst (λ (v : List (List ℕ)). AreOperands test v ((b ∷ bs) ∷ ls)) (sym e) (add_before test (b ∷ bs) (operands_of test ls) ls (ap not h) (operands_laid test ls))
    ]

pub list_cases : (xs : List (List ℕ)) → (xs ≡ []) ⊎ ((y : List ℕ) × (ys : List (List ℕ)) × (xs ≡ y ∷ ys))
list_cases [] = inl refl
list_cases (y ∷ ys) = inr (y, ys, refl)

-- no such line, or a first one
pub first_of_lines : (test : ℕ → Bool) (lines : List (List ℕ)) → IsFirst test lines (slice_get (operands_of test lines) 0)
first_of_lines test lines =
    let laid = operands_laid test lines in
    elim (list_cases (operands_of test lines)) [
      | inl h ↦ at_head [] h (subst (λ (v : List (List ℕ)). AreOperands test v lines) h laid)
      | inr h ↦
          let f : AreOperands test (h.0 ∷ h.1) lines = subst (λ (v : List (List ℕ)). AreOperands test v lines) h.2 laid in
          at_head (h.0 ∷ h.1) h.2 (f.0, f.1, f.2, f.3, f.4, f.5)
    ]
  where
    at_head : (operands : List (List ℕ)) → operands_of test lines ≡ operands → IsFirst test lines (slice_get operands 0) → IsFirst test lines (slice_get (operands_of test lines) 0)
    at_head operands e h = subst (λ (v : List (List ℕ)). IsFirst test lines (slice_get v 0)) (sym e) h
