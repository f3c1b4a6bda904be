-- A text cut into its lines.
use Rattle.std.proofs.Common.{◌≡◌, ◌≢◌, ◌⊎◌, inl, inr, ◌<◌, ◌++◌, ◌==◌, ℕ, Bool, true, false, cond, All, List, [], ◌∷◌, length, refl, sym, subst, ap, ◌∙◌, append_assoc, append-nil, length-append, take, ◌-◌, arith}
use Rattle.std.specs.List.{list_all}
use Rattle.std.proofs.Math.Seq.{take-append_seam}
use Rattle.std.proofs.lemmas.Bool.{and_parts, not-true}
use Rattle.std.proofs.lemmas.List.Elements.{All-nil, All-push}
use Rattle.lpd_script.specs.Scripts.{before_first, lines_of}
use Rattle.lpd_script.specs.Parts.{AreParts, AreWhole, HasNoMark, IsCut, IsMarked, is_no_lf, mark}

-- the lines of a line with its LF and what follows
pub line_first : (line rest : List ℕ) → list_all is_no_lf line ≡ true → lines_of (line ++ 10 ∷ rest) ≡ line ∷ lines_of rest
line_first [] rest none = refl
line_first (b ∷ line) rest none =
    let parts = and_parts (is_no_lf b) (list_all is_no_lf line) none in
    let other : (b == 10) ≡ false = not-true (b == 10) parts.0 in
    ap (λ x. cond x ([] ∷ lines_of (line ++ 10 ∷ rest)) (before_first b (lines_of (line ++ 10 ∷ rest)))) other
    ∙ ap (before_first b) (line_first line rest parts.1)

-- the last line may lack it
pub line_last : (line : List ℕ) → list_all is_no_lf line ≡ true → 0 < length line → lines_of line ≡ line ∷ []
line_last [] none some = absurd (omega (arith, some))
line_last (b ∷ []) none some =
    let parts = and_parts (is_no_lf b) true none in
    ap (λ x. cond x ([] ∷ []) ((b ∷ []) ∷ [])) (not-true (b == 10) parts.0)
line_last (b ∷ c ∷ line) none some =
    let parts = and_parts (is_no_lf b) (list_all is_no_lf (c ∷ line)) none in
    ap (λ x. cond x ([] ∷ lines_of (c ∷ line)) (before_first b (lines_of (c ∷ line)))) (not-true (b == 10) parts.0)
    ∙ ap (before_first b) (line_last (c ∷ line) parts.1 (omega (arith)))

-- a text that isn't empty has a first line, and then the lines of what follows it
pub cut_lines : (text line rest : List ℕ) → 0 < length text → IsCut text line rest → lines_of text ≡ line ∷ lines_of rest
cut_lines text line rest some cut = elim cut.1 [
  | inl e ↦ ap lines_of e ∙ line_first line rest cut.0
  | inr e ↦ ap lines_of e.0 ∙ line_last line cut.0 (subst (λ x. 0 < length x) e.0 some) ∙ ap (λ x. line ∷ lines_of x) (sym e.1)
]

record HasFirst (lines : List (List ℕ)) : Type 0 where
  first : List ℕ
  others : List (List ℕ)
  is : lines ≡ first ∷ others

first_of : (b : ℕ) (test : Bool) (lines : List (List ℕ)) → HasFirst (cond test ([] ∷ lines) (before_first b lines))
first_of b true lines = record { first = []; others = lines; is = refl }
first_of b false [] = record { first = b ∷ []; others = []; is = refl }
first_of b false (line ∷ lines) = record { first = b ∷ line; others = lines; is = refl }

has_first : (b : ℕ) (text : List ℕ) → HasFirst (lines_of (b ∷ text))
has_first b text = first_of b (b == 10) (lines_of text)

some_first : (text : List ℕ) → HasFirst (lines_of (text ++ 10 ∷ []))
some_first [] = has_first 10 []
some_first (b ∷ text) = has_first b (text ++ 10 ∷ [])

joined : (b : ℕ) (test : Bool) (a y : List (List ℕ)) → HasFirst a →
    cond test ([] ∷ (a ++ y)) (before_first b (a ++ y)) ≡ cond test ([] ∷ a) (before_first b a) ++ y
joined b true a y some = refl
joined b false a y some =
    ap (λ x. before_first b (x ++ y)) some.is ∙ sym (ap (λ x. before_first b x ++ y) some.is)

pub lines_join : (text more : List ℕ) → lines_of ((text ++ 10 ∷ []) ++ more) ≡ lines_of (text ++ 10 ∷ []) ++ lines_of more
lines_join [] more = refl
lines_join (b ∷ text) more =
    ap (λ x. cond (b == 10) ([] ∷ x) (before_first b x)) (lines_join text more)
    ∙ joined b (b == 10) (lines_of (text ++ 10 ∷ [])) (lines_of more) (some_first text)

pub whole_join : (text more : List ℕ) → AreWhole text → lines_of (text ++ more) ≡ lines_of text ++ lines_of more
whole_join text more whole = elim whole [
  | inl e ↦ rw e
  | inr e ↦ rw e.1 (lines_join e.0 more)
]

-- The lines of a text so far, of which none is the mark, and what is left of it.
pub record Parted (text rest : List ℕ) : Type 0 where
  pub before : List ℕ
  pub cut : text ≡ before ++ rest
  pub unmarked : HasNoMark before
  pub whole : AreWhole before ⊎ (rest ≡ [])

pub parted_first : (text : List ℕ) → Parted text text
parted_first text = record {
  before = [];
  cut = refl;
  unmarked = All-nil (λ line. line ≢ mark);
  whole = inl (inl refl);
}

whole_still : (before rest : List ℕ) → 0 < length rest → AreWhole before ⊎ (rest ≡ []) → AreWhole before
whole_still before rest some w = elim w [
  | inl x ↦ x
  | inr none ↦ absurd (omega (arith, some, ap length none))
]

pushed : (before piece line : List ℕ) → AreWhole before → HasNoMark before → lines_of piece ≡ line ∷ [] → line ≢ mark → HasNoMark (before ++ piece)
pushed before piece line whole unmarked one other =
    subst (All (λ x. x ≢ mark)) (sym (whole_join before piece whole ∙ ap (λ x. lines_of before ++ x) one))
    (All-push (λ x. x ≢ mark) (lines_of before) line unmarked other)

-- one line more that isn't the mark
pub parted_more : (text rest line after : List ℕ) → 0 < length rest → Parted text rest → IsCut rest line after → line ≢ mark → Parted text after
parted_more text rest line after some p cut other =
    let whole = whole_still p.before rest some p.whole in
    elim cut.1 [
      | inl e ↦ record {
        before = p.before ++ (line ++ 10 ∷ []);
        cut = p.cut ∙ ap (λ x. p.before ++ x) (e ∙ sym (append_assoc line (10 ∷ []) after)) ∙ sym (append_assoc p.before (line ++ 10 ∷ []) after);
        unmarked = pushed p.before (line ++ 10 ∷ []) line whole p.unmarked (line_first line [] cut.0) other;
        whole = inl (inr (p.before ++ line, sym (append_assoc p.before line (10 ∷ []))));
      }
      | inr e ↦ record {
        before = p.before ++ line;
        cut = p.cut ∙ ap (λ x. p.before ++ x) e.0 ∙ sym (append-nil (p.before ++ line)) ∙ ap (λ x. (p.before ++ line) ++ x) (sym e.1);
        unmarked = pushed p.before line line whole p.unmarked (line_last line cut.0 (subst (λ x. 0 < length x) e.0 some)) other;
        whole = inr e.1;
      }
    ]

marked : (rest line after : List ℕ) → IsCut rest line after → line ≡ mark → IsMarked rest after
marked rest line after cut is = elim cut.1 [
  | inl e ↦ inl (e ∙ ap (λ x. x ++ 10 ∷ after) is)
  | inr e ↦ inr (e.0 ∙ is, e.1)
]

front : (before rest : List ℕ) → take (length (before ++ rest) - length rest) (before ++ rest) ≡ before
front before rest =
    let long = length-append before rest in
    let many : length (before ++ rest) - length rest ≡ length before = omega (arith, long) in
    ap (λ n. take n (before ++ rest)) many ∙ take-append_seam before rest

-- the line is the mark
pub parted_mark : (text rest line after : List ℕ) → 0 < length rest → Parted text rest → IsCut rest line after → line ≡ mark →
    AreParts text (take (length text - length rest) text) after
parted_mark text rest line after some p cut is =
    let before : p.before ≡ take (length text - length rest) text =
    sym (front p.before rest) ∙ ap (λ x. take (length x - length rest) x) (sym p.cut) in
    subst (λ x. AreParts text x after) before
    (p.unmarked, inr (whole_still p.before rest some p.whole, (rest, p.cut, marked rest line after cut is)))

-- no line is
pub parted_end : (text rest : List ℕ) → rest ≡ [] → Parted text rest → AreParts text text rest
parted_end text rest none p =
    let all : p.before ≡ text = sym (append-nil p.before) ∙ ap (λ x. p.before ++ x) (sym none) ∙ sym p.cut in
    (subst HasNoMark all p.unmarked, inl (refl, none))
