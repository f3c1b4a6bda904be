-- The last line of an answer.
use Rattle.std.proofs.Common.{◌≡◌, ℕ, List, [], ◌∷◌, ◌++◌, true, inl, inr, refl, sym, ◌∙◌, ap, subst, append_assoc, take, drop, take-append-drop, length, length-append, ◌<◌, arith}
use Rattle.std.specs.List.{list_all}
use Rattle.std.proofs.lemmas.Bool.{and_parts}
use Rattle.std.proofs.lemmas.List.{append_cancel_right}
use Rattle.std.proofs.lemmas.List.Folds.{list_all-append}
use Rattle.lpd_values.specs.Kept.{is_line_feed}
use Rattle.lpd_values.specs.Pieces.{is_kept}
use Rattle.std.proofs.lemmas.Bool.Decides.{nat_tests}
use Rattle.control_lines.specs.Laws.{HasNoEndYet}
use Rattle.control_lines.specs.Answers.{HasNoEnd, IsEnded, IsEndLine, IsLastLineAt, IsOneLine, IsWhole}

-- the first octet, or 0 where there is none
abbrev first : List ℕ → ℕ
first [] = 0
first (b ∷ bs) = b

-- all but the first octet
abbrev others : List ℕ → List ℕ
others [] = []
others (b ∷ bs) = bs

whole_others : (b : ℕ) (bs front : List ℕ) → b ∷ bs ≡ front ++ 10 ∷ [] → IsWhole bs
whole_others b bs [] e = inl (ap others e)
whole_others b bs (f ∷ fs) e = inr (fs, ap others e)

whole_tail : (b : ℕ) (bs : List ℕ) → IsWhole (b ∷ bs) → IsWhole bs
whole_tail b bs (inl e) = cc
whole_tail b bs (inr w) = whole_others b bs w.0 w.1

-- whole lines are not within one line
whole_in_line : (b : ℕ) (bs x y : List ℕ) → IsWhole (b ∷ bs) → IsOneLine x → x ≡ (b ∷ bs) ++ y → ⊥
whole_in_line b bs x y (inl e) p q = cc
whole_in_line b bs x y (inr w) p q =
    let all : list_all (is_kept is_line_feed) ((b ∷ bs) ++ y) ≡ true = subst (λ (s : List ℕ). IsOneLine s) q p in
    let front = (and_parts _ _ (sym (list_all-append (is_kept is_line_feed) (b ∷ bs) y) ∙ all)).0 in
    let feed : list_all (is_kept is_line_feed) (w.0 ++ 10 ∷ []) ≡ true = subst (λ (s : List ℕ). IsOneLine s) w.1 front in
    let last : list_all (is_kept is_line_feed) (10 ∷ []) ≡ true = (and_parts _ _ (sym (list_all-append (is_kept is_line_feed) w.0 (10 ∷ [])) ∙ feed)).1 in
    cc

-- whole lines and a line after them are the same if all is
pub same_last : (a b x y : List ℕ) → IsWhole a → IsWhole b → IsOneLine x → IsOneLine y → a ++ x ≡ b ++ y → (a ≡ b) × (x ≡ y)
same_last [] [] x y p q r s e = (refl, e)
same_last [] (d ∷ b) x y p q r s e = absurd (whole_in_line d b x y q r e)
same_last (c ∷ a) [] x y p q r s e = absurd (whole_in_line c a y x p s (sym e))
same_last (c ∷ a) (d ∷ b) x y p q r s e =
    let letter : c ≡ d = ap first e in
    let more = same_last a b x y (whole_tail c a p) (whole_tail d b q) r s (ap others e) in
    let head = more.0 in
    (cc, more.1)

-- an answer that ends has a line feed at its end
pub ends_with_feed : (answer before line : List ℕ) → IsEnded answer before line → answer ≡ (before ++ line) ++ 10 ∷ []
ends_with_feed answer before line h = h.0 ∙ sym (append_assoc before line (10 ∷ []))

-- the octets in front of a place and from there on
both : (lines : List ℕ) (at : ℕ) (front back : List ℕ) → front ≡ take at lines → back ≡ drop at lines → front ++ back ≡ lines
both lines at front back f b = rw (f, b) (take-append-drop at lines)

-- where the last line is no end, no other cut of the answer has one
pub no_other_end : (answer lines : List ℕ) (at : ℕ) (front back : List ℕ) → answer ≡ lines ++ 10 ∷ [] → front ≡ take at lines → back ≡ drop at lines → IsLastLineAt lines at → (IsEndLine back → ⊥) → HasNoEnd answer
no_other_end answer lines at front back e f b last none before line h =
    let whole : IsWhole front = rw f last.0 in
    let one : IsOneLine back = rw b last.1 in
    let all : before ++ line ≡ front ++ back =
    append_cancel_right (before ++ line) (front ++ back) (10 ∷ []) (
    sym (ends_with_feed answer before line h) ∙ (e ∙ ap (λ (s : List ℕ). s ++ 10 ∷ []) (sym (both lines at front back f b)))
    ) in
    let same = same_last before front line back h.1 whole h.2.0 one all in
    none (subst (λ (s : List ℕ). IsEndLine s) same.1 h.2)

-- and where it is one, the answer ends with it
pub an_end : (answer lines : List ℕ) (at : ℕ) (front back words : List ℕ) → answer ≡ lines ++ 10 ∷ [] → front ≡ take at lines → back ≡ drop at lines → IsLastLineAt lines at → back ≡ words → IsEndLine back → IsEnded answer front words
an_end answer lines at front back words e f b last w is =
    let whole : IsWhole front = rw f last.0 in
    let all : answer ≡ front ++ (back ++ 10 ∷ []) =
    e ∙ (ap (λ (s : List ℕ). s ++ 10 ∷ []) (sym (both lines at front back f b)) ∙ append_assoc front back (10 ∷ [])) in
    subst (λ (s : List ℕ). IsEnded answer front s) w (all, whole, is)

no_feed_first : (b : ℕ) → is_kept is_line_feed b ≡ true → b ≡ 10 → ⊥
no_feed_first b h e = grind (arith, nat_tests)

-- a line feed with octets after it isn't the one that ends this line
feed_in_line : (p rest line : List ℕ) → p ++ 10 ∷ rest ≡ line ++ 10 ∷ [] → IsOneLine line → 0 < length rest → ⊥
feed_in_line [] rest [] e one some = let none : rest ≡ [] = ap others e in let n = ap length none in absurd (omega arith)
feed_in_line [] rest (c ∷ line) e one some = no_feed_first c (and_parts (is_kept is_line_feed c) _ one).0 (sym (ap first e))
feed_in_line (b ∷ p) rest [] e one some =
    let none : length (p ++ 10 ∷ rest) ≡ 0 = ap length (ap others e) in
    let n = length-append p (10 ∷ rest) in
    absurd (omega arith)
feed_in_line (b ∷ p) rest (c ∷ line) e one some = feed_in_line p rest line (ap others e) (and_parts (is_kept is_line_feed c) _ one).1 some

-- so it stands in the lines before
feed_within : (p rest lines line : List ℕ) → p ++ 10 ∷ rest ≡ lines ++ (line ++ 10 ∷ []) → IsOneLine line → 0 < length rest → (after : List ℕ) × (lines ≡ p ++ 10 ∷ after)
feed_within p rest [] line e one some = absurd (feed_in_line p rest line e one some)
feed_within [] rest (c ∷ lines) line e one some = (lines, ap (λ (b : ℕ). b ∷ lines) (sym (ap first e)))
feed_within (b ∷ p) rest (c ∷ lines) line e one some =
    let letter : b ≡ c = ap first e in
    let more = feed_within p rest lines line (ap others e) one some in
    let same = more.1 in
    (more.0, cc)

pub no_end_yet : (front rest : List ℕ) → HasNoEndYet front rest
no_end_yet front rest lines line e none one some before words h =
    let all : (before ++ words) ++ 10 ∷ rest ≡ lines ++ (line ++ 10 ∷ []) =
    sym (append_assoc (before ++ words) (10 ∷ []) rest) ∙ (ap (λ (s : List ℕ). s ++ rest) (sym (ends_with_feed front before words h)) ∙ e) in
    let at = feed_within (before ++ words) rest lines line all one some in
    none before words at.0 (at.1 ∙ append_assoc before words (10 ∷ at.0)) h.1 h.2
