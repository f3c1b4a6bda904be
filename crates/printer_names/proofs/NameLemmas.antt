-- Names of printers.
use Rattle.std.proofs.Common.{◌≡◌, ◌<◌, ◌^◌, ◌++◌, ◌∷◌, [], ℕ, true, List, drop, take, length, inl, inr, refl, sym, ◌∙◌, ap, subst, arith, lit<, take-append-drop, append_assoc}
use Rattle.std.specs.Fmt.{decimal}
use Rattle.std.proofs.lemmas.Bool.{and_parts}
use Rattle.std.proofs.lemmas.Bool.Decides.{nat_tests}
use Rattle.std.proofs.lemmas.Fmt.{decimal_injective}
use Rattle.lpd_values.proofs.DigitLemmas.{decimal_is}
use Rattle.lpd_values.proofs.PieceLemmas.{list_all-wider}
use Rattle.lpd_values.specs.Kinds.{is_digit}
use Rattle.printer_names.specs.Cuts.{EndsAtPoint, HasNoPoint, IsCutAtLast, IsLastPointAt, is_no_point}
use Rattle.printer_names.specs.Texts.{IsName, is_digits}

-- the first octet, or 0 where there is none
abbrev first : List ℕ → ℕ
first [] = 0
first (b ∷ bs) = b

-- all but the first octet
abbrev others : List ℕ → List ℕ
others [] = []
others (b ∷ bs) = bs

-- digits have no point
digit_is_no_point : (b : ℕ) → is_digit b ≡ true → is_no_point b ≡ true
digit_is_no_point b h = grind (arith, nat_tests)

pub number_has_no_point : (n : ℕ) → n < 2 ^ 64 → HasNoPoint (decimal n)
number_has_no_point n small = list_all-wider is_digit is_no_point digit_is_no_point (decimal n) (decimal_is n (omega arith)).0

-- a text without a point isn't cut
pub no_cut : (x a s : List ℕ) → HasNoPoint s → s ≡ x ++ 46 ∷ a → ⊥
no_cut [] a [] h e = cc
no_cut [] a (b ∷ bs) h e = let here = (and_parts (is_no_point b) _ h).0 in let point : b ≡ 46 = ap first e in grind (arith, nat_tests)
no_cut (c ∷ x) a [] h e = cc
no_cut (c ∷ x) a (b ∷ bs) h e = no_cut x a bs (and_parts (is_no_point b) _ h).1 (ap others e)

-- a text is cut at its last point in one way
pub same_cut : (x y a b : List ℕ) → HasNoPoint a → HasNoPoint b → x ++ 46 ∷ a ≡ y ++ 46 ∷ b → (x ≡ y) × (a ≡ b)
same_cut [] [] a b p q e = (refl, ap others e)
same_cut [] (d ∷ y) a b p q e = absurd (no_cut y b a p (ap others e))
same_cut (c ∷ x) [] a b p q e = absurd (no_cut x a b q (sym (ap others e)))
same_cut (c ∷ x) (d ∷ y) a b p q e =
    let letter : c ≡ d = ap first e in
    let more = same_cut x y a b p q (ap others e) in
    let head = more.0 in
    (cc, more.1)

-- what stands before no point is nothing
pub uncut : (s head : List ℕ) → EndsAtPoint head → ((front : List ℕ) → head ≡ front ++ 46 ∷ [] → ⊥) → head ≡ []
uncut s head (inl e) none = e
uncut s head (inr w) none = absurd (none w.0 w.1)

pub cut_nowhere : (octets head behind : List ℕ) (at : ℕ) → head ≡ take at octets → behind ≡ drop at octets → IsLastPointAt octets at → ((front : List ℕ) → head ≡ front ++ 46 ∷ [] → ⊥) → HasNoPoint octets
cut_nowhere octets head behind at front back last none =
    let empty : head ≡ [] = uncut octets head (subst EndsAtPoint (sym front) last.0) none in
    let whole : octets ≡ drop at octets = sym (take-append-drop at octets) ∙ ap (λ (s : List ℕ). s ++ drop at octets) (sym front ∙ empty) in
    subst HasNoPoint (sym whole) last.1

pub cut_there : (octets head behind before : List ℕ) (at : ℕ) → head ≡ take at octets → behind ≡ drop at octets → IsLastPointAt octets at → head ≡ before ++ 46 ∷ [] → IsCutAtLast octets before behind
cut_there octets head behind before at front back last is = (
  sym (take-append-drop at octets) ∙ (ap (λ (s : List ℕ). s ++ drop at octets) (sym front ∙ is)
      ∙ (append_assoc before (46 ∷ []) (drop at octets) ∙ ap (λ (s : List ℕ). before ++ 46 ∷ s) (sym back))),
  subst HasNoPoint (sym back) last.1,
)

-- digits that write a number of a printer
pub named_number : (name : List ℕ) (n : ℕ) → is_digits name ≡ true → name ≡ decimal n → 0 < length name → 0 < n → n < 2 ^ 32 → IsName name
named_number name n digits is some low high = record { some = some; number = λ all. (n, (is, high), low) }

pub number_named : (name : List ℕ) (n : ℕ) → n < 2 ^ 64 → is_digits name ≡ true → name ≡ decimal n → IsName name → (0 < n) × (n < 2 ^ 32)
number_named name n small digits is named =
    let k = named.number digits in
    let fits : k.0 < 2 ^ 32 = k.1.1 in
    let p : 2 ^ 32 < 2 ^ 64 = lit< tt in
    let same : k.0 ≡ n = decimal_injective k.0 n (omega arith) small (sym k.1.0 ∙ is) in
    (subst (λ (m : ℕ). 0 < m) same k.2, subst (λ (m : ℕ). m < 2 ^ 32) same fits)
