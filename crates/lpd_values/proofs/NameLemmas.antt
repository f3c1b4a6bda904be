-- Names and how they are kept.
use Rattle.std.proofs.Common.{◌≡◌, ◌≤◌, ℕ, List, ◌∷◌, Bool, true, false, if◌then◌else◌, length, drop, ◌++◌, ap, inl, inr, refl, ◌∙◌, arith, slice_index}
use Rattle.std.proofs.lemmas.Bool.{and_parts, and_from, or_cases, eqb-true}
use Rattle.std.proofs.lemmas.List.{drop-replicate}
use Rattle.std.proofs.Math.ListN.{replicate}
use Rattle.std.proofs.lemmas.Bool.Decides.{nat_tests}
use Rattle.std.specs.List.{list_all, slice_range}
use Rattle.lpd_values.specs.Kinds.{is_digit, is_letter, is_word_octet}
use Rattle.lpd_values.specs.Name.{is_name, is_control_name, is_data_name, padded, IsFileName}

-- a copy into zeros
pub padded_copy : (s new : List ℕ) → new ≡ s → new ++ drop (length s) (replicate 126 0) ≡ padded s
padded_copy s new e = rw (e, drop-replicate {X = ℕ} (length s) 126 0) refl

pub unless_true : (b x : Bool) → (if b then false else x) ≡ true → x ≡ true
unless_true true x h = cc
unless_true false x h = h

-- the three digits of a name
pub digits_of-name : (kind : ℕ) (s : List ℕ) → is_name kind s ≡ true → list_all is_digit (slice_range s 3 6) ≡ true
digits_of-name kind s h = (and_parts _ _ (and_parts _ _ (unless_true _ _ h)).0).1

last_digit : (s : List ℕ) → list_all is_digit (slice_range s 3 6) ≡ true → 6 ≤ length s → is_digit (slice_index s 5) ≡ true
last_digit (a ∷ b ∷ c ∷ d ∷ e ∷ f ∷ s) h k = (and_parts _ _ (and_parts _ _ (and_parts _ _ h).1).1).0
last_digit _ h k = absurd (omega arith)

pub long_enough : (kind : ℕ) (s : List ℕ) → is_name kind s ≡ true → 6 ≤ length s
long_enough kind s h = grind (arith, nat_tests)

last_digit-file : (s : List ℕ) → IsFileName s → is_digit (slice_index s 5) ≡ true
last_digit-file s h =
    elim (or_cases (is_control_name s) (is_data_name s) h) [
      | inl k ↦ last_digit s (digits_of-name 99 s k) (long_enough 99 s k)
      | inr k ↦ last_digit s (digits_of-name 100 s k) (long_enough 100 s k)
    ]

pub last_digit-octets : (s t : List ℕ) → t ≡ s → IsFileName s → is_digit (slice_index t 5) ≡ true
last_digit-octets s t e h = rw e (last_digit-file s h)

pub short_enough : (kind : ℕ) (s : List ℕ) → is_name kind s ≡ true → length s ≤ 126
short_enough kind s h = grind (arith, nat_tests)

pub digit_word : (b : ℕ) → is_digit b ≡ true → is_word_octet b ≡ true
digit_word b h = grind (arith, nat_tests)

pub letter_word : (b : ℕ) → is_letter b ≡ true → is_word_octet b ≡ true
letter_word b h = grind (arith, nat_tests)

-- a name is a word
pub name_octets : (kind : ℕ) (s : List ℕ) → is_word_octet kind ≡ true → is_name kind s ≡ true → 6 ≤ length s → list_all is_word_octet s ≡ true
name_octets kind (a ∷ b ∷ c ∷ d ∷ e ∷ f ∷ s) w h k =
    let all = unless_true _ _ h in
    let head = (and_parts _ _ (and_parts _ _ all).0).0 in
    let digits = (and_parts _ _ (and_parts _ _ all).0).1 in
    let first = eqb-true a kind (and_parts _ _ (and_parts _ _ head).0).0 in
    let second = eqb-true b 102 (and_parts _ _ (and_parts _ _ head).0).1 in
    and_from _ _ (ap is_word_octet first ∙ w)
    (and_from _ _ (ap is_word_octet second)
    (and_from _ _ (letter_word c (and_parts _ _ head).1)
    (and_from _ _ (digit_word d (and_parts _ _ digits).0)
    (and_from _ _ (digit_word e (and_parts _ _ (and_parts _ _ digits).1).0)
    (and_from _ _ (digit_word f (and_parts _ _ (and_parts _ _ (and_parts _ _ digits).1).1).0) (and_parts _ _ all).1)))))
name_octets kind _ w h k = absurd (omega arith)
