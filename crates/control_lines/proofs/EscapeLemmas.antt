-- Octets of strangers as shown text.
use Rattle.std.proofs.Common.{◌≡◌, ◌≤◌, ℕ, true, false, List, [], ◌∷◌, inl, inr, refl, sym, ◌∙◌, ap, subst, arith, All, lit≤}
use Rattle.std.specs.Prelude.{codes, not}
use Rattle.std.specs.Str.{bytes_eq}
use Rattle.std.proofs.lemmas.Bool.{agree_below, agree_below_at, both_ways, cases_Bool, cases_lt, cond-true, cond-false}
use Rattle.std.proofs.lemmas.Bool.Decides.{nat_tests}
use Rattle.std.proofs.lemmas.Slice.Eq.{bytes_eq-Decides}
use Rattle.std.proofs.lemmas.List.Elements.{All-nil, All-cons}
use Rattle.percent_encoding.specs.AsciiSet.{contains, should_percent_encode}
use Rattle.percent_encoding.specs.Percent.{percent_decode, percent_encode}
use Rattle.percent_encoding.proofs.AsciiSetLemmas.{escaped_from_inside, kept_from_outside}
use Rattle.percent_encoding.proofs.PercentLemmas.{All-percent_encode, IsByte, IsEscapeByte, percent_encode_nonempty, round_trip}
use Rattle.control_lines.specs.Escapes.{escaped, is_plain, unescaped}
use Rattle.control_lines.specs.Laws.{IsOneWord}
use Rattle.control_lines.specs.declared.escaped.TheConstants.{HIDDEN}

hidden : agree_below (contains HIDDEN) (λ b. not (is_plain b)) 128 ≡ true
hidden = refl

hidden_above : (b : ℕ) → 128 ≤ b → should_percent_encode HIDDEN b ≡ true
unfolding should_percent_encode
hidden_above b h = grind (arith, nat_tests)

plain_below : (b : ℕ) → 128 ≤ b → true ≡ not (is_plain b)
plain_below b h = grind (arith, nat_tests)

pub hides : (b : ℕ) → should_percent_encode HIDDEN b ≡ not (is_plain b)
hides b =
    elim (cases_lt b 128) [
      | inl low ↦
          let e : contains HIDDEN b ≡ not (is_plain b) = agree_below_at (contains HIDDEN) (λ b. not (is_plain b)) 128 b hidden low in
          elim (cases_Bool (contains HIDDEN b)) [
            | inl has ↦ escaped_from_inside HIDDEN b has ∙ (sym has ∙ e)
            | inr none ↦ kept_from_outside HIDDEN b low none ∙ (sym none ∙ e)
          ]
      | inr high ↦ hidden_above b high ∙ plain_below b high
    ]

-- an octet of a shown word
abbrev IsShown : ℕ → Type 0
IsShown b = (33 ≤ b) × (b ≤ 126)

plain_is_shown : (b : ℕ) → false ≡ not (is_plain b) → IsShown b
plain_is_shown b h = grind (arith, nat_tests)

kept_is_shown : (b : ℕ) → should_percent_encode HIDDEN b ≡ false → IsShown b
kept_is_shown b h = plain_is_shown b (sym h ∙ hides b)

digit_is_shown : (b : ℕ) → IsEscapeByte b → IsShown b
digit_is_shown b h = grind arith

pub one_word : (s : List ℕ) → IsOneWord (escaped s)
one_word [] = (lit≤ tt, All-cons IsShown 45 [] (lit≤ tt, lit≤ tt) (All-nil IsShown))
one_word (b ∷ bs) =
    elim (cases_Bool (bytes_eq (b ∷ bs) (codes "-"))) [
      | inl e ↦ subst IsOneWord (sym (cond-true (bytes_eq (b ∷ bs) (codes "-")) (codes "%2D") (percent_encode HIDDEN (b ∷ bs)) e)) dash
      | inr e ↦ subst IsOneWord (sym (cond-false (bytes_eq (b ∷ bs) (codes "-")) (codes "%2D") (percent_encode HIDDEN (b ∷ bs)) e)) (
        percent_encode_nonempty HIDDEN (b ∷ bs) (omega arith),
        All-percent_encode IsShown HIDDEN (b ∷ bs) kept_is_shown digit_is_shown,
      )
    ]
  where
    dash : IsOneWord (codes "%2D")
    dash =
        (lit≤ tt, All-cons IsShown 37 (50 ∷ 68 ∷ []) (lit≤ tt, lit≤ tt) (All-cons IsShown 50 (68 ∷ []) (lit≤ tt, lit≤ tt) (All-cons IsShown 68 [] (lit≤ tt, lit≤ tt) (All-nil IsShown))))

has_percent : contains HIDDEN 37 ≡ true
has_percent = refl

decoded_dash : percent_decode (codes "%2D") ≡ codes "-"
unfolding percent_decode
decoded_dash = refl

same_dash : percent_decode (codes "-") ≡ codes "-"
unfolding percent_decode
same_dash = refl

-- a text that isn't a dash isn't shown as one
shown_dash : (s : List ℕ) → All IsByte s → percent_encode HIDDEN s ≡ codes "-" → s ≡ codes "-"
shown_dash s small e = sym (round_trip HIDDEN s has_percent small) ∙ (ap percent_decode e ∙ same_dash)

pub read_back : (s : List ℕ) → All IsByte s → unescaped (escaped s) ≡ s
read_back [] small = refl
read_back (b ∷ bs) small =
    elim (cases_Bool (bytes_eq (b ∷ bs) (codes "-"))) [
      | inl e ↦
          ap unescaped (cond-true (bytes_eq (b ∷ bs) (codes "-")) (codes "%2D") (percent_encode HIDDEN (b ∷ bs)) e)
          ∙ (decoded_dash ∙ sym ((bytes_eq-Decides (b ∷ bs) (codes "-")).0 e))
      | inr e ↦
          ap unescaped (cond-false (bytes_eq (b ∷ bs) (codes "-")) (codes "%2D") (percent_encode HIDDEN (b ∷ bs)) e)
          ∙ (
          cond-false (bytes_eq (percent_encode HIDDEN (b ∷ bs)) (codes "-")) [] (percent_decode (percent_encode HIDDEN (b ∷ bs))) (no_dash (b ∷ bs) small e)
          ∙ round_trip HIDDEN (b ∷ bs) has_percent small
          )
    ]
  where
    no_dash : (s : List ℕ) → All IsByte s → bytes_eq s (codes "-") ≡ false → bytes_eq (percent_encode HIDDEN s) (codes "-") ≡ false
    no_dash s small e =
        elim (cases_Bool (bytes_eq (percent_encode HIDDEN s) (codes "-"))) [
          | inl has ↦
              let same : s ≡ codes "-" = shown_dash s small ((bytes_eq-Decides (percent_encode HIDDEN s) (codes "-")).0 has) in
              absurd (both_ways _ e (ap (λ (t : List ℕ). bytes_eq t (codes "-")) same))
          | inr no_ ↦ no_
        ]
