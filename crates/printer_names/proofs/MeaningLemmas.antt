-- What names mean.
use Rattle.std.proofs.Common.{◌≡◌, ◌<◌, ◌^◌, ◌++◌, ◌∷◌, ℕ, false, List, Option, Some, None, MatchOption, inl, inr, sym, ◌∙◌, ap, subst, arith, lit<}
use Rattle.std.specs.Fmt.{decimal}
use Rattle.std.proofs.lemmas.Fmt.{decimal_injective}
use Rattle.config_values.specs.Config as C
use Rattle.program_edge.specs.Numerals.{IsPlainNumber}
use Rattle.printer_names.specs.Cuts.{IsCutAtLast}
use Rattle.printer_names.specs.Names.{IsFirst, IsNthOf, IsNumberedOf, Means, NoOne, only_one}
use Rattle.printer_names.specs.Texts.{is_digits}
use Rattle.printer_names.proofs.NameLemmas.{number_has_no_point, same_cut}

-- digits write one number
pub same_number : (name : List ℕ) (n p : ℕ) → n < 2 ^ 64 → name ≡ decimal n → IsPlainNumber name p → p ≡ n
same_number name n p small is plain =
    let low : p < 2 ^ 32 = plain.1 in
    let fits : 2 ^ 32 < 2 ^ 64 = lit< tt in
    decimal_injective p n (omega arith) small (sym plain.0 ∙ is)

-- a name that is cut at its last point, behind which a number stands, is that of the queue before it
pub cut_number : (name before behind queue : List ℕ) (nth : ℕ) → IsCutAtLast name before behind → name ≡ queue ++ 46 ∷ decimal nth → nth < 2 ^ 64 → (before ≡ queue) × (behind ≡ decimal nth)
cut_number name before behind queue nth cut is small =
    same_cut before queue behind (decimal nth) cut.1 (number_has_no_point nth small) (sym cut.0 ∙ is)

pub no_number : (c : C.Config) (name before behind : List ℕ) → IsCutAtLast name before behind → ((n : ℕ) → n < 2 ^ 64 → behind ≡ decimal n → ⊥) → NoOne (IsNumberedOf c name)
no_number c name before behind cut none = λ printer is.
    none is.1 is.3 (cut_number name before behind is.0 is.1 cut is.2 is.3).1

pub no_queue : (c : C.Config) (name before behind : List ℕ) → IsCutAtLast name before behind → C.queue_named c before ≡ 0 → NoOne (IsNumberedOf c name)
no_queue c name before behind cut none = λ printer is.
    let same = (cut_number name before behind is.0 is.1 cut is.2 is.3).0 in
    let named : 0 < C.queue_named c before = subst (λ (q : List ℕ). 0 < C.queue_named c q) (sym same) is.4 in
    omega (arith, named, none)

pub numbered_from : (c : C.Config) (name before behind : List ℕ) (n q : ℕ) → IsCutAtLast name before behind → behind ≡ decimal n → n < 2 ^ 64 → C.queue_named c before ≡ q → 0 < q → (r : Option ℕ) → MatchOption r (NoOne (IsNthOf c q n)) (IsNthOf c q n) → MatchOption r (NoOne (IsNumberedOf c name)) (IsNumberedOf c name)
numbered_from c name before behind n q cut is small named some None none = λ printer found.
    let same = cut_number name before behind found.0 found.1 cut found.2 found.3 in
    let number : found.1 ≡ n = decimal_injective found.1 n found.3 small (sym same.1 ∙ is) in
    let queue : C.queue_named c found.0 ≡ q = ap (C.queue_named c) (sym same.0) ∙ named in
    let here : IsNthOf c (C.queue_named c found.0) found.1 printer = found.5 in
    none printer (subst (λ (k : ℕ). IsNthOf c q k printer) number (subst (λ (k : ℕ). IsNthOf c k found.1 printer) queue here))
numbered_from c name before behind n q cut is small named some (Some printer) found =
    (before, n, cut.0 ∙ ap (λ (s : List ℕ). before ++ 46 ∷ s) is, small, subst (λ (k : ℕ). 0 < k) (sym named) some, subst (λ (k : ℕ). IsNthOf c k n printer) (sym named) found)

pub means_one : (c : C.Config) (name : List ℕ) (first other : Option ℕ) → is_digits name ≡ false → MatchOption first (NoOne (IsFirst c name)) (IsFirst c name) → MatchOption other (NoOne (IsNumberedOf c name)) (IsNumberedOf c name) → Means c name (only_one first other)
means_one c name None None digits p q = inr (digits, p, q)
means_one c name None (Some printer) digits p q = inr (digits, inr (q, p))
means_one c name (Some printer) None digits p q = inr (digits, inl (p, q))
means_one c name (Some one) (Some printer) digits p q = (digits, (one, p), (printer, q))
