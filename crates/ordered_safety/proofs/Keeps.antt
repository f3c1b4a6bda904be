-- What is kept of an order keeps its lines.
use Rattle.std.proofs.Common.{◌≡◌, ◌≢◌, ℕ, ◌<◌, true, List, [], ◌∷◌, ◌++◌, length, map, refl, subst, subst₂, ap, arith}
use Rattle.std.specs.Prelude.{slice_index}
use Rattle.std.specs.List.{AllByRecursion}
use Rattle.std.proofs.lemmas.List.{get_or-map, length-map}
use Rattle.std.proofs.lemmas.List.Elements.{All-from_recursion, recursion_from_All}
use Rattle.std.proofs.lemmas.Bool.Decides.{nat_tests}
use Rattle.claims.specs.declared.row.Row.{Row}
use Rattle.claims.specs.Claims.{Pairwise, IsLower, row_at}
use Rattle.claims.specs.Safety.{IsOrderOf, KeepsLine, same_line}
use Rattle.claims.proofs.Tables.{pairwise_without}
use Rattle.claims.proofs.Orders.{all_at, all_in_order}
use Rattle.ordered_safety.specs.declared.kept.Kept.{Kept}
use Rattle.ordered_safety.specs.Scan.{rows_at}
use Rattle.ordered_safety.specs.Carried.{numbers_of}
use Rattle.ordered_safety.specs.Kept.{kept_numbers, MayPrecede, KeepsLines}
use Rattle.ordered_safety.proofs.Picks.{pair_at, row_there}

-- what is kept of the row at a place
abbrev pub kept_at : List Row → ℕ → Kept
kept_at rows place =
    let row = row_at rows place in record { number = row.number; sender = row.sender; queue = row.queue; place = place }

pub kept_numbers_are : (rows : List Row) (places : List ℕ) → kept_numbers (map (kept_at rows) places) ≡ numbers_of (rows_at rows places)
kept_numbers_are rows [] = refl
kept_numbers_are rows (i ∷ places) = ap (λ (l : List ℕ). (row_at rows i).number ∷ l) (kept_numbers_are rows places)

abbrev pub Differ : Row → Row → Type 0
Differ x y = x.number ≢ y.number

-- the others have other numbers
pub others_differ : (a : List Row) (x : Row) (b : List Row) → Pairwise IsLower (a ++ x ∷ b) → AllByRecursion (Differ x) (a ++ b)
others_differ [] x b low = recursion_from_All (Differ x) b (λ k d lt e. omega (arith, All-from_recursion (IsLower x) b low.0 k d lt))
others_differ (y ∷ a) x b low = ((λ e. omega (arith, all_at (IsLower y) a x b low.0)), others_differ a x b low.1)

-- each number stands once in an order
pub order_differs : (rows order : List Row) → Pairwise IsLower rows → IsOrderOf rows order → Pairwise Differ order
order_differs rows [] low once = tt
order_differs rows (x ∷ order) low once =
    let low' : Pairwise IsLower (once.0 ++ x ∷ once.1) = subst (Pairwise IsLower) once.2 low in (
      all_in_order (Differ x) (once.0 ++ once.1) order once.3 (others_differ once.0 x once.1 low'),
      order_differs (once.0 ++ once.1) order (pairwise_without IsLower once.0 x once.1 low') once.3,
    )

may_precede : (rows : List Row) (i j : ℕ) → Differ (row_at rows i) (row_at rows j) → KeepsLine (row_at rows i) (row_at rows j) → MayPrecede (kept_at rows i) (kept_at rows j)
may_precede rows i j differ line = record {
  apart = differ;
  in_line = λ sender queue. line (let s : same_line (row_at rows i) (row_at rows j) ≡ true = grind (arith, nat_tests) in s);
}

pub lines_kept : (rows : List Row) (places : List ℕ) → Pairwise IsLower rows → IsOrderOf rows (rows_at rows places) → Pairwise KeepsLine (rows_at rows places) → KeepsLines (map (kept_at rows) places)
lines_kept rows places low once line = λ i j d below lt.
    let order = rows_at rows places in
    let there : j < length places = omega (arith, length-map places (kept_at rows)) in
    let within : j < length order = omega (arith, length-map places (row_at rows)) in
    let first = row_there rows places i (omega arith) in
    let second = row_there rows places j there in
    rw (get_or-map (kept_at rows) places i 0 d (omega arith), get_or-map (kept_at rows) places j 0 d there)
    (may_precede rows (slice_index places i) (slice_index places j)
    (subst₂ Differ first second (pair_at Differ order i j below within (order_differs rows order low once))) (subst₂ KeepsLine first second (pair_at KeepsLine order i j below within line)))
