-- A walk along an order of the rows, and what it decides.
use Rattle.std.proofs.Common.{◌≡◌, ◌⊎◌, inl, inr, ℕ, ◌+◌, ◌↔◌, List, [], ◌∷◌, ◌++◌, length, refl, subst, subst₂, ap, sym, ◌∙◌, length-append, arith}
use Rattle.std.specs.Prelude.{remove}
use Rattle.std.proofs.lemmas.List.{get_or_at, length-map}
use Rattle.counts.specs.Amounts.{Fits}
use Rattle.claims.specs.declared.row.Row.{Row}
use Rattle.claims.specs.Claims.{Pairwise, IsLower, held_of, row_at, no_row}
use Rattle.claims.specs.Safety.{freed, CanFinish, KeepsLine, IsOrderOf, IsFinishingOrder, AreFinishing}
use Rattle.claims.proofs.Tables.{pairwise_without}
use Rattle.claims.proofs.Orders.{all_of_rows, all_in_order, numbers_after}
use Rattle.claims.proofs.Lowered.{holds_order, holds_sum}
use Rattle.ordered_safety.specs.Compared.{CheckTakes}
use Rattle.ordered_safety.specs.Carried.{numbers_of}
use Rattle.ordered_safety.specs.Scan.{rows_at}
use Rattle.ordered_safety.proofs.OneNumber.{Compares}
use Rattle.ordered_safety.proofs.Picks.{next_there}

-- a walk along these rows compares so often: up to the first that needs more than is free
abbrev pub WalkTakes : (ℕ → ℕ) → List Row → ℕ → Type 0
WalkTakes free [] tests = tests ≡ 0
WalkTakes free (x ∷ xs) tests =
    (¬ (Fits x.need free) × (tests ≡ 1))
    ⊎ (Fits x.need free × (later : ℕ) × (tests ≡ later + 1) × WalkTakes (freed free x) xs later)

-- the walk up to here: the rest decides, and so many comparisons were made
pub record Walked (start : ℕ → ℕ) (order : List Row) (free : ℕ → ℕ) (rest : List Row) (tests : ℕ) : Type 0 where
  pub finish : CanFinish free rest ↔ CanFinish start order
  pub taken : (n m : ℕ) → tests + n ≡ m → WalkTakes free rest n → WalkTakes start order m

module _ {start free : ℕ → ℕ} {order rest : List Row} {x : Row} {tests : ℕ} (w : Walked start order free (x ∷ rest) tests) where
  pub walked_over : ¬ (Fits x.need free) → ¬ (CanFinish start order) × WalkTakes start order (tests + 1)
  walked_over over = (λ h. over (w.finish.1 h).0, w.taken 1 (tests + 1) refl (inl (over, refl)))

  pub walked_more : Fits x.need free → Walked start order (freed free x) rest (tests + 1)
  walked_more fits = record {
    finish = (λ h. w.finish.0 (fits, h), λ h. (w.finish.1 h).1);
    taken = λ n m e h. w.taken (n + 1) m (omega arith) (inr (fits, n, refl, h));
  }

remove_at : (a : List Row) (x : Row) (b : List Row) → remove (a ++ x ∷ b) (length a) ≡ a ++ b
remove_at [] x b = refl
remove_at (y ∷ a) x b = ap (λ (r : List Row). y ∷ r) (remove_at a x b)

-- the check of an order that keeps all lines is a walk along it
pub check_as_walked : (free : ℕ → ℕ) (rows order : List Row) (n : ℕ) → Pairwise IsLower rows → IsOrderOf rows order → Pairwise KeepsLine order → WalkTakes free order n → CheckTakes free rows (numbers_of order) n
check_as_walked free rows [] n low once line h = h
check_as_walked free rows (x ∷ order) n low once line h =
    let a = once.0 in
    let b = once.1 in
    let low' : Pairwise IsLower (a ++ x ∷ b) = subst (Pairwise IsLower) once.2 low in
    let compares : Compares free x (a ++ b) (numbers_of order) n = elim h [
      | inl over ↦ inl over
      | inr goes ↦ inr (goes.0, goes.1, goes.2, check_as_walked (freed free x) (a ++ b) order goes.1 (pairwise_without IsLower a x b low') once.3 line.1 goes.3)
    ] in
    subst (λ (r : List Row). CheckTakes free r (x.number ∷ numbers_of order) n) (sym once.2) (inr (
      length a,
      next_there a x b low' (all_of_rows (KeepsLine x) (a ++ b) order once.3 line.0),
      subst₂ (λ (r : Row) (others : List Row). Compares free r others (numbers_of order) n) (sym (get_or_at a x b no_row (length a) refl)) (sym (remove_at a x b)) compares,
    ))

order_long : (rows order : List Row) → IsOrderOf rows order → length order ≡ length rows
order_long rows [] once = ap length (sym once)
order_long rows (x ∷ order) once =
    let ih = order_long (once.0 ++ once.1) order once.3 in
    let e = ap length once.2 in
    omega (arith, length-append once.0 (x ∷ once.1), length-append once.0 once.1)

-- an order has as many places as there are rows
pub as_many : (rows : List Row) (places : List ℕ) → IsOrderOf rows (rows_at rows places) → length places ≡ length rows
as_many rows places once = sym (length-map places (row_at rows)) ∙ order_long rows (rows_at rows places) once

-- an order whose numbers finish is a finishing order
pub finishing_is : (free : ℕ → ℕ) (rows order : List Row) → Pairwise IsLower rows → IsOrderOf rows order → AreFinishing free rows (numbers_of order) → IsFinishingOrder free rows order
finishing_is free rows [] low once h = record { each_once = once; in_line = tt; fits = tt }
finishing_is free rows (x ∷ order) low once h =
    let low' : Pairwise IsLower (once.0 ++ x ∷ once.1) = subst (Pairwise IsLower) once.2 low in
    let g = numbers_after free once.0 x once.1 (numbers_of order) low' (subst (λ (r : List Row). AreFinishing free r (x.number ∷ numbers_of order)) once.2 h) in
    let rest = finishing_is (freed free x) (once.0 ++ once.1) order (pairwise_without IsLower once.0 x once.1 low') once.3 g.1 in
    record {
      each_once = once;
      in_line = (all_in_order (KeepsLine x) (once.0 ++ once.1) order once.3 g.0.in_line, rest.in_line);
      fits = (g.0.fits, rest.fits);
    }

pub held_same : (kind : ℕ) (rows order : List Row) → IsOrderOf rows order → held_of kind order ≡ held_of kind rows
held_same kind rows order once = holds_sum kind order ∙ (sym (holds_order kind rows order once) ∙ sym (holds_sum kind rows))
