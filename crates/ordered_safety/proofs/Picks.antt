-- Rows go one by one out of those that are left: which of them may go, and what is in order before and after.
use Rattle.std.proofs.Common.{◌≡◌, ℕ, zero, suc, ◌+◌, ◌<◌, ◌↔◌, List, [], ◌∷◌, ◌++◌, inl, inr, length, get_or, take, drop, refl, sym, ◌∙◌, ap, ap₂, subst, subst₂, arith, drop-cons, length-append}
use Rattle.std.specs.Prelude.{remove}
use Rattle.std.specs.List.{AllByRecursion}
use Rattle.std.proofs.lemmas.Bool.{cases_lt, false_from_ne_true}
use Rattle.std.proofs.lemmas.List.{get_or-map, length-map, map-append, take-map, drop-map, take-append-drop, get_or_at, get_or_append_left}
use Rattle.std.proofs.lemmas.List.Elements.{All-from_get_or, All-from_recursion, recursion_from_All}
use Rattle.std.proofs.lemmas.List.Edits.{length-remove, get_or-remove_below, get_or-remove_above}
use Rattle.counts.specs.Amounts.{amount, Fits}
use Rattle.claims.specs.declared.row.Row.{Row}
use Rattle.claims.specs.Claims.{Pairwise, IsLower, row_at, no_row}
use Rattle.claims.proofs.Tables.{pairwise_without}
use Rattle.claims.specs.Safety.{freed, KeepsLine, IsFinishingOrder, same_line, HasFinishingOrder, AreFinishing}
use Rattle.claims.proofs.Orders.{all_in_order, safe_without, some_first, numbers_after, number_there}
use Rattle.ordered_safety.specs.Scan.{rows_at, row_of, MayGoAt, HasTurn}
use Rattle.ordered_safety.specs.Compared.{HasNoEarlier, CanGo, NoneCanGo, IsNext}

-- a row at the places is the row of the place
pub row_there : (rows : List Row) (left : List ℕ) (at : ℕ) → at < length left → row_at (rows_at rows left) at ≡ row_of rows left at
row_there rows left at lt = get_or-map (row_at rows) left at 0 no_row lt

pub same_remove : (rows : List Row) (left : List ℕ) (at : ℕ) → rows_at rows (remove left at) ≡ remove (rows_at rows left) at
same_remove rows left at =
    map-append (row_at rows) (take at left) (drop (suc at) left)
    ∙ ap₂ (λ (a b : List Row). a ++ b) (sym (take-map (row_at rows) at left)) (sym (drop-map (row_at rows) (suc at) left))

-- what may go, and which row is next, of the rows at these places
module _ (rows : List Row) (left : List ℕ) (at : ℕ) where
  same_lines : (j : ℕ) → at < length left → j < at → same_line (row_at (rows_at rows left) at) (row_at (rows_at rows left) j) ≡ same_line (row_of rows left at) (row_of rows left j)
  same_lines j lt below = ap₂ same_line (row_there rows left at lt) (row_there rows left j (omega arith))

  pub can_go : (free : List ℕ) → MayGoAt rows left free at → CanGo (amount free) (rows_at rows left) at
  can_go free m = record {
    there = omega (arith, m.there, length-map left (row_at rows));
    fits = rw (row_there rows left at m.there) m.fits;
    in_line = λ j below. same_lines j m.there below ∙ m.in_line j below;
  }

  pub may_go_at : (free : List ℕ) → CanGo (amount free) (rows_at rows left) at → MayGoAt rows left free at
  may_go_at free m =
      let lt : at < length left = omega (arith, m.there, length-map left (row_at rows)) in
      record { there = lt; fits = rw (row_there rows left at lt) at m.fits; in_line = λ j below. sym (same_lines j lt below) ∙ m.in_line j below }

  pub is_next : (number : ℕ) → HasTurn rows left number at → IsNext (rows_at rows left) number at
  is_next number m = record {
    there = omega (arith, m.there, length-map left (row_at rows));
    numbered = ap (λ (r : Row). r.number) (row_there rows left at m.there) ∙ m.numbered;
    in_line = λ j below. same_lines j m.there below ∙ m.in_line j below;
  }

  pub has_turn : (number : ℕ) → IsNext (rows_at rows left) number at → HasTurn rows left number at
  has_turn number m =
      let lt : at < length left = omega (arith, m.there, length-map left (row_at rows)) in
      record { there = lt; numbered = ap (λ (r : Row). r.number) (sym (row_there rows left at lt)) ∙ m.numbered; in_line = λ j below. sym (same_lines j lt below) ∙ m.in_line j below }

-- the row at a place, and the others
pub split_at : (rows : List Row) (at : ℕ) → at < length rows → rows ≡ take at rows ++ row_at rows at ∷ drop (suc at) rows
split_at rows at lt = sym (take-append-drop at rows) ∙ ap (λ (r : List Row). take at rows ++ r) (drop-cons rows at no_row lt)

-- how two rows stand to each other
pub pair_at : (R : Row → Row → Type 0) (rows : List Row) (i j : ℕ) → i < j → j < length rows → Pairwise R rows → R (row_at rows i) (row_at rows j)
pair_at R [] i j lt le h = absurd (omega arith)
pair_at R (x ∷ xs) i zero lt le h = absurd (omega arith)
pair_at R (x ∷ xs) zero (suc j) lt le h = All-from_recursion (R x) xs h.0 j no_row (omega arith)
pair_at R (x ∷ xs) (suc i) (suc j) lt le h = pair_at R xs i j (omega arith) (omega arith) h.1

-- no two rows have one number
pub same_place : (rows : List Row) (i j : ℕ) → i < length rows → j < length rows → Pairwise IsLower rows → (row_at rows i).number ≡ (row_at rows j).number → i ≡ j
same_place rows i j li lj low e =
    let below : i < j → ⊥ = λ lt. omega (arith, pair_at IsLower rows i j lt lj low) in
    let above : j < i → ⊥ = λ lt. omega (arith, pair_at IsLower rows j i lt li low) in
    omega arith

-- where a row stands among others with all of which it keeps its line, it is next
pub next_there : (a : List Row) (x : Row) (b : List Row) → Pairwise IsLower (a ++ x ∷ b) → AllByRecursion (KeepsLine x) (a ++ b) → IsNext (a ++ x ∷ b) x.number (length a)
next_there a x b low keeps =
    let here : row_at (a ++ x ∷ b) (length a) ≡ x = get_or_at a x b no_row (length a) refl in
    let there : length a < length (a ++ x ∷ b) = omega (arith, length-append a (x ∷ b)) in
    record {
      there = there;
      numbered = ap (λ (r : Row). r.number) here;
      in_line = λ j lt.
          let y = get_or (a ++ b) j no_row in
          let other : row_at (a ++ x ∷ b) j ≡ y = get_or_append_left a (x ∷ b) no_row j lt ∙ sym (get_or_append_left a b no_row j lt) in
          let lower : y.number < x.number = subst₂ IsLower other here (pair_at IsLower (a ++ x ∷ b) j (length a) lt there low) in
          let line : KeepsLine x y = All-from_recursion (KeepsLine x) (a ++ b) keeps j no_row (omega (arith, length-append a b)) in
          ap₂ same_line here other ∙ false_from_ne_true (same_line x y) (λ same. let l = line same in omega arith);
    }

-- the row that goes, from rows whose numbers rise
module _ (rows : List Row) (at : ℕ) (there : at < length rows) (low : Pairwise IsLower rows) where
  split_low : Pairwise IsLower (take at rows ++ row_at rows at ∷ drop (suc at) rows)
  split_low = subst (Pairwise IsLower) (split_at rows at there) low

  pub rising_without : Pairwise IsLower (remove rows at)
  rising_without = pairwise_without IsLower (take at rows) (row_at rows at) (drop (suc at) rows) split_low

  -- where no earlier row is of its line, it keeps its line with all others
  keeps_line : HasNoEarlier rows at → AllByRecursion (KeepsLine (row_at rows at)) (remove rows at)
  keeps_line none =
      let x = row_at rows at in
      recursion_from_All (KeepsLine x) (remove rows at) (All-from_get_or (KeepsLine x) (remove rows at) no_row (λ k lt same. elim (cases_lt k at) [
        | inl before ↦ absurd (cc (same, ap (same_line x) (get_or-remove_below rows at no_row k before there), none k before))
        | inr after ↦ rw (get_or-remove_above rows at no_row k after there) (pair_at IsLower rows at (k + 1) (omega arith) (omega (arith, length-remove rows at there)) low)
      ]))

  -- a finishing order of the others, with the row before it
  pub order_before : (free : ℕ → ℕ) (order : List Row) → Fits (row_at rows at).need free → HasNoEarlier rows at
      → IsFinishingOrder (freed free (row_at rows at)) (remove rows at) order → IsFinishingOrder free rows (row_at rows at ∷ order)
  order_before free order fits none h = record {
    each_once = (take at rows, drop (suc at) rows, split_at rows at there, h.each_once);
    in_line = (all_in_order (KeepsLine (row_at rows at)) (remove rows at) order h.each_once (keeps_line none), h.in_line);
    fits = (fits, h.fits);
  }

  pub safe_after : (free : ℕ → ℕ) → HasFinishingOrder free rows → HasFinishingOrder (freed free (row_at rows at)) (remove rows at)
  safe_after free h = safe_without free (take at rows) (row_at rows at) (drop (suc at) rows) (subst (HasFinishingOrder free) (split_at rows at there) h)

  -- numbers that begin with its number
  pub numbers_from : (free : ℕ → ℕ) (number : ℕ) (numbers : List ℕ) → IsNext rows number at
      → AreFinishing free rows (number ∷ numbers) ↔ (Fits (row_at rows at).need free × AreFinishing (freed free (row_at rows at)) (remove rows at) numbers)
  numbers_from free number numbers next = (
    λ h.
        let g = numbers_after free (take at rows) (row_at rows at) (drop (suc at) rows) numbers split_low
        (subst₂ (λ (r : List Row) (n : ℕ). AreFinishing free r (n ∷ numbers)) (split_at rows at there) (sym next.numbered) h) in
        (g.0.fits, g.1),
    λ g. (row_at rows at ∷ g.1.0, order_before free g.1.0 g.0 next.in_line g.1.1, ap₂ (λ (n : ℕ) (ns : List ℕ). n ∷ ns) next.numbered g.1.2),
  )

-- where some are left and none may go, none of their orders finishes
pub none_safe : (free : ℕ → ℕ) (rows : List Row) → 0 < length rows → Pairwise IsLower rows → NoneCanGo free rows → HasFinishingOrder free rows → ⊥
none_safe free [] some low none h = omega arith
none_safe free (r ∷ rows) some low none h =
    let f = some_first free r rows h in
    let next = next_there f.0 f.1 f.2 (subst (Pairwise IsLower) f.3 low) f.4.in_line in
    let fits = subst (λ (x : Row). Fits x.need free) (sym (get_or_at f.0 f.1 f.2 no_row (length f.0) refl)) f.4.fits in
    none (length f.0) (subst (λ (rs : List Row). CanGo free rs (length f.0)) (sym f.3) (record { there = next.there; fits = fits; in_line = next.in_line }))

-- the first number of a finishing order is that of the row that is next
pub some_next : (free : ℕ → ℕ) (rows : List Row) (number : ℕ) (numbers : List ℕ) → Pairwise IsLower rows → AreFinishing free rows (number ∷ numbers) → (at : ℕ) × IsNext rows number at
some_next free rows number numbers low h =
    let w = number_there free rows number numbers h in
    let low' : Pairwise IsLower (w.0 ++ w.1 ∷ w.2) = subst (Pairwise IsLower) w.3 low in
    let g = numbers_after free w.0 w.1 w.2 numbers low' (subst₂ (λ (r : List Row) (n : ℕ). AreFinishing free r (n ∷ numbers)) w.3 (sym w.4) h) in
    (length w.0, subst₂ (λ (r : List Row) (n : ℕ). IsNext r n (length w.0)) (sym w.3) w.4 (next_there w.0 w.1 w.2 low' g.0.in_line))
