-- Rows that took something: what could finish after that could finish before.
use Rattle.std.proofs.Common.{◌≡◌, ℕ, ◌+◌, ◌≤◌, List, [], ◌∷◌, ◌++◌, refl, sym, ap, subst, arith}
use Rattle.std.specs.List.{AllByRecursion}
use Rattle.counts.specs.Amounts.{amount}
use Rattle.claims.specs.declared.row.Row.{Row}
use Rattle.claims.specs.Claims.{Pairwise}
use Rattle.claims.specs.Safety.{freed, CanFinish, KeepsLine, IsOrderOf, HasFinishingOrder}
use Rattle.claims.proofs.Lowered.{holds, holds_order as held_in_order}

-- the second is of the same job and holds no less, and with what it may still need it asks for no less
pub record Took (x y : Row) : Type 0 where
  pub number : y.number ≡ x.number
  pub sender : y.sender ≡ x.sender
  pub queue : y.queue ≡ x.queue
  pub held : (k : ℕ) → amount x.held k ≤ amount y.held k
  pub claim : (k : ℕ) → amount x.held k + amount x.need k ≤ amount y.held k + amount y.need k

-- each of the second rows is one of the first, in their order, that took something or nothing
abbrev pub AllTook : List Row → List Row → Type 0
AllTook [] [] = Unit {0}
AllTook [] (y ∷ ys) = ⊥
AllTook (x ∷ xs) [] = ⊥
AllTook (x ∷ xs) (y ∷ ys) = Took x y × AllTook xs ys

pub took_more : (k : ℕ) (xs ys : List Row) → AllTook xs ys → holds k xs ≤ holds k ys
took_more k [] [] t = omega arith
took_more k (x ∷ xs) (y ∷ ys) t = omega (arith, took_more k xs ys t.1, t.0.held k)
took_more k _ _ t = absurd t

-- what stands at the place of one of the second rows
record At (xs : List Row) (a : List Row) (y : Row) (b : List Row) : Type 0 where
  pub before : List Row
  pub row : Row
  pub after : List Row
  pub is : xs ≡ before ++ row ∷ after
  pub took : Took row y
  pub others : AllTook (before ++ after) (a ++ b)

at : (xs a : List Row) (y : Row) (b : List Row) → AllTook xs (a ++ y ∷ b) → At xs a y b
at [] [] y b t = absurd t
at [] (z ∷ a) y b t = absurd t
at (x ∷ xs) [] y b t = record { before = []; row = x; after = xs; is = refl; took = t.0; others = t.1 }
at (x ∷ xs) (z ∷ a) y b t =
    let r = at xs a y b t.1 in
    record { before = x ∷ r.before; row = r.row; after = r.after; is = ap (λ (l : List Row). x ∷ l) r.is; took = r.took; others = (t.0, r.others) }

none_took : (xs ys : List Row) → ys ≡ [] → AllTook xs ys → xs ≡ []
none_took [] ys e t = refl
none_took (x ∷ xs) [] e t = absurd t
none_took (x ∷ xs) (y ∷ ys) e t = absurd cc

record Ordered (xs order : List Row) : Type 0 where
  pub rows : List Row
  pub once : IsOrderOf xs rows
  pub took : AllTook rows order

-- an order of the second rows is one of the first
ordered : (xs ys order : List Row) → AllTook xs ys → IsOrderOf ys order → Ordered xs order
ordered xs ys [] t o = record { rows = []; once = none_took xs ys o t; took = tt }
ordered xs ys (y ∷ order) t o =
    let r = at xs o.0 y o.1 (subst (AllTook xs) o.2 t) in
    let rest = ordered (r.before ++ r.after) (o.0 ++ o.1) order r.others o.3 in
    record { rows = r.row ∷ rest.rows; once = (r.before, r.after, r.is, rest.once); took = (r.took, rest.took) }

line_of : (x y : Row) (xs ys : List Row) → Took x y → AllTook xs ys → AllByRecursion (KeepsLine y) ys → AllByRecursion (KeepsLine x) xs
line_of x y [] ys t ts h = tt
line_of x y (w ∷ xs) [] t ts h = absurd ts
line_of x y (w ∷ xs) (z ∷ ys) t ts h = (same x y w z t ts.0 h.0, line_of x y xs ys t ts.1 h.1)
  where
    same : (x y w z : Row) → Took x y → Took w z → KeepsLine y z → KeepsLine x w
    same x y w z t u k = rw (sym t.number, sym t.sender, sym t.queue, sym u.number, sym u.sender, sym u.queue) k

lines : (xs ys : List Row) → AllTook xs ys → Pairwise KeepsLine ys → Pairwise KeepsLine xs
lines [] ys t h = tt
lines (x ∷ xs) [] t h = absurd t
lines (x ∷ xs) (y ∷ ys) t h = (line_of x y xs ys t.0 t.1 h.0, lines xs ys t.1 h.1)

-- what is free and held together is no less
abbrev pub NoLess : (ℕ → ℕ) → List Row → (ℕ → ℕ) → List Row → Type 0
NoLess f xs g ys = (k : ℕ) → g k + holds k ys ≤ f k + holds k xs

finishes : (f g : ℕ → ℕ) (xs ys : List Row) → AllTook xs ys → NoLess f xs g ys → CanFinish g ys → CanFinish f xs
finishes f g [] ys t le h = tt
finishes f g (x ∷ xs) [] t le h = absurd t
finishes f g (x ∷ xs) (y ∷ ys) t le h = (
  λ k. (let m = took_more k xs ys t.1 in omega (arith, h.0 k, le k, t.0.claim k, t.0.held k)),
  finishes (freed f x) (freed g y) xs ys t.1 (λ k. omega (arith, le k)) h.1,
)

-- where the rows could finish after some took something, they could before
pub safe_before : (f g : ℕ → ℕ) (xs ys : List Row) → AllTook xs ys → NoLess f xs g ys → HasFinishingOrder g ys → HasFinishingOrder f xs
safe_before f g xs ys t le h =
    let r = ordered xs ys h.0 t h.1.each_once in (
      r.rows,
      record {
        each_once = r.once;
        in_line = lines r.rows h.0 r.took h.1.in_line;
        fits = finishes f g r.rows h.0 r.took (λ k. omega (arith, le k, held_in_order k xs r.rows r.once, held_in_order k ys h.0 h.1.each_once)) h.1.fits;
      },
    )
