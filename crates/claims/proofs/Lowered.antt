-- Rows that hold and need no more than before can finish as before, and a row may stand last that needs no more than there is.
use Rattle.std.proofs.Common.{◌⊎◌, inl, inr, ◌≡◌, ℕ, ◌+◌, ◌≤◌, List, [], ◌∷◌, ◌++◌, refl, sym, ◌∙◌, ap, subst, arith, append_assoc}
use Rattle.std.specs.Prelude.{sum_by}
use Rattle.std.specs.List.{AllByRecursion}
use Rattle.std.proofs.lemmas.List.{append-nil}
use Rattle.std.proofs.lemmas.List.Sums.{sum_by-cons}
use Rattle.counts.specs.Amounts.{amount}
use Rattle.claims.specs.declared.row.Row.{Row}
use Rattle.claims.specs.Claims.{Pairwise}
use Rattle.claims.specs.Safety.{freed, CanFinish, KeepsLine, IsOrderOf, HasFinishingOrder}
use Rattle.claims.proofs.Orders.{order_without, finish_more, all_in_order}

-- the second is of the same job, and holds and needs no more
pub record Lower (x y : Row) : Type 0 where
  pub number : y.number ≡ x.number
  pub sender : y.sender ≡ x.sender
  pub queue : y.queue ≡ x.queue
  pub held : (k : ℕ) → amount y.held k ≤ amount x.held k
  pub need : (k : ℕ) → amount y.need k ≤ amount x.need k

keeps_left : (x y z : Row) → Lower x y → KeepsLine z x → KeepsLine z y
keeps_left x y z l k = rw (l.number, l.sender, l.queue) k

keeps_right : (x y z : Row) → Lower x y → KeepsLine x z → KeepsLine y z
keeps_right x y z l k = rw (l.number, l.sender, l.queue) k

all_right : (x y : Row) (d : List Row) → Lower x y → AllByRecursion (KeepsLine x) d → AllByRecursion (KeepsLine y) d
all_right x y [] l h = tt
all_right x y (z ∷ d) l h = (keeps_right x y z l h.0, all_right x y d l h.1)

all_left : (z : Row) (c : List Row) (x y : Row) (d : List Row) → Lower x y → AllByRecursion (KeepsLine z) (c ++ x ∷ d) → AllByRecursion (KeepsLine z) (c ++ y ∷ d)
all_left z [] x y d l h = (keeps_left x y z l h.0, h.1)
all_left z (w ∷ c) x y d l h = (h.0, all_left z c x y d l h.1)

line_lower : (c : List Row) (x y : Row) (d : List Row) → Lower x y → Pairwise KeepsLine (c ++ x ∷ d) → Pairwise KeepsLine (c ++ y ∷ d)
line_lower [] x y d l p = (all_right x y d l p.0, p.1)
line_lower (z ∷ c) x y d l p = (all_left z c x y d l p.0, line_lower c x y d l p.1)

finish_lower : (f g : ℕ → ℕ) (c : List Row) (x y : Row) (d : List Row) → Lower x y → ((k : ℕ) → f k ≤ g k) → ((k : ℕ) → f k + amount x.held k ≤ g k + amount y.held k) → CanFinish f (c ++ x ∷ d) → CanFinish g (c ++ y ∷ d)
finish_lower f g [] x y d l le more h = (λ k. omega (arith, h.0 k, le k, l.need k), finish_more (freed f x) (freed g y) d (λ k. omega (arith, more k)) h.1)
finish_lower f g (z ∷ c) x y d l le more h = (λ k. omega (arith, h.0 k, le k), finish_lower (freed f z) (freed g z) c x y d l (λ k. omega (arith, le k)) (λ k. omega (arith, more k)) h.1)

abbrev Inside : List Row → List Row → List Row → Row → List Row → Type 0
Inside a b p z q = ((m : List Row) × (a ≡ p ++ z ∷ m) × (q ≡ m ++ b)) ⊎ ((m : List Row) × (p ≡ a ++ m) × (b ≡ m ++ z ∷ q))

inside : (a b p : List Row) (z : Row) (q : List Row) → a ++ b ≡ p ++ z ∷ q → Inside a b p z q
inside [] b p z q e = inr (p, refl, e)
inside (w ∷ a) b [] z q e = inl (a, cc, cc)
inside (w ∷ a) b (v ∷ p) z q e =
    let first : w ≡ v = cc in
    elim (inside a b p z q cc) [
      | inl s ↦ let t = s.1 in inl (s.0, cc, s.2)
      | inr s ↦ let t = s.1 in inr (s.0, cc, s.2)
    ]

-- a row may be put at the same place into rows and an order of them
order_put : (c d a : List Row) (y : Row) (b : List Row) → IsOrderOf (a ++ b) (c ++ d) → IsOrderOf (a ++ y ∷ b) (c ++ y ∷ d)
order_put [] d a y b o = (a, b, refl, o)
order_put (z ∷ c) d a y b o =
    let p = o.0 in
    let q = o.1 in
    elim (inside a b p z q o.2) [
      | inl s ↦
          let m = s.0 in
          let rest : IsOrderOf ((p ++ m) ++ b) (c ++ d) = subst (λ (r : List Row). IsOrderOf r (c ++ d)) (ap (λ (r : List Row). p ++ r) s.2 ∙ sym (append_assoc p m b)) o.3 in
          (p, m ++ y ∷ b, ap (λ (r : List Row). r ++ y ∷ b) s.1 ∙ append_assoc p (z ∷ m) (y ∷ b), subst (λ (r : List Row). IsOrderOf r (c ++ y ∷ d)) (append_assoc p m (y ∷ b)) (order_put c d (p ++ m) y b rest))
      | inr s ↦
          let m = s.0 in
          let rest : IsOrderOf (a ++ (m ++ q)) (c ++ d) = subst (λ (r : List Row). IsOrderOf r (c ++ d)) (ap (λ (r : List Row). r ++ q) s.1 ∙ append_assoc a m q) o.3 in
          (a ++ y ∷ m, q, ap (λ (r : List Row). a ++ y ∷ r) s.2 ∙ sym (append_assoc a (y ∷ m) (z ∷ q)), subst (λ (r : List Row). IsOrderOf r (c ++ y ∷ d)) (sym (append_assoc a (y ∷ m) q)) (order_put c d a y (m ++ q) rest))
    ]

pub safe_lower : (f g : ℕ → ℕ) (a : List Row) (x y : Row) (b : List Row) → Lower x y → ((k : ℕ) → f k ≤ g k) → ((k : ℕ) → f k + amount x.held k ≤ g k + amount y.held k) → HasFinishingOrder f (a ++ x ∷ b) → HasFinishingOrder g (a ++ y ∷ b)
safe_lower f g a x y b l le more h =
    let w = order_without h.0 a x b h.1.each_once in (
      w.0 ++ y ∷ w.1,
      record {
        each_once = order_put w.0 w.1 a y b w.3;
        in_line = line_lower w.0 x y w.1 l (subst (Pairwise KeepsLine) w.2 h.1.in_line);
        fits = finish_lower f g w.0 x y w.1 l le more (subst (CanFinish f) w.2 h.1.fits);
      },
    )

-- what rows hold of a kind
abbrev pub holds : ℕ → List Row → ℕ
holds k [] = 0
holds k (x ∷ xs) = amount x.held k + holds k xs

pub holds_sum : (k : ℕ) (rows : List Row) → sum_by (λ (row : Row). amount row.held k) rows ≡ holds k rows
holds_sum k [] = refl
holds_sum k (x ∷ xs) = sum_by-cons (λ (row : Row). amount row.held k) x xs ∙ ap (λ (n : ℕ). amount x.held k + n) (holds_sum k xs)

pub holds_append : (k : ℕ) (a b : List Row) → holds k (a ++ b) ≡ holds k a + holds k b
holds_append k [] b = omega arith
holds_append k (x ∷ a) b = let ih = holds_append k a b in omega arith

pub holds_order : (k : ℕ) (rows order : List Row) → IsOrderOf rows order → holds k rows ≡ holds k order
holds_order k rows [] o = ap (holds k) o
holds_order k rows (y ∷ order) o =
    let e1 = ap (holds k) o.2 in
    let e2 = holds_append k o.0 (y ∷ o.1) in
    let e3 = holds_append k o.0 o.1 in
    let ih = holds_order k (o.0 ++ o.1) order o.3 in
    omega arith

finish_last : (f : ℕ → ℕ) (order : List Row) (x : Row) → ((k : ℕ) → amount x.need k ≤ f k + holds k order) → CanFinish f order → CanFinish f (order ++ x ∷ [])
finish_last f [] x fits h = (λ k. omega (arith, fits k), tt)
finish_last f (z ∷ order) x fits h = (h.0, finish_last (freed f z) order x (λ k. omega (arith, fits k)) h.1)

pub line_last : (order : List Row) (x : Row) → AllByRecursion (λ z. KeepsLine z x) order → Pairwise KeepsLine order → Pairwise KeepsLine (order ++ x ∷ [])
line_last [] x a p = (tt, tt)
line_last (z ∷ order) x a p = (push z order a.0 p.0, line_last order x a.1 p.1)
  where
    push : (z : Row) (order : List Row) → KeepsLine z x → AllByRecursion (KeepsLine z) order → AllByRecursion (KeepsLine z) (order ++ x ∷ [])
    push z [] k h = (k, tt)
    push z (w ∷ order) k h = (h.0, push z order k h.1)

-- a row may stand last that needs no more than there is
pub safe_last : (f : ℕ → ℕ) (rows : List Row) (x : Row) → ((k : ℕ) → amount x.need k ≤ f k + holds k rows) → AllByRecursion (λ z. KeepsLine z x) rows → HasFinishingOrder f rows → HasFinishingOrder f (rows ++ x ∷ [])
safe_last f rows x fits line h =
    let once : IsOrderOf (rows ++ []) (h.0 ++ []) = subst (λ (r : List Row). IsOrderOf r (h.0 ++ [])) (sym (append-nil rows)) (subst (λ (r : List Row). IsOrderOf rows r) (sym (append-nil h.0)) h.1.each_once) in (
      h.0 ++ x ∷ [],
      record {
        each_once = order_put h.0 [] rows x [] once;
        in_line = line_last h.0 x (all_in_order (λ z. KeepsLine z x) rows h.0 h.1.each_once line) h.1.in_line;
        fits = finish_last f h.0 x (λ k. omega (arith, fits k, holds_order k rows h.0 h.1.each_once)) h.1.fits;
      },
    )
