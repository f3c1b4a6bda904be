-- A row may be taken out of any finishing order, and be put in front of one where it can go.
use Rattle.std.proofs.Common.{◌≡◌, ℕ, ◌<◌, ◌≤◌, List, [], ◌∷◌, ◌++◌, ◌⊎◌, inl, inr, refl, sym, ◌∙◌, ap, subst, arith, append_assoc, map}
use Rattle.std.specs.List.{AllByRecursion}
use Rattle.counts.specs.Amounts.{Fits}
use Rattle.claims.specs.declared.row.Row.{Row}
use Rattle.claims.specs.Claims.{Pairwise, IsLower}
use Rattle.claims.proofs.Tables.{pairwise_without, all_without}
use Rattle.claims.specs.Safety.{freed, CanFinish, KeepsLine, IsOrderOf, HasFinishingOrder, AreFinishing}

pub all_at : (P : Row → Type 0) (a : List Row) (x : Row) (b : List Row) → AllByRecursion P (a ++ x ∷ b) → P x
all_at P [] x b h = h.0
all_at P (y ∷ a) x b h = all_at P a x b h.1

pub all_put : (P : Row → Type 0) (a : List Row) (x : Row) (b : List Row) → AllByRecursion P (a ++ b) → P x → AllByRecursion P (a ++ x ∷ b)
all_put P [] x b h p = (p, h)
all_put P (y ∷ a) x b h p = (h.0, all_put P a x b h.1 p)

abbrev Before : List Row → Row → List Row → List Row → Row → List Row → Type 0
Before a x b c y d = (m : List Row) × (c ≡ a ++ x ∷ m) × (b ≡ m ++ y ∷ d)

abbrev Places : List Row → Row → List Row → List Row → Row → List Row → Type 0
Places a x b c y d = ((a ≡ c) × (x ≡ y) × (b ≡ d)) ⊎ (Before a x b c y d ⊎ Before c y d a x b)

-- two places in one list
places : (a : List Row) (x : Row) (b c : List Row) (y : Row) (d : List Row) → a ++ x ∷ b ≡ c ++ y ∷ d → Places a x b c y d
places [] x b [] y d e = inl (refl, cc, cc)
places [] x b (z ∷ c) y d e = inr (inl (c, cc, cc))
places (w ∷ a) x b [] y d e = inr (inr (a, cc, cc))
places (w ∷ a) x b (z ∷ c) y d e =
    elim (places a x b c y d cc) [
      | inl h ↦ inl (cc, h.1, h.2)
      | inr h ↦ elim h [
        | inl h ↦ inr (inl (h.0, cc, h.2))
        | inr h ↦ inr (inr (h.0, cc, h.2))
      ]
    ]

-- an order of rows, one of which is x, without x
abbrev Without : List Row → List Row → Row → List Row → Type 0
Without order a x b = (c : List Row) × (d : List Row) × (order ≡ c ++ x ∷ d) × IsOrderOf (a ++ b) (c ++ d)

not_nil : (a : List Row) (x : Row) (b : List Row) → a ++ x ∷ b ≡ [] → ⊥
not_nil [] x b e = cc
not_nil (y ∷ a) x b e = cc

pub order_without : (order a : List Row) (x : Row) (b : List Row) → IsOrderOf (a ++ x ∷ b) order → Without order a x b
order_without [] a x b h = absurd (not_nil a x b h)
order_without (y ∷ order) a x b h =
    let c0 = h.0 in
    let d0 = h.1 in
    elim (places a x b c0 y d0 h.2) [
      | inl s ↦ ([], order, ap (λ z. z ∷ order) (sym s.1), subst (λ (r : List Row). IsOrderOf r order) (cc (s.0, s.2)) h.3)
      | inr s ↦ elim s [
        | inl s ↦
            let m = s.0 in
            let ih = order_without order a x (m ++ d0) (subst (λ (r : List Row). IsOrderOf r order) (ap (λ (r : List Row). r ++ d0) s.1 ∙ append_assoc a (x ∷ m) d0) h.3) in (
              y ∷ ih.0,
              ih.1,
              ap (λ r. y ∷ r) ih.2,
              (a ++ m, d0, ap (λ r. a ++ r) s.2 ∙ sym (append_assoc a m (y ∷ d0)), subst (λ (r : List Row). IsOrderOf r (ih.0 ++ ih.1)) (sym (append_assoc a m d0)) ih.3),
            )
        | inr s ↦
            let m = s.0 in
            let ih = order_without order (c0 ++ m) x b (subst (λ (r : List Row). IsOrderOf r order) (ap (λ (r : List Row). c0 ++ r) s.2 ∙ sym (append_assoc c0 m (x ∷ b))) h.3) in (
              y ∷ ih.0,
              ih.1,
              ap (λ r. y ∷ r) ih.2,
              (c0, m ++ b, ap (λ (r : List Row). r ++ b) s.1 ∙ append_assoc c0 (y ∷ m) b, subst (λ (r : List Row). IsOrderOf r (ih.0 ++ ih.1)) (append_assoc c0 m b) ih.3),
            )
      ]
    ]

-- with more free, the same order serves
pub finish_more : (f g : ℕ → ℕ) (xs : List Row) → ((k : ℕ) → f k ≤ g k) → CanFinish f xs → CanFinish g xs
finish_more f g [] le h = tt
finish_more f g (x ∷ xs) le h = (λ k. omega (arith, h.0 k, le k), finish_more (freed f x) (freed g x) xs (λ k. omega (arith, le k)) h.1)

-- an order without one row serves, where that row gave back what it held
pub finish_without : (f : ℕ → ℕ) (a : List Row) (x : Row) (b : List Row) → CanFinish f (a ++ x ∷ b) → CanFinish (freed f x) (a ++ b)
finish_without f [] x b h = h.1
finish_without f (y ∷ a) x b h =
    (λ k. omega (arith, h.0 k), finish_more (freed (freed f y) x) (freed (freed f x) y) (a ++ b) (λ k. omega arith) (finish_without (freed f y) a x b h.1))

pub safe_without : (f : ℕ → ℕ) (a : List Row) (x : Row) (b : List Row) → HasFinishingOrder f (a ++ x ∷ b) → HasFinishingOrder (freed f x) (a ++ b)
safe_without f a x b h =
    let w = order_without h.0 a x b h.1.each_once in (
      w.0 ++ w.1,
      record {
        each_once = w.3;
        in_line = pairwise_without KeepsLine w.0 x w.1 (subst (Pairwise KeepsLine) w.2 h.1.in_line);
        fits = finish_without f w.0 x w.1 (subst (CanFinish f) w.2 h.1.fits);
      },
    )

pub safe_more : (f g : ℕ → ℕ) (rows : List Row) → ((k : ℕ) → f k ≤ g k) → HasFinishingOrder f rows → HasFinishingOrder g rows
safe_more f g rows le h = (h.0, record { each_once = h.1.each_once; in_line = h.1.in_line; fits = finish_more f g h.0 le h.1.fits })

pub all_in_order : (P : Row → Type 0) (rows order : List Row) → IsOrderOf rows order → AllByRecursion P rows → AllByRecursion P order
all_in_order P rows [] o h = tt
all_in_order P rows (y ∷ order) o h =
    let here = subst (AllByRecursion P) o.2 h in
    (all_at P o.0 y o.1 here, all_in_order P (o.0 ++ o.1) order o.3 (all_without P o.0 y o.1 here))

pub all_of_rows : (P : Row → Type 0) (rows order : List Row) → IsOrderOf rows order → AllByRecursion P order → AllByRecursion P rows
all_of_rows P rows [] o h = subst (AllByRecursion P) (sym o) tt
all_of_rows P rows (y ∷ order) o h =
    subst (AllByRecursion P) (sym o.2) (all_put P o.0 y o.1 (all_of_rows P (o.0 ++ o.1) order o.3 h.1) h.0)

-- a row may go first that fits, and that stands before none of its line
pub record MayGo (f : ℕ → ℕ) (a : List Row) (x : Row) (b : List Row) : Type 0 where
  pub fits : Fits x.need f
  pub in_line : AllByRecursion (KeepsLine x) (a ++ b)

pub safe_first : (f : ℕ → ℕ) (a : List Row) (x : Row) (b : List Row) → MayGo f a x b → HasFinishingOrder (freed f x) (a ++ b) → HasFinishingOrder f (a ++ x ∷ b)
safe_first f a x b m h = (
  x ∷ h.0,
  record {
    each_once = (a, b, refl, h.1.each_once);
    in_line = (all_in_order (KeepsLine x) (a ++ b) h.0 h.1.each_once m.in_line, h.1.in_line);
    fits = (m.fits, h.1.fits);
  },
)

first_of : (f : ℕ → ℕ) (r : Row) (rs order : List Row) → IsOrderOf (r ∷ rs) order → Pairwise KeepsLine order → CanFinish f order → (a : List Row) × (x : Row) × (b : List Row) × (r ∷ rs ≡ a ++ x ∷ b) × MayGo f a x b
first_of f r rs [] o p c = absurd cc
first_of f r rs (x ∷ order) o p c = (o.0, x, o.1, o.2, record { fits = c.0; in_line = all_of_rows (KeepsLine x) (o.0 ++ o.1) order o.3 p.0 })

-- the first of a finishing order may go first
pub some_first : (f : ℕ → ℕ) (r : Row) (rs : List Row) → HasFinishingOrder f (r ∷ rs) → (a : List Row) × (x : Row) × (b : List Row) × (r ∷ rs ≡ a ++ x ∷ b) × MayGo f a x b
some_first f r rs h = first_of f r rs h.0 h.1.each_once h.1.in_line h.1.fits

abbrev numbers_of : List Row → List ℕ
numbers_of rows = map (λ (row : Row). row.number) rows

-- the numbers of an order with a row in front that may go
pub numbers_first : (f : ℕ → ℕ) (a : List Row) (x : Row) (b : List Row) (numbers : List ℕ) → MayGo f a x b → AreFinishing (freed f x) (a ++ b) numbers → AreFinishing f (a ++ x ∷ b) (x.number ∷ numbers)
numbers_first f a x b numbers m h = (
  x ∷ h.0,
  record {
    each_once = (a, b, refl, h.1.each_once);
    in_line = (all_in_order (KeepsLine x) (a ++ b) h.0 h.1.each_once m.in_line, h.1.in_line);
    fits = (m.fits, h.1.fits);
  },
  ap (λ (ns : List ℕ). x.number ∷ ns) h.2,
)

lower_after : (a : List Row) (x : Row) (m : List Row) (y : Row) (d : List Row) → Pairwise IsLower (a ++ x ∷ (m ++ y ∷ d)) → x.number < y.number
lower_after [] x m y d p = all_at (IsLower x) m y d p.0
lower_after (z ∷ a) x m y d p = lower_after a x m y d p.1

-- rows of one number stand at one place
same_place : (a : List Row) (x : Row) (b c : List Row) (y : Row) (d : List Row) → Pairwise IsLower (a ++ x ∷ b) → a ++ x ∷ b ≡ c ++ y ∷ d → x.number ≡ y.number → (a ≡ c) × (x ≡ y) × (b ≡ d)
same_place a x b c y d p e n = elim (places a x b c y d e) [
  | inl h ↦ h
  | inr h ↦ elim h [
    | inl w ↦ absurd (let l : x.number < y.number = lower_after a x w.0 y d (subst (λ (r : List Row). Pairwise IsLower (a ++ x ∷ r)) w.2 p) in omega arith)
    | inr w ↦ absurd (let l : y.number < x.number = lower_after c y w.0 x b (subst (λ (r : List Row). Pairwise IsLower (c ++ y ∷ r)) w.2 (subst (Pairwise IsLower) e p)) in omega arith)
  ]
]

-- where the first number is that of a row, the row may go and the rest finishes without it
abbrev pub GoesFirst : (ℕ → ℕ) → List Row → Row → List Row → List ℕ → Type 0
GoesFirst f a x b numbers = MayGo f a x b × AreFinishing (freed f x) (a ++ b) numbers

goes : (f : ℕ → ℕ) (a : List Row) (x : Row) (b : List Row) (numbers : List ℕ) (y : Row) (order : List Row) → Pairwise IsLower (a ++ x ∷ b) → IsOrderOf (a ++ x ∷ b) (y ∷ order) → Pairwise KeepsLine (y ∷ order) → CanFinish f (y ∷ order) → y.number ≡ x.number → numbers_of order ≡ numbers → GoesFirst f a x b numbers
goes f a x b numbers y order low o p c n e =
    let s = same_place a x b o.0 y o.1 low o.2 (sym n) in
    let rest : o.0 ++ o.1 ≡ a ++ b = cc (s.0, s.2) in
    let once : IsOrderOf (a ++ b) order = subst (λ (r : List Row). IsOrderOf r order) rest o.3 in
    let line : AllByRecursion (KeepsLine y) (a ++ b) = all_of_rows (KeepsLine y) (a ++ b) order once p.0 in (
      record {
        fits = subst (λ (r : Row). Fits r.need f) (sym s.1) c.0;
        in_line = subst (λ (r : Row). AllByRecursion (KeepsLine r) (a ++ b)) (sym s.1) line;
      },
      (order, record { each_once = once; in_line = p.1; fits = subst (λ (r : Row). CanFinish (freed f r) order) (sym s.1) c.1 }, e),
    )

pub numbers_after : (f : ℕ → ℕ) (a : List Row) (x : Row) (b : List Row) (numbers : List ℕ) → Pairwise IsLower (a ++ x ∷ b) → AreFinishing f (a ++ x ∷ b) (x.number ∷ numbers) → GoesFirst f a x b numbers
numbers_after f a x b numbers low h = from h.0 h.1.each_once h.1.in_line h.1.fits h.2
  where
    from : (order : List Row) → IsOrderOf (a ++ x ∷ b) order → Pairwise KeepsLine order → CanFinish f order → numbers_of order ≡ x.number ∷ numbers → GoesFirst f a x b numbers
    from [] o p c e = absurd (not_nil a x b o)
    from (y ∷ order) o p c e = goes f a x b numbers y order low o p c (cc) (cc)

-- each number of an order is that of a row
pub number_there : (f : ℕ → ℕ) (rows : List Row) (n : ℕ) (numbers : List ℕ) → AreFinishing f rows (n ∷ numbers) → (a : List Row) × (x : Row) × (b : List Row) × (rows ≡ a ++ x ∷ b) × (x.number ≡ n)
number_there f rows n numbers h = from h.0 h.1.each_once h.2
  where
    from : (order : List Row) → IsOrderOf rows order → numbers_of order ≡ n ∷ numbers → (a : List Row) × (x : Row) × (b : List Row) × (rows ≡ a ++ x ∷ b) × (x.number ≡ n)
    from [] o e = absurd cc
    from (y ∷ order) o e = (o.0, y, o.1, o.2, cc)

-- no number orders no row
pub none_ordered : (f : ℕ → ℕ) (rows : List Row) → AreFinishing f rows [] → rows ≡ []
none_ordered f rows h = from h.0 h.1.each_once h.2
  where
    from : (order : List Row) → IsOrderOf rows order → numbers_of order ≡ [] → rows ≡ []
    from [] o e = o
    from (y ∷ order) o e = absurd cc

pub numbers_more : (f g : ℕ → ℕ) (rows : List Row) (numbers : List ℕ) → ((k : ℕ) → f k ≤ g k) → AreFinishing f rows numbers → AreFinishing g rows numbers
numbers_more f g rows numbers le h = (h.0, record { each_once = h.1.each_once; in_line = h.1.in_line; fits = finish_more f g h.0 le h.1.fits }, h.2)
