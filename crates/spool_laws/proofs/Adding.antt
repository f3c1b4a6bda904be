-- Sums over lists, and over the numbers from 1 to n.
use Rattle.std.proofs.Common.{inl, inr, ◌≡◌, ◌≢◌, ℕ, zero, suc, ◌+◌, ◌≤◌, Bool, true, false, List, [], ◌∷◌, ◌++◌, length, map, refl, sym, ◌∙◌, ap, subst, arith}
use Rattle.std.specs.Prelude.{cond, filter, sum_by}
use Rattle.std.proofs.lemmas.List.{map-append, length_push}
use Rattle.std.proofs.lemmas.List.Sums.{sum_by-cons, sum_by_push}
use Rattle.spool_history.specs.Now.{up_to}
use Rattle.spool_laws.proofs.Known.{Has, test}

-- over a list

pub sum_less : {X : Type 0} (f g : X → ℕ) (xs : List X) → ((y : X) → Has y xs → f y ≤ g y) → sum_by f xs ≤ sum_by g xs
sum_less f g [] le = omega arith
sum_less f g (x ∷ xs) le = omega (arith, le x (inl refl), sum_less f g xs (λ y has. le y (inr has)), sum_by-cons f x xs, sum_by-cons g x xs)

pub sum_more : {X : Type 0} (f g : X → ℕ) (n : ℕ) (x : X) (xs : List X) → Has x xs → ((y : X) → f y ≤ g y) → f x + n ≤ g x → sum_by f xs + n ≤ sum_by g xs
sum_more f g n x [] has le more = absurd has
sum_more {X} f g n x (y ∷ ys) has le more =
    let k = sum_by-cons f y ys in
    let l = sum_by-cons g y ys in
    elim has [
      | inl s ↦
          let here : f y + n ≤ g y = subst (λ (z : X). f z + n ≤ g z) (sym s) more in
          omega (arith, sum_less f g ys (λ z t. le z))
      | inr t ↦ let a = le y in let ih = sum_more f g n x ys t le more in omega arith
    ]

pub sum_same : {X : Type 0} (f g : X → ℕ) (xs : List X) → ((y : X) → f y ≡ g y) → sum_by f xs ≡ sum_by g xs
sum_same f g [] e = refl
sum_same f g (x ∷ xs) e = omega (arith, e x, sum_same f g xs e, sum_by-cons f x xs, sum_by-cons g x xs)

-- where each is the sum of three, so is the sum
pub sum_parts : {X : Type 0} (f a b d : X → ℕ) (xs : List X) → ((y : X) → Has y xs → f y ≡ a y + (b y + d y)) → sum_by f xs ≡ sum_by a xs + (sum_by b xs + sum_by d xs)
sum_parts f a b d [] e = omega arith
sum_parts f a b d (x ∷ xs) e = omega (arith, e x (inl refl), sum_parts f a b d xs (λ y has. e y (inr has)), sum_by-cons f x xs, sum_by-cons a x xs, sum_by-cons b x xs, sum_by-cons d x xs)

pub sum_map : {X Y : Type 0} (f : Y → ℕ) (g : X → Y) (xs : List X) → sum_by f (map g xs) ≡ sum_by (λ (x : X). f (g x)) xs
sum_map f g [] = refl
sum_map {X} f g (x ∷ xs) = omega (arith, sum_map f g xs, sum_by-cons f (g x) (map g xs), sum_by-cons (λ (y : X). f (g y)) x xs)

sum_filter_by : {X : Type 0} (f : X → ℕ) (t : X → Bool) (x : X) (xs : List X) (b : Bool) → t x ≡ b → sum_by f (filter t xs) ≡ sum_by (λ (y : X). cond (t y) (f y) 0) xs
    → sum_by f (filter t (x ∷ xs)) ≡ sum_by (λ (y : X). cond (t y) (f y) 0) (x ∷ xs)
sum_filter_by {X} f t x xs true e ih =
    let first : filter t (x ∷ xs) ≡ x ∷ filter t xs = rw e refl in
    let one : cond (t x) (f x) 0 ≡ f x = rw e refl in
    let k = sum_by-cons f x (filter t xs) in
    let l = sum_by-cons (λ (y : X). cond (t y) (f y) 0) x xs in
    ap (sum_by f) first ∙ omega arith
sum_filter_by {X} f t x xs false e ih =
    let first : filter t (x ∷ xs) ≡ filter t xs = rw e refl in
    let one : cond (t x) (f x) 0 ≡ 0 = rw e refl in
    let l = sum_by-cons (λ (y : X). cond (t y) (f y) 0) x xs in
    ap (sum_by f) first ∙ omega arith

pub sum_filter : {X : Type 0} (f : X → ℕ) (t : X → Bool) (xs : List X) → sum_by f (filter t xs) ≡ sum_by (λ (y : X). cond (t y) (f y) 0) xs
sum_filter f t [] = refl
sum_filter f t (x ∷ xs) = sum_filter_by f t x xs (t x) refl (sum_filter f t xs)

-- over the numbers from 1 to n

pub length_up_to : {P : Type 0} (f : ℕ → P) (n : ℕ) → length (map f (up_to n)) ≡ n
length_up_to f zero = refl
length_up_to f (suc n) = ap length (map-append f (up_to n) (suc n ∷ [])) ∙ (length_push (map f (up_to n)) (f (suc n)) ∙ (let ih = length_up_to f n in omega arith))

pub up_below : (f g : ℕ → ℕ) (n : ℕ) → ((q : ℕ) → q ≤ n → g q ≤ f q) → sum_by g (up_to n) ≤ sum_by f (up_to n)
up_below f g zero le = omega arith
up_below f g (suc n) le = omega (arith, up_below f g n (λ q l. le q (omega arith)), le (suc n) (omega arith), sum_by_push f (up_to n) (suc n), sum_by_push g (up_to n) (suc n))

pub up_less : (f g : ℕ → ℕ) (n : ℕ) → ((q : ℕ) → g q ≤ f q) → sum_by g (up_to n) ≤ sum_by f (up_to n)
up_less f g n le = up_below f g n (λ q l. le q)

pub up_one : (f g : ℕ → ℕ) (p n : ℕ) → ((q : ℕ) → q ≢ p → g q ≤ f q) → g p ≤ f p + 1 → sum_by g (up_to n) ≤ sum_by f (up_to n) + 1
up_one f g p zero le one = omega arith
up_one f g p (suc n) le one =
    let k = sum_by_push f (up_to n) (suc n) in
    let l = sum_by_push g (up_to n) (suc n) in
    elim (test (suc n) p) [
      | inl s ↦
          let here : g (suc n) ≤ f (suc n) + 1 = subst (λ (i : ℕ). g i ≤ f i + 1) (sym s.0) one in
          omega (arith, s.0, up_below f g n (λ q l. le q (λ e. (let z : q ≡ p = e in omega arith))))
      | inr s ↦ let a = le (suc n) s.0 in let ih = up_one f g p n le one in omega arith
    ]

pub up_none : (f : ℕ → ℕ) (n : ℕ) → ((q : ℕ) → f q ≡ 0) → sum_by f (up_to n) ≡ 0
up_none f zero none = refl
up_none f (suc n) none = omega (arith, up_none f n none, none (suc n), sum_by_push f (up_to n) (suc n))

pub has_left : {X : Type 0} (x : X) (xs ys : List X) → Has x xs → Has x (xs ++ ys)
has_left x [] ys has = absurd has
has_left x (z ∷ zs) ys has = elim has [ inl e ↦ inl e | inr t ↦ inr (has_left x zs ys t) ]

pub has_end : {X : Type 0} (x : X) (xs : List X) → Has x (xs ++ x ∷ [])
has_end x [] = inl refl
has_end x (z ∷ zs) = inr (has_end x zs)

pub has_up_to : (p n : ℕ) → 1 ≤ p → p ≤ n → Has p (up_to n)
has_up_to p zero one le = absurd (omega arith)
has_up_to p (suc n) one le = elim (test (suc n) p) [
  | inl s ↦ subst (λ (i : ℕ). Has i (up_to n ++ suc n ∷ [])) s.0 (has_end (suc n) (up_to n))
  | inr s ↦ let ne : suc n ≢ p = s.0 in has_left p (up_to n) (suc n ∷ []) (has_up_to p n one (omega arith))
]

-- one of them counts one more, and no other counts anything else
pub up_once : (f g : ℕ → ℕ) (p n : ℕ) → 1 ≤ p → p ≤ n → ((q : ℕ) → q ≢ p → g q ≡ f q) → g p ≡ f p + 1 → sum_by g (up_to n) ≡ sum_by f (up_to n) + 1
up_once f g p n one le same more =
    let most = up_one f g p n (λ q ne. (let e = same q ne in omega arith)) (omega arith) in
    let least = sum_more f g 1 p (up_to n) (has_up_to p n one le) (λ q. elim (test q p) [
      | inl s ↦ subst (λ (i : ℕ). f i ≤ g i) (sym s.0) (omega arith)
      | inr s ↦ let e = same q s.0 in omega arith
    ]) (omega arith) in
    omega arith
