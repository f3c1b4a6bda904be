-- The jobs that a spool holds are accepted ones.
use Rattle.std.proofs.Common.{◌⊎◌, inl, inr, ◌≡◌, ◌==◌, ◌≢◌, ℕ, zero, suc, ◌<◌, Bool, true, false, List, [], ◌∷◌, ◌++◌, length, get_or, map, refl, sym, ◌∙◌, ap, subst, arith}
use Rattle.std.specs.Prelude.{◌&&◌, ◌||◌, cond, filter, find, Contains, Some}
use Rattle.std.specs.List.{list_any}
use Rattle.std.proofs.lemmas.Bool.Decides.{nat_tests}
use Rattle.std.proofs.lemmas.Bool.{or_parts, cases_Bool}
use Rattle.spool_history.specs.Base.{Base}
use Rattle.spool_history.specs.Events.{Event}
use Rattle.config_values.specs.Config.{Config}
use Rattle.spool_history.specs.Said.{Opening, openings}
use Rattle.spool_history.specs.Now.{Job, now, job_of, is_held}
use Rattle.spool_history.specs.Legal.{HasJob}

abbrev Same : ℕ → ℕ → Type 0
Same k j = ((k ≡ j) × ((k == j) ≡ true)) ⊎ ((k ≢ j) × ((k == j) ≡ false))

pub test : (k j : ℕ) → Same k j
test k j = elim (cases_Bool (k == j)) [ inl e ↦ inl (grind (arith, nat_tests), e) | inr e ↦ inr (grind (arith, nat_tests), e) ]

pub clash : (b : Bool) → b ≡ true → b ≡ false → ⊥
clash b e f = cc

pub or_true : (b : Bool) → (b || true) ≡ true
or_true true = refl
or_true false = refl

pub and_false : (b : Bool) → (b && false) ≡ false
and_false true = refl
and_false false = refl

-- x is one of xs
abbrev pub Has : {X : Type 0} → X → List X → Type 0
Has x [] = ⊥
Has x (y ∷ ys) = (y ≡ x) ⊎ Has x ys

pub has_at_place : {X : Type 0} (x : X) (xs : List X) (k : ℕ) → k < length xs → get_or xs k x ≡ x → Has x xs
has_at_place x [] k lt is = omega arith
has_at_place x (y ∷ ys) zero lt is = inl is
has_at_place x (y ∷ ys) (suc k) lt is = inr (has_at_place x ys k (omega arith) is)

pub has_contained : {X : Type 0} (x : X) (xs : List X) → Contains xs x → Has x xs
has_contained x xs c = has_at_place x xs c.0 c.1 c.2

pub has_last : {X : Type 0} (o : X) (os : List X) (x : X) → Has o (os ++ x ∷ []) → Has o os ⊎ (x ≡ o)
has_last o [] x h = elim h [ inl e ↦ inr e | inr n ↦ absurd n ]
has_last o (y ∷ os) x h = elim h [ inl e ↦ inl (inl e) | inr t ↦ elim (has_last o os x t) [ inl a ↦ inl (inr a) | inr b ↦ inr b ] ]

pub find_has : {X : Type 0} (test : X → Bool) (x : X) (xs : List X) → find test xs ≡ Some x → Has x xs × (test x ≡ true)
find_has test x [] e = absurd cc
find_has {X} test x (y ∷ ys) e = elim (cases_Bool (test y)) [
  | inl is ↦ (let first : Some y ≡ Some x = rw is at e in let same : y ≡ x = cc in (inl same, subst (λ (v : X). test v ≡ true) same is))
  | inr is ↦ let r = find_has test x ys (rw is at e) in (inr r.0, r.1)
]

pub none_of : {X : Type 0} (test' : X → Bool) (y : X) (xs : List X) → list_any test' xs ≡ false → Has y xs → test' y ≡ false
none_of test' y [] e has = absurd has
none_of {X} test' y (x ∷ xs) e has = elim has [
  | inl s ↦ subst (λ (z : X). test' z ≡ false) s (or_parts (test' x) (list_any test' xs) e).0
  | inr t ↦ none_of test' y xs (or_parts (test' x) (list_any test' xs) e).1 t
]

pub filter_cons : {C : Type 0} (b : Bool) (x : Job C) (xs : List (Job C)) → is_held x ≡ b → filter is_held (x ∷ xs) ≡ cond b (x ∷ filter is_held xs) (filter is_held xs)
filter_cons b x xs e = rw e refl

-- what a filtered and a mapped list have
pub has_filtered : {X : Type 0} (p : X → Bool) (x : X) (xs : List X) → Has x (filter p xs) → Has x xs × (p x ≡ true)
has_filtered p x [] has = absurd has
has_filtered {X} p x (y ∷ ys) has = elim (cases_Bool (p y)) [
  | inl e ↦ elim (rw e at has) [ inl s ↦ (inl s, subst (λ (z : X). p z ≡ true) s e) | inr t ↦ let r = has_filtered p x ys t in (inr r.0, r.1) ]
  | inr e ↦ let r = has_filtered p x ys (rw e at has) in (inr r.0, r.1)
]

pub has_mapped : {X Y : Type 0} (f : X → Y) (y : Y) (xs : List X) → Has y (map f xs) → (x : X) × Has x xs × (y ≡ f x)
has_mapped f y [] has = absurd has
has_mapped f y (x ∷ xs) has = elim has [ inl s ↦ (x, inl refl, sym s) | inr t ↦ let r = has_mapped f y xs t in (r.0, inr r.1, r.2) ]

pub filter_has : {X : Type 0} (p : X → Bool) (x : X) (xs : List X) → p x ≡ true → Has x xs → Has x (filter p xs)
filter_has p x [] is has = absurd has
filter_has {X} p x (y ∷ ys) is has = elim (cases_Bool (p y)) [
  | inl e ↦ rw e (elim has [ inl s ↦ inl s | inr t ↦ inr (filter_has p x ys is t) ])
  | inr e ↦ rw e (elim has [ inl s ↦ absurd (clash (p x) is (subst (λ (z : X). p z ≡ false) s e)) | inr t ↦ filter_has p x ys is t ])
]

pub map_has : {X Y : Type 0} (f : X → Y) (x : X) (xs : List X) → Has x xs → Has (f x) (map f xs)
map_has f x [] has = absurd has
map_has f x (y ∷ ys) has = elim has [ inl s ↦ inl (ap f s) | inr t ↦ inr (map_has f x ys t) ]

-- a held job is an accepted one, of which the history says that
pub record Known {C : Type 0} (h : List (Event C)) (os : List Opening) (x : Job C) : Type 0 where
  pub opening : Opening
  pub is : x ≡ job_of h opening
  pub held : is_held x ≡ true
  pub there : Has opening os

known_in : {C : Type 0} (h : List (Event C)) (os : List Opening) (x : Job C) → Has x (filter is_held (map (job_of h) os)) → Known h os x
known_in h os x has =
    let a = has_filtered is_held x (map (job_of h) os) has in
    let b = has_mapped (job_of h) x os a.0 in
    record { opening = b.0; is = b.2; held = a.1; there = b.1 }

pub known : {C : Type 0} (c : Config) (base : Base) (h : List (Event C)) (x : Job C) → Has x (now c base h).jobs → Known h (openings h) x
known c base h x there = known_in h (openings h) x there

-- whether the job of this number is held
abbrev pub held_at : {C : Type 0} → List (Event C) → ℕ → Bool
held_at h k = is_held (job_of h (record { job = k; sender = 0; queue = 0 }))

-- what is said of it by its number
pub record At {C : Type 0} (h : List (Event C)) (j : ℕ) (P : Job C → Type 0) : Type 0 where
  pub sender : ℕ
  pub queue : ℕ
  pub there : Has (record { job = j; sender = sender; queue = queue }) (openings h)
  pub held : held_at h j ≡ true
  pub is : P (job_of h (record { job = j; sender = sender; queue = queue }))

pub known_at : {C : Type 0} (h : List (Event C)) (x : Job C) (j : ℕ) (P : Job C → Type 0) → Known h (openings h) x → x.number ≡ j → P x → At h j P
known_at {C} h x j P k e p =
    let n : j ≡ k.opening.job = sym e ∙ ap (λ (v : Job C). v.number) k.is in
    let o : record { job = j; sender = k.opening.sender; queue = k.opening.queue } ≡ k.opening = ap (λ (i : ℕ). record { job = i; sender = k.opening.sender; queue = k.opening.queue }) n in
    record {
      sender = k.opening.sender;
      queue = k.opening.queue;
      there = subst (λ (q : Opening). Has q (openings h)) (sym o) k.there;
      held = subst (λ (i : ℕ). held_at h i ≡ true) (sym n) (subst (λ (v : Job C). is_held v ≡ true) k.is k.held);
      is = subst (λ (q : Opening). P (job_of h q)) (sym o) (subst P k.is p);
    }

pub has_at : {C : Type 0} (c : Config) (base : Base) (h : List (Event C)) (j : ℕ) (P : Job C → Type 0) → HasJob (now c base h).jobs j P → At h j P
has_at c base h j P m = known_at h m.job j P (known c base h m.job (has_contained m.job (now c base h).jobs m.there)) m.number m.is

-- an accepted job that is held is among the held ones

pub has_kept : {C : Type 0} (h : List (Event C)) (o : Opening) (os : List Opening) → is_held (job_of h o) ≡ true → Has o os → Has (job_of h o) (filter is_held (map (job_of h) os))
has_kept h o os held has = filter_has is_held (job_of h o) (map (job_of h) os) held (map_has (job_of h) o os has)
