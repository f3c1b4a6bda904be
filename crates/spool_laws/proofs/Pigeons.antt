-- Where each of some things has a place of its own, there are no more of them than places.
use Rattle.std.proofs.Common.{◌⊎◌, inl, inr, ◌≡◌, ◌==◌, ◌≢◌, ℕ, zero, suc, ◌+◌, ◌-◌, ◌<◌, ◌≤◌, Bool, true, false, List, [], ◌∷◌, ◌++◌, get_or, map, refl, sym, ◌∙◌, ap, subst, arith}
use Rattle.std.specs.Prelude.{cond, filter, nat_le, sum_by}
use Rattle.std.proofs.lemmas.Bool.Decides.{nat_tests}
use Rattle.std.proofs.lemmas.List.{get_or_past}
use Rattle.std.proofs.lemmas.List.Sums.{sum_by-cons}
use Rattle.config_values.specs.Config.{Queue, served_from}
use Rattle.spool_history.specs.Now.{up_to}
use Rattle.spool_laws.proofs.Known.{Has, has_filtered, has_last, has_mapped, test}
use Rattle.spool_laws.proofs.Adding.{length_up_to}
use Rattle.std.proofs.lemmas.Bool.{cases_Bool, cases_lt}
use Rattle.spool_laws.proofs.Printers.{get_up_to}

-- the sum over 1 to n
abbrev pub total : (ℕ → ℕ) → ℕ → ℕ
total f zero = 0
total f (suc n) = total f n + f (suc n)

abbrev pub tally : {X : Type 0} → (X → ℕ) → List X → ℕ
tally w [] = 0
tally w (x ∷ xs) = w x + tally w xs

-- the numbers of these rise
abbrev pub Rises : {X : Type 0} → (X → ℕ) → List X → Type 0
Rises name [] = Unit {0}
Rises {X} name (x ∷ xs) = ((y : X) → Has y xs → name x < name y) × Rises name xs

pub rises_push : {X : Type 0} (name : X → ℕ) (os : List X) (x : X) → Rises name os → ((y : X) → Has y os → name y < name x) → Rises name (os ++ x ∷ [])
rises_push name [] x r lt = (λ y has. absurd has, tt)
rises_push {X} name (o ∷ os) x r lt = (
  λ y has. elim (has_last y os x has) [
    | inl t ↦ r.0 y t
    | inr e ↦ subst (λ (z : X). name o < name z) e (lt o (inl refl))
  ],
  rises_push name os x r.1 (λ y t. lt y (inr t)),
)

-- and so they do in what a test keeps of the list, and in a list of which each has the number of one there
pub rises_filter : {X : Type 0} (name : X → ℕ) (t : X → Bool) (xs : List X) → Rises name xs → Rises name (filter t xs)
rises_filter name t [] r = tt
rises_filter name t (x ∷ xs) r = elim (cases_Bool (t x)) [
  | inl e ↦ rw e (λ y has. r.0 y (has_filtered t y xs has).0, rises_filter name t xs r.1)
  | inr e ↦ rw e (rises_filter name t xs r.1)
]

pub rises_map : {X Y : Type 0} (f : X → Y) (name : Y → ℕ) (xs : List X) → Rises (λ (x : X). name (f x)) xs → Rises name (map f xs)
rises_map f name [] r = tt
rises_map {X} {Y} f name (x ∷ xs) r = (λ y has. let a = has_mapped f y xs has in subst (λ (z : Y). name (f x) < name z) (sym a.2) (r.0 a.0 a.1), rises_map f name xs r.1)

abbrev without : ℕ → (ℕ → ℕ) → ℕ → ℕ
without p f r = cond (r == p) 0 (f r)

without_other : (p : ℕ) (f : ℕ → ℕ) (r : ℕ) → r ≢ p → without p f r ≡ f r
without_other p f r ne = elim (test r p) [ inl s ↦ absurd (ne s.0) | inr s ↦ rw s.1 refl ]

without_here : (p : ℕ) (f : ℕ → ℕ) (r : ℕ) → r ≡ p → without p f r ≡ 0
without_here p f r e = elim (test r p) [ inl s ↦ rw s.1 refl | inr s ↦ absurd (s.0 e) ]

total_below : (p n : ℕ) (f : ℕ → ℕ) → n < p → total (without p f) n ≡ total f n
total_below p zero f lt = refl
total_below p (suc n) f lt = omega (arith, total_below p n f (omega arith), without_other p f (suc n) (λ e. omega arith))

total_without : (p n : ℕ) (f : ℕ → ℕ) → 1 ≤ p → p ≤ n → total f n ≡ f p + total (without p f) n
total_without p zero f one le = absurd (omega arith)
total_without p (suc n) f one le = elim (test p (suc n)) [
  | inl s ↦
      let e : f p ≡ f (suc n) = ap f s.0 in
      omega (arith, total_below p n f (let e : p ≡ suc n = s.0 in omega arith), without_here p f (suc n) (sym s.0))
  | inr s ↦
      let ne : p ≢ suc n = s.0 in
      omega (arith, total_without p n f one (omega arith), without_other p f (suc n) (λ e. ne (sym e)))
]

-- a place of 1 to n that counts, and that is the one of this number
pub record Place (T : ℕ → ℕ → Type 0) (f : ℕ → ℕ) (n j : ℕ) : Type 0 where
  pub at : ℕ
  pub one : 1 ≤ at
  pub le : at ≤ n
  pub counts : 1 ≤ f at
  pub tied : T at j

abbrev One : (ℕ → ℕ → Type 0) → Type 0
One T = (p j k : ℕ) → T p j → T p k → j ≡ k

pub pigeons : {X : Type 0} (T : ℕ → ℕ → Type 0) (one : One T) (w name : X → ℕ) (n : ℕ) (f : ℕ → ℕ) (xs : List X) → ((x : X) → w x ≤ 1) → Rises name xs → ((x : X) → Has x xs → 0 < w x → Place T f n (name x)) → tally w xs ≤ total f n
pigeons T one w name n f [] small r has = omega arith
pigeons {X} T one w name n f (x ∷ xs) small r has = elim (test (w x) 0) [
  | inl s ↦ let z : w x ≡ 0 = s.0 in let ih = pigeons T one w name n f xs small r.1 (λ y t. has y (inr t)) in omega arith
  | inr s ↦
      let le = small x in
      let p = has x (inl refl) (omega arith) in
      let rest : (y : X) → Has y xs → 0 < w y → Place T (without p.at f) n (name y) = λ y t pos.
      let q = has y (inr t) pos in
      let ne' : q.at ≢ p.at = λ e. (let same : name x ≡ name y = one p.at (name x) (name y) p.tied (subst (λ (i : ℕ). T i (name y)) e q.tied) in omega arith) in
      let same = without_other p.at f q.at ne' in
      let counts = q.counts in
      record { at = q.at; one = q.one; le = q.le; counts = omega arith; tied = q.tied } in
      omega (arith, pigeons T one w name n (without p.at f) xs small r.1 rest, total_without p.at n f p.one p.le, p.counts)
]

-- how many printers serve a queue

abbrev NotServed : ℕ → List Queue → ℕ → Type 0
NotServed n qs p = (served_from n qs p ≡ 0) ⊎ (n ≤ served_from n qs p)

not_served_by : (n : ℕ) (q : Queue) (qs : List Queue) (p : ℕ) (b : Bool) → nat_le p q.printers ≡ b → NotServed (n + 1) qs (p - q.printers) → NotServed n (q ∷ qs) p
not_served_by n q qs p true e ih = rw e (inr (omega arith))
not_served_by n q qs p false e ih = rw e (elim ih [ inl z ↦ inl z | inr l ↦ inr (omega arith) ])

not_served : (n : ℕ) (qs : List Queue) (p : ℕ) → NotServed n qs p
not_served n [] p = inl refl
not_served n (q ∷ qs) p = not_served_by n q qs p (nat_le p q.printers) refl (not_served (n + 1) qs (p - q.printers))

abbrev pub serves : ℕ → List Queue → ℕ → ℕ → ℕ
serves n qs k p = cond (served_from n qs p == k) 1 0

serves_first : (n : ℕ) (q : Queue) (qs : List Queue) (k p : ℕ) → p ≤ q.printers → serves n (q ∷ qs) k p ≡ cond (n == k) 1 0
serves_first n q qs k p le = let e : nat_le p q.printers ≡ true = grind (arith, nat_tests) in rw e refl

serves_later : (n : ℕ) (q : Queue) (qs : List Queue) (k m : ℕ) → serves n (q ∷ qs) k (suc (q.printers + m)) ≡ serves (n + 1) qs k (suc m)
serves_later n q qs k m =
    let e : nat_le (suc (q.printers + m)) q.printers ≡ false = grind (arith, nat_tests) in
    let d : suc (q.printers + m) - q.printers ≡ suc m = omega arith in
    rw (e, d) refl

serves_none : (n : ℕ) (qs : List Queue) (k p : ℕ) → 1 ≤ k → k < n → serves n qs k p ≡ 0
serves_none n qs k p one lt = elim (test (served_from n qs p) k) [
  | inl s ↦ let same : served_from n qs p ≡ k = s.0 in elim (not_served n qs p) [ inl z ↦ absurd (omega arith) | inr l ↦ absurd (omega arith) ]
  | inr s ↦ rw s.1 refl
]

first_total : (n : ℕ) (q : Queue) (qs : List Queue) (k a : ℕ) (b : Bool) → (n == k) ≡ b → a ≤ q.printers → total (serves n (q ∷ qs) k) a ≡ cond b a 0
first_total n q qs k zero true e le = refl
first_total n q qs k zero false e le = refl
first_total n q qs k (suc a) true e le =
    let s : serves n (q ∷ qs) k (suc a) ≡ 1 = serves_first n q qs k (suc a) le ∙ rw e refl in
    omega (arith, first_total n q qs k a true e (omega arith))
first_total n q qs k (suc a) false e le =
    let s : serves n (q ∷ qs) k (suc a) ≡ 0 = serves_first n q qs k (suc a) le ∙ rw e refl in
    omega (arith, first_total n q qs k a false e (omega arith))

later_total : (n : ℕ) (q : Queue) (qs : List Queue) (k m : ℕ) (b : Bool) → (n == k) ≡ b → total (serves n (q ∷ qs) k) (q.printers + m) ≡ cond b q.printers 0 + total (serves (n + 1) qs k) m
later_total n q qs k zero b is =
    let e : q.printers + 0 ≡ q.printers = omega arith in
    rw e (omega (arith, first_total n q qs k q.printers b is (omega arith)))
later_total n q qs k (suc m) b is =
    let e : q.printers + suc m ≡ suc (q.printers + m) = omega arith in
    rw e (omega (arith, later_total n q qs k m b is, serves_later n q qs k m))

none_total : (n : ℕ) (qs : List Queue) (k m : ℕ) → 1 ≤ k → k < n → total (serves n qs k) m ≡ 0
none_total n qs k zero one lt = refl
none_total n qs k (suc m) one lt = omega (arith, none_total n qs k m one lt, serves_none n qs k (suc m) one lt)

pub served_total : (n : ℕ) (qs : List Queue) (i : ℕ) → 1 ≤ n → total (serves n qs (n + i)) (sum_by (λ (q : Queue). q.printers) qs) ≤ get_or (map (λ (q : Queue). q.printers) qs) i 0
served_total n [] i one = omega arith
served_total n (q ∷ qs) zero one =
    let m = sum_by (λ (q : Queue). q.printers) qs in
    let e : (n == n + 0) ≡ true = grind (arith, nat_tests) in
    rw (sum_by-cons (λ (q : Queue). q.printers) q qs) (omega (arith, later_total n q qs (n + 0) m true e, none_total (n + 1) qs (n + 0) m (omega arith) (omega arith)))
served_total n (q ∷ qs) (suc i) one =
    let m = sum_by (λ (q : Queue). q.printers) qs in
    let e : (n == n + suc i) ≡ false = grind (arith, nat_tests) in
    let same : n + suc i ≡ (n + 1) + i = omega arith in
    let ih = subst (λ (k : ℕ). total (serves (n + 1) qs k) m ≤ get_or (map (λ (q : Queue). q.printers) qs) i 0) (sym same) (served_total (n + 1) qs i (omega arith)) in
    rw (sum_by-cons (λ (q : Queue). q.printers) q qs) (omega (arith, later_total n q qs (n + suc i) m false e))

pub at_most : (f : ℕ → ℕ) (n i : ℕ) → get_or (map f (up_to n)) i 0 ≤ f (suc i)
at_most f n i = elim (cases_lt i n) [
  | inl lt ↦ omega (arith, get_up_to f n i 0 lt)
  | inr le ↦ omega (arith, get_or_past (map f (up_to n)) i 0 (omega (arith, length_up_to f n)))
]
