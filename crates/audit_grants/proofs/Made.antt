-- Amounts of each kind, written one after the other.
use Rattle.std.proofs.Common.{inl, inr, ◌≡◌, ◌==◌, ◌≢◌, ℕ, zero, suc, ◌+◌, ◌-◌, ◌<◌, ◌≤◌, Bool, true, false, List, [], ◌∷◌, length, get_or, set, map, replicate, refl, sym, ◌∙◌, ap, arith}
use Rattle.std.specs.Prelude.{cond, ◌⊎◌}
use Rattle.std.proofs.lemmas.List.{ext_get_or, length-set, length-map, get_or-set_same, get_or-set_other, map-append, get_or-append_right, get_or_append_left, length_push, length-replicate, get_or-replicate}
use Rattle.std.proofs.lemmas.Bool.Decides.{nat_tests}
use Rattle.config_values.specs.Config.{Config}
use Rattle.spool_history.specs.Now.{up_to, amounts}

same_by : (k i : ℕ) (b : Bool) → (k == i) ≡ b → (k ≡ i) ⊎ (k ≢ i)
same_by k i true e = inl (grind (arith, nat_tests))
same_by k i false e = inr (λ s. grind (arith, nat_tests))

same : (k i : ℕ) → (k ≡ i) ⊎ (k ≢ i)
same k i = same_by k i (k == i) refl

pub record UpTo (all : List ℕ) (pages : ℕ) (rest : List ℕ) (i : ℕ) : Type 0 where
  pub len : length all ≡ suc (length rest)
  pub first : get_or all 0 0 ≡ pages
  pub done : (k : ℕ) → k < i → get_or all (suc k) 0 ≡ get_or rest k 0

pub up_more : (all : List ℕ) (pages : ℕ) (rest : List ℕ) (i j n : ℕ) → UpTo all pages rest i → i < length rest → j ≡ suc i → n ≡ get_or rest i 0 → UpTo (set all j n) pages rest (i + 1)
up_more all pages rest i j n u lt ej en =
    let l = length-set all j n in
    let len = u.len in
    let there : j < length all = omega arith in
    record {
      len = omega arith;
      first = (let ne : 0 ≢ j = omega arith in get_or-set_other all j 0 n 0 ne ∙ u.first);
      done = λ k lt'. elim (same k i) [
        | inl s ↦ (let e : suc k ≡ j = omega (arith, s) in ap (λ (m : ℕ). get_or (set all j n) m 0) e ∙ (get_or-set_same all j n 0 there ∙ (en ∙ ap (λ (m : ℕ). get_or rest m 0) (sym s))))
        | inr s ↦ (let less : k < i = (let ne = s in omega arith) in let ne : suc k ≢ j = omega arith in get_or-set_other all j (suc k) n 0 ne ∙ u.done k less)
      ];
    }

up_at : (all : List ℕ) (pages : ℕ) (rest : List ℕ) → UpTo all pages rest (length rest) → (i : ℕ) → i < length all → get_or all i 0 ≡ get_or (pages ∷ rest) i 0
up_at all pages rest u zero lt = u.first
up_at all pages rest u (suc i) lt = u.done i (let e = u.len in omega arith)

pub up_all : (all : List ℕ) (pages : ℕ) (rest : List ℕ) → UpTo all pages rest (length rest) → all ≡ pages ∷ rest
up_all all pages rest u = ext_get_or 0 all (pages ∷ rest) u.len (up_at all pages rest u)

-- what is made for so many pages and printers

pub length_up : (n : ℕ) → length (up_to n) ≡ n
length_up zero = refl
length_up (suc n) = let ih = length_up n in let p = length_push (up_to n) (suc n) in omega arith

pub get_up : (f : ℕ → ℕ) (n k : ℕ) → k < n → get_or (map f (up_to n)) k 0 ≡ f (suc k)
get_up f zero k lt = absurd (omega arith)
get_up f (suc n) k lt =
    let l : length (map f (up_to n)) ≡ n = length-map (up_to n) f ∙ length_up n in
    ap (λ (m : List ℕ). get_or m k 0) (map-append f (up_to n) (suc n ∷ []))
    ∙ elim (same k n) [
      | inl s ↦ (let z : k - n ≡ 0 = omega arith in get_or-append_right (map f (up_to n)) (f (suc n) ∷ []) n k 0 l (omega arith) ∙ (ap (λ (m : ℕ). get_or (f (suc n) ∷ []) m 0) z ∙ ap (λ (m : ℕ). f (suc m)) (sym s)))
      | inr s ↦ (let less : k < length (map f (up_to n)) = omega arith in get_or_append_left (map f (up_to n)) (f (suc n) ∷ []) 0 k less ∙ get_up f n k (omega arith))
    ]

one_at : (q m n i : ℕ) (all : List ℕ) → length all ≡ suc n → 1 ≤ q → q ≤ n → ((k : ℕ) → k < n → get_or all (suc k) 0 ≡ 0) → i < n → get_or (set all q m) (suc i) 0 ≡ cond (suc i == q) m 0
one_at q m n i all len lo hi none lt = elim (same (suc i) q) [
  | inl s ↦
      let b : (suc i == q) ≡ true = grind (arith, nat_tests) in
      let there : q < length all = omega arith in
      ap (λ (j : ℕ). get_or (set all q m) j 0) s ∙ (get_or-set_same all q m 0 there ∙ sym (rw b refl))
  | inr s ↦
      let b : (suc i == q) ≡ false = grind (arith, nat_tests) in
      get_or-set_other all q (suc i) m 0 s ∙ (none i lt ∙ sym (rw b refl))
]

abbrev one_queue : (q m n : ℕ) → List ℕ
one_queue q m n = map (λ (r : ℕ). cond (r == q) m 0) (up_to n)

pub claim : (c : Config) (q limit m : ℕ) (zeros all more : List ℕ) → zeros ≡ replicate (length c.queues + 1) 0 → 1 ≤ q → q ≤ length c.queues → all ≡ set zeros 0 limit → more ≡ set all q m → more ≡ amounts c limit q m
claim c q limit m zeros all more ez lo hi ea em =
    let n = length c.queues in
    let lz : length zeros ≡ suc n = ap length ez ∙ (length-replicate (n + 1) 0 ∙ (let e : n + 1 ≡ suc n = omega arith in e)) in
    let la : length all ≡ suc n = ap length ea ∙ (length-set zeros 0 limit ∙ lz) in
    let lm : length (set all q m) ≡ suc n = length-set all q m ∙ la in
    let lr : length (one_queue q m n) ≡ n = length-map (up_to n) (λ (r : ℕ). cond (r == q) m 0) ∙ length_up n in
    let none : (k : ℕ) → k < n → get_or all (suc k) 0 ≡ 0 = (λ k lt. (
    let ne : suc k ≢ 0 = omega arith in
    let few : suc k < n + 1 = omega arith in
    ap (λ (l : List ℕ). get_or l (suc k) 0) ea ∙ (get_or-set_other zeros 0 (suc k) limit 0 ne ∙ (ap (λ (l : List ℕ). get_or l (suc k) 0) ez ∙ get_or-replicate (n + 1) (suc k) 0 0 few)))) in
    let first : get_or (set all q m) 0 0 ≡ limit = (
    let ne : 0 ≢ q = omega arith in
    let some : 0 < length zeros = omega arith in
    get_or-set_other all q 0 m 0 ne ∙ (ap (λ (l : List ℕ). get_or l 0 0) ea ∙ get_or-set_same zeros 0 limit 0 some)) in
    let u : UpTo (set all q m) limit (one_queue q m n) (length (one_queue q m n)) = record {
      len = omega arith;
      first = first;
      done = λ k lt. (let lt' : k < n = omega arith in one_at q m n k all la lo hi none lt' ∙ sym (get_up (λ (r : ℕ). cond (r == q) m 0) n k lt'));
    } in
    em ∙ up_all (set all q m) limit (one_queue q m n) u
