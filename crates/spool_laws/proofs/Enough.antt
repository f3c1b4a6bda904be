-- The held jobs hold no more of any kind than there is.
use Rattle.std.proofs.Common.{inl, inr, ◌≡◌, ◌==◌, ◌≢◌, ℕ, zero, suc, ◌+◌, ◌<◌, ◌≤◌, true, List, [], ◌∷◌, length, get_or, map, refl, sym, ◌∙◌, subst, arith}
use Rattle.std.specs.Prelude.{cond, sum_by, Some, slice_index_or}
use Rattle.std.proofs.lemmas.List.Sums.{sum_by-cons}
use Rattle.counts.specs.Amounts.{amount}
use Rattle.claims.specs.declared.row.Row.{Row}
use Rattle.spool_history.specs.Base.{Base}
use Rattle.spool_history.specs.Events.{Event}
use Rattle.config_values.specs.Config.{IsQueue, Config, Queue, queue_at, queue_of, served_from, printer_count, no_queue}
use Rattle.spool_history.specs.Said.{Opening, openings, began_at}
use Rattle.spool_history.specs.Now.{Job, now, job_of, is_held, row_of, capacity, printers_held}
use Rattle.spool_history.specs.Legal.{IsLegal}
use Rattle.spool_laws.specs.Sums.{held_printers, NoMoreThanThereIs}
use Rattle.spool_laws.proofs.Known.{Has, known, test}
use Rattle.spool_laws.proofs.Adding.{sum_filter}
use Rattle.claims.proofs.Lowered.{holds, holds_sum}
use Rattle.spool_laws.proofs.Pigeons.{Place, pigeons, tally, serves, served_total, at_most}
use Rattle.spool_laws.proofs.Busy.{busy, rising_jobs}
use Rattle.spool_laws.proofs.Sums.{pages_add_up, rows_held}
use Rattle.spool_laws.proofs.Facts.{some_same}

abbrev pub rows : {C : Type 0} → Config → List (Job C) → List Row
rows c jobs = map (row_of c) jobs

-- printers

abbrev weight : {C : Type 0} → ℕ → Job C → ℕ
weight i v = cond (suc i == v.queue) (printers_held v) 0

pub printers_small : {C : Type 0} (v : Job C) → printers_held v ≤ 1
printers_small v = elim (test v.handed 0) [ inl s ↦ rw s.1 (omega arith) | inr s ↦ rw s.1 (omega arith) ]

weight_small : {C : Type 0} (i : ℕ) (v : Job C) → weight i v ≤ 1
weight_small i v = elim (test (suc i) v.queue) [ inl s ↦ rw s.1 (printers_small v) | inr s ↦ rw s.1 (omega arith) ]

holds_weight : {C : Type 0} (c : Config) (i : ℕ) (jobs : List (Job C)) → holds (suc i) (rows c jobs) ≤ tally (weight i) jobs
holds_weight c i [] = omega arith
holds_weight c i (v ∷ vs) = omega (arith, holds_weight c i vs, at_most (λ (r : ℕ). cond (r == v.queue) (printers_held v) 0) (length c.queues) i)

begun_if : {C : Type 0} (i : ℕ) (v : Job C) → 0 < weight i v → (v.queue ≡ suc i) × (0 < v.handed)
begun_if i v pos = elim (test (suc i) v.queue) [
  | inl s ↦ (
    sym s.0,
    (let p : 0 < printers_held v = rw s.1 at pos in elim (test v.handed 0) [
      | inl t ↦ (let q : 0 < 0 = rw t.1 at p in absurd (omega arith))
      | inr t ↦ (let ne : v.handed ≢ 0 = t.0 in omega arith)
    ]),
  )
  | inr s ↦ (let q : 0 < 0 = rw s.1 at pos in absurd (omega arith))
]

abbrev Tied : {C : Type 0} → List (Event C) → ℕ → ℕ → Type 0
Tied h p j = began_at h p ≡ Some j

queue_from : (c : Config) (p : ℕ) → 1 ≤ p → queue_of c p ≡ served_from 1 c.queues p
queue_from c p one = elim (test p 0) [ inl s ↦ (let z : p ≡ 0 = s.0 in absurd (omega arith)) | inr s ↦ rw s.1 refl ]

place_at : {C : Type 0} (size : C → ℕ) (c : Config) (base : Base) (h : List (Event C)) (i : ℕ) → IsLegal size c base h → (o : Opening) → Has o (openings h) → is_held (job_of h o) ≡ true → 0 < weight i (job_of h o) → Place (Tied h) (serves 1 c.queues (1 + i)) (printer_count c) o.job
place_at size c base h i l o has held pos =
    let g = begun_if i (job_of h o) pos in
    let b = busy size c base h l o has held g.1 in
    let q : queue_of c b.at ≡ 1 + i = (let e : o.queue ≡ suc i = g.0 in let d = b.queue in omega arith) in
    record {
      at = b.at;
      one = b.is.0;
      le = b.is.1;
      counts = elim (test (served_from 1 c.queues b.at) (1 + i)) [ inl s ↦ rw s.1 (omega arith) | inr s ↦ absurd (s.0 (sym (queue_from c b.at b.is.0) ∙ q)) ];
      tied = b.began;
    }

printers_counted : {C : Type 0} (size : C → ℕ) (c : Config) (base : Base) (h : List (Event C)) (i : ℕ) → IsLegal size c base h → tally (weight i) (now c base h).jobs ≤ amount (capacity c) (suc i)
printers_counted {C} size c base h i l =
    let jobs = (now c base h).jobs in
    let place : (v : Job C) → Has v jobs → 0 < weight i v → Place (Tied h) (serves 1 c.queues (1 + i)) (printer_count c) v.number = λ v has pos.
    (let k = known c base h v has in
    subst (λ (u : Job C). Place (Tied h) (serves 1 c.queues (1 + i)) (printer_count c) u.number) (sym k.is)
    (place_at size c base h i l k.opening k.there (subst (λ (u : Job C). is_held u ≡ true) k.is k.held) (subst (λ (u : Job C). 0 < weight i u) k.is pos))) in
    let b = pigeons (Tied h) (λ p j k x y. some_same j k (sym x ∙ y)) (weight i) (λ (v : Job C). v.number) (printer_count c) (serves 1 c.queues (1 + i)) jobs
    (weight_small i) (rising_jobs size c base h l) place in
    omega (arith, served_total 1 c.queues i (omega arith))

printers_within : {C : Type 0} (size : C → ℕ) (c : Config) (base : Base) (h : List (Event C)) (i : ℕ) → IsLegal size c base h → holds (suc i) (rows c (now c base h).jobs) ≤ amount (capacity c) (suc i)
printers_within {C} size c base h i l = omega (arith, holds_weight c i (now c base h).jobs, printers_counted size c base h i l)

pub get_printers : (qs : List Queue) (i : ℕ) → get_or (map (λ (q : Queue). q.printers) qs) i 0 ≡ (slice_index_or qs i no_queue).printers
get_printers [] i = refl
get_printers (q ∷ qs) zero = refl
get_printers (q ∷ qs) (suc i) = get_printers qs i

-- each kind

pub kind_within : {C : Type 0} (size : C → ℕ) (c : Config) (base : Base) (h : List (Event C)) → IsLegal size c base h → (k : ℕ) → holds k (rows c (now c base h).jobs) ≤ amount (capacity c) k
kind_within size c base h l zero = omega (arith, holds_sum 0 (rows c (now c base h).jobs), rows_held c (now c base h).jobs, (pages_add_up size c base h l).within)
kind_within size c base h l (suc i) = printers_within size c base h i l

of_queue : {C : Type 0} (q i : ℕ) (v : Job C) → suc i ≡ q → cond (v.queue == q) (printers_held v) 0 ≤ weight i v
of_queue q i v e = elim (test v.queue q) [
  | inl s ↦ elim (test (suc i) v.queue) [ inl t ↦ rw (s.1, t.1) (omega arith) | inr t ↦ absurd (t.0 (e ∙ sym s.0)) ]
  | inr s ↦ rw s.1 (omega arith)
]

of_queues : {C : Type 0} (q i : ℕ) (jobs : List (Job C)) → suc i ≡ q → sum_by (λ (v : Job C). cond (v.queue == q) (printers_held v) 0) jobs ≤ tally (weight i) jobs
of_queues q i [] e = omega arith
of_queues {C} q i (v ∷ vs) e = omega (arith, of_queues q i vs e, of_queue q i v e, sum_by-cons (λ (v : Job C). cond (v.queue == q) (printers_held v) 0) v vs)

enough_printers : {C : Type 0} (size : C → ℕ) (c : Config) (base : Base) (h : List (Event C)) (q : ℕ) → IsLegal size c base h → IsQueue c q → held_printers (now c base h) q ≤ (queue_at c q).printers
enough_printers size c base h zero l is = absurd (omega (arith, is.0))
enough_printers {C} size c base h (suc i) l is =
    let all = sum_filter (λ (v : Job C). printers_held v) (λ (v : Job C). v.queue == suc i) (now c base h).jobs in
    omega (arith, of_queues (suc i) i (now c base h).jobs refl, printers_counted size c base h i l, get_printers c.queues i)

pub no_kind_runs_over : {C : Type 0} (size : C → ℕ) (c : Config) (base : Base) (h : List (Event C)) → IsLegal size c base h → NoMoreThanThereIs c base h
no_kind_runs_over size c base h l = record {
  kinds = λ k. (let e = holds_sum k (rows c (now c base h).jobs) in let w = kind_within size c base h l k in omega arith);
  printers = λ q is. enough_printers size c base h q l is;
}
