-- Jobs are removed.
use Rattle.std.proofs.Common.{◌≡◌, ◌≢◌, ◌==◌, ℕ, ◌+◌, ◌<◌, Bool, true, false, List, [], ◌∷◌, length, get_or, map, filter, take, refl, arith}
use Rattle.std.specs.Prelude.{◌&&◌, not, All, AllPairs, Contains}
use Rattle.std.specs.List.{list_any}
use Rattle.std.specs.List.Sorted.{IsStrictlyIncreasing}
use Rattle.std.proofs.lemmas.Bool.{and_parts, not-true}
use Rattle.std.proofs.lemmas.List.{get_or-map, length-map}
use Rattle.std.proofs.lemmas.List.Elements.{All-contains_itself, All-filter, All-map, All-take, filter_passes, recursion_from_All}
use Rattle.std.proofs.lemmas.List.Kept.{AllPairs-cons, AllPairs-filter}
use Rattle.step_lemmas.specs.Standing.{no_job}
use Rattle.step_lemmas.proofs.HeldJobs.Standing.{has_get}
use Rattle.std.proofs.lemmas.Bool.Decides.{nat_tests}
use Rattle.lpd_values.specs.Choice as K
use Rattle.config_values.specs.Config.{IsQueue}
use Rattle.spool_history.specs.Base.{Base}
use Rattle.spool_history.specs.Events.{Event}
use Rattle.spool_history.specs.Events.Event.{Removed}
use Rattle.spool_history.specs.Now.{Job, State, is_received}
use Rattle.spool_history.specs.Choice as H
use Rattle.spool_history.specs.Told.{told_of}
use Rattle.spool_history.specs.Legal.{HasJob, May, MayBeRemoved}
use Rattle.spool_laws.proofs.Pigeons.{Rises}
use Rattle.spool_laws.proofs.Busy.{rising_jobs}
use Rattle.spool_calls.specs.Looks.{Detail, What, size}
use Rattle.spool_calls.specs.Kept.{Kept, Leaves, left_by}
use Rattle.spool_calls.specs.Calls.{removed_by}
use Rattle.step_lemmas.proofs.Cores.Leaving.{is_open}

-- the jobs that are chosen

-- the first of a list is no pair
first_pairs : {X : Type 0} (R : X → X → Type 0) (xs : List X) → AllPairs R (take 1 xs)
first_pairs R [] i j d lt within = absurd (omega arith)
first_pairs R (x ∷ xs) i j d lt within = absurd (omega arith)

abbrev Rise : {C : Type 0} → List (Job C) → Type 0
Rise {C} jobs = AllPairs (λ (x y : Job C). x.number < y.number) jobs

rise : {C : Type 0} (jobs : List (Job C)) → Rises (λ (x : Job C). x.number) jobs → Rise jobs
rise [] r = λ i j d lt within. absurd (omega arith)
rise {C} (x ∷ jobs) r = AllPairs-cons (λ (x y : Job C). x.number < y.number) x jobs (λ k d lt. r.0 (get_or jobs k d) (has_get jobs k d lt)) (rise jobs r.1)

-- the numbers of such a list rise
increasing : {C : Type 0} (jobs : List (Job C)) → Rise jobs → IsStrictlyIncreasing (map {A = Job C} {B = ℕ} (λ x. x.number) jobs)
increasing {C} jobs r k lt =
    let number : Job C → ℕ = λ x. x.number in
    let n = length-map jobs number in
    let c = r k (k + 1) no_job (omega arith) (omega (arith, n, lt)) in
    omega (arith, get_or-map number jobs k no_job 0 (omega (arith, n, lt)), get_or-map number jobs (k + 1) no_job 0 (omega (arith, n, lt)), c)

-- some of the jobs of a state that are listed for a queue, in their order
record Chosen {C : Type 0} (q : ℕ) (jobs some : List (Job C)) : Type 0 where
  rises : Rise some
  each : All (λ (x : Job C). Contains jobs x × (K.is_listed q (told_of x) ≡ true)) some

-- those that pass a test which the listed ones alone pass
some_of : {C : Type 0} (q : ℕ) (jobs : List (Job C)) (p : Job C → Bool) → ((x : Job C) → p x ≡ true → K.is_listed q (told_of x) ≡ true) → Rise jobs → Chosen q jobs (filter p jobs)
some_of {C} q jobs p passes r = record {
  rises = AllPairs-filter (λ (x y : Job C). x.number < y.number) p jobs r;
  each = λ i d lt. (All-filter p (Contains jobs) jobs (All-contains_itself jobs) i d lt, passes (get_or (filter p jobs) i d) (filter_passes p jobs i d lt));
}

-- those that a removal takes are such
some_chosen : {C : Type 0} (v : State C) (q : ℕ) (agent : List ℕ) (list : List (List ℕ)) → Rise v.jobs → Chosen q v.jobs (H.chosen v q agent list)
some_chosen {C} v q agent [] r =
    let active : Job C → Bool = λ x. K.is_active q (told_of x) in
    let s = some_of q v.jobs active (λ x e. (and_parts (K.is_listed q (told_of x)) (not (x.handed == 0)) e).0) r in
    let may : Job C → Bool = λ x. K.may_remove agent (told_of x) in
    let P : Job C → Type 0 = λ x. Contains v.jobs x × (K.is_listed q (told_of x) ≡ true) in
    let first = take 1 (filter active v.jobs) in
    record {
      rises = AllPairs-filter (λ (x y : Job C). x.number < y.number) may first (first_pairs (λ (x y : Job C). x.number < y.number) (filter active v.jobs));
      each = All-filter may P first (All-take P 1 (filter active v.jobs) s.each);
    }
some_chosen {C} v q agent (word ∷ words) r =
    let picked : Job C → Bool = λ x. K.is_picked q agent (word ∷ words) (told_of x) in
    some_of q v.jobs picked (λ x e. (and_parts (K.is_listed q (told_of x)) (K.may_remove agent (told_of x) && list_any (K.picks agent (told_of x)) (word ∷ words)) e).0) r

-- a listed job may be removed
removable : {C : Type 0} (q : ℕ) (x : Job C) → K.is_listed q (told_of x) ≡ true → MayBeRemoved q x
removable q x e =
    let a = and_parts (x.queue == q) (is_received x && not x.ended) e in
    let b = and_parts (is_received x) (not x.ended) a.1 in
    let same : x.queue ≡ q = (let z = a.0 in grind (arith, nat_tests)) in
    (same, b.0, not-true x.ended b.1)

-- there is a number
some_numbers : (numbers : List ℕ) → numbers ≢ [] → 0 < length numbers
some_numbers [] ne = absurd (ne refl)
some_numbers (n ∷ ns) ne = omega arith

module _ (d : Detail) (b : Base) (h : List (Event (What d))) (k : Kept) (l : Leaves d b h k) where
  abbrev v : State (What d)
  v = left_by d b h k

  -- what a removal takes may be removed
  pub may_remove : (agent : List ℕ) (list : List (List ℕ)) (q : ℕ) → k.closed ≡ false → IsQueue k.config q → removed_by d b h k q agent list ≢ []
      → May (size d) v (Removed q (removed_by d b h k q agent list))
  may_remove agent list q c is ne =
      let number : Job (What d) → ℕ = λ x. x.number in
      let jobs = H.chosen v q agent list in
      let s = some_chosen v q agent list (rise v.jobs (rising_jobs (size d) k.config b h l.legal)) in
      let P : ℕ → Type 0 = λ n. HasJob v.jobs n (MayBeRemoved q) in (
        is_open d b h k l c,
        is,
        some_numbers (removed_by d b h k q agent list) ne,
        increasing jobs s.rises,
        recursion_from_All P (map number jobs) (All-map P number jobs (λ i e lt.
            record { job = get_or jobs i e; there = (s.each i e lt).0; number = refl; is = removable q (get_or jobs i e) (s.each i e lt).1 })),
      )
