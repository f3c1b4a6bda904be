-- The held jobs stand in the order of their numbers, each at one place.
use Rattle.std.proofs.Common.{inl, inr, ◌≡◌, ◌≢◌, ℕ, zero, suc, ◌<◌, true, false, List, [], ◌∷◌, length, get_or, set, map, refl, sym, ◌∙◌, ap, subst, arith}
use Rattle.std.specs.Prelude.{Contains, filter, remove}
use Rattle.std.proofs.lemmas.List.{get_or_default}
use Rattle.spool_history.specs.Base.{Base}
use Rattle.spool_history.specs.Events.{Event}
use Rattle.config_values.specs.Config.{Config}
use Rattle.spool_history.specs.Now.{Job, State, now, is_held}
use Rattle.spool_history.specs.Legal.{HasJob, IsLegal}
use Rattle.spool_laws.proofs.Known.{Has, has_contained, filter_cons, known}
use Rattle.spool_laws.proofs.Pigeons.{Rises}
use Rattle.spool_laws.proofs.Busy.{rising_jobs}
use Rattle.step_lemmas.specs.Standing.{no_job}
use Rattle.spool_laws.proofs.Joined.{contained as contains_has}

-- the numbers of these jobs rise
abbrev pub Rising : {C : Type 0} → List (Job C) → Type 0
Rising {C} jobs = Rises (λ (v : Job C). v.number) jobs

-- each of these jobs is held
abbrev pub AllHeld : {C : Type 0} → List (Job C) → Type 0
AllHeld {C} jobs = (v : Job C) → Has v jobs → is_held v ≡ true

-- what stands at a place is there
pub has_get : {X : Type 0} (xs : List X) (i : ℕ) (d : X) → i < length xs → Has (get_or xs i d) xs
has_get [] i d lt = absurd (omega arith)
has_get (x ∷ xs) zero d lt = inl refl
has_get (x ∷ xs) (suc i) d lt = inr (has_get xs i d (omega arith))

-- each job that a history leaves is held
pub all_held : {C : Type 0} (c : Config) (base : Base) (h : List (Event C)) → AllHeld (now c base h).jobs
all_held c base h v has = (known c base h v has).held

rest_same : {C : Type 0} (g : Job C → Job C) (ys : List (Job C)) → ((z : Job C) → Has z ys → g z ≡ z) → AllHeld ys → filter is_held (map g ys) ≡ ys
rest_same g [] s h = refl
rest_same {C} g (y ∷ ys) s h =
    ap (λ (z : Job C). filter is_held (z ∷ map g ys)) (s y (inl refl))
    ∙ (filter_cons true y (map g ys) (h y (inl refl))
    ∙ ap (λ (r : List (Job C)). y ∷ r) (rest_same g ys (λ z t. s z (inr t)) (λ z t. h z (inr t))))

-- others than the job of this number stay as they are
abbrev pub Spares : {C : Type 0} → (Job C → Job C) → ℕ → Type 0
Spares {C} g n = (z : Job C) → z.number ≢ n → g z ≡ z

-- a change of one job, which stays held, sets its place
pub one_set : {C : Type 0} (g : Job C → Job C) (jobs : List (Job C)) (i : ℕ) (d : Job C) → i < length jobs → Rising jobs → AllHeld jobs → Spares g (get_or jobs i d).number → is_held (g (get_or jobs i d)) ≡ true
    → filter is_held (map g jobs) ≡ set jobs i (g (get_or jobs i d))
one_set g [] i d lt r h s k = absurd (omega arith)
one_set {C} g (y ∷ ys) zero d lt r h s k =
    filter_cons true (g y) (map g ys) k
    ∙ ap (λ (l : List (Job C)). g y ∷ l) (rest_same g ys (λ z t. s z (λ e. let n = r.0 z t in omega arith)) (λ z t. h z (inr t)))
one_set {C} g (y ∷ ys) (suc i) d lt r h s k =
    let lt' : i < length ys = omega arith in
    let n = r.0 (get_or ys i d) (has_get ys i d lt') in
    ap (λ (z : Job C). filter is_held (z ∷ map g ys)) (s y (λ e. omega arith))
    ∙ (filter_cons true y (map g ys) (h y (inl refl))
    ∙ ap (λ (l : List (Job C)). y ∷ l) (one_set g ys i d lt' r.1 (λ z t. h z (inr t)) s k))

-- a change of one job, which is held no more, takes its place out
pub one_gone : {C : Type 0} (g : Job C → Job C) (jobs : List (Job C)) (i : ℕ) (d : Job C) → i < length jobs → Rising jobs → AllHeld jobs → Spares g (get_or jobs i d).number → is_held (g (get_or jobs i d)) ≡ false
    → filter is_held (map g jobs) ≡ remove jobs i
one_gone g [] i d lt r h s k = absurd (omega arith)
one_gone {C} g (y ∷ ys) zero d lt r h s k =
    filter_cons false (g y) (map g ys) k
    ∙ rest_same g ys (λ z t. s z (λ e. let n = r.0 z t in omega arith)) (λ z t. h z (inr t))
one_gone {C} g (y ∷ ys) (suc i) d lt r h s k =
    let lt' : i < length ys = omega arith in
    let n = r.0 (get_or ys i d) (has_get ys i d lt') in
    ap (λ (z : Job C). filter is_held (z ∷ map g ys)) (s y (λ e. omega arith))
    ∙ (filter_cons true y (map g ys) (h y (inl refl))
    ∙ ap (λ (l : List (Job C)). y ∷ l) (one_gone g ys i d lt' r.1 (λ z t. h z (inr t)) s k))

-- a change that changes none of them leaves them
pub none_changed : {C : Type 0} (g : Job C → Job C) (jobs : List (Job C)) → ((z : Job C) → Has z jobs → g z ≡ z) → AllHeld jobs → filter is_held (map g jobs) ≡ jobs
none_changed g jobs s h = rest_same g jobs s h

-- two places of one number are one
pub one_place : {C : Type 0} (jobs : List (Job C)) (i k : ℕ) (d e : Job C) → Rising jobs → i < length jobs → k < length jobs → (get_or jobs i d).number ≡ (get_or jobs k e).number → i ≡ k
one_place [] i k d e r li lk s = absurd (omega arith)
one_place (y ∷ ys) zero zero d e r li lk s = refl
one_place (y ∷ ys) zero (suc k) d e r li lk s = absurd (let m = r.0 (get_or ys k e) (has_get ys k e (omega arith)) in omega arith)
one_place (y ∷ ys) (suc i) zero d e r li lk s = absurd (let m = r.0 (get_or ys i d) (has_get ys i d (omega arith)) in omega arith)
one_place (y ∷ ys) (suc i) (suc k) d e r li lk s = ap suc (one_place ys i k d e r.1 (omega arith) (omega arith) s)

-- the job of this number stands at this place
pub record Stands {C : Type 0} (jobs : List (Job C)) (i number : ℕ) : Type 0 where
  pub there : i < length jobs
  pub number' : (get_or jobs i no_job).number ≡ number

-- what is said of the job of this number is said of the one at its place
pub has_here : {C : Type 0} (size : C → ℕ) (c : Config) (base : Base) (h : List (Event C)) (i number : ℕ) (P : Job C → Type 0) → IsLegal size c base h → Stands (now c base h).jobs i number → HasJob (now c base h).jobs number P → P (get_or (now c base h).jobs i no_job)
has_here {C} size c base h i number P l s m =
    let jobs = (now c base h).jobs in
    let t = m.there in
    let at : get_or jobs t.0 m.job ≡ m.job = t.2 in
    let n : (get_or jobs t.0 m.job).number ≡ (get_or jobs i no_job).number = ap (λ (x : Job C). x.number) at ∙ (m.number ∙ sym s.number') in
    let k : t.0 ≡ i = one_place jobs t.0 i m.job no_job (rising_jobs size c base h l) t.1 s.there n in
    subst P (sym at ∙ (get_or_default jobs t.0 m.job no_job t.1 ∙ ap (λ (j : ℕ). get_or jobs j no_job) k)) m.is

-- what holds of the job at a place holds of the one of its number
pub has_job : {C : Type 0} (v : State C) (i number : ℕ) (P : Job C → Type 0) → Stands v.jobs i number → P (get_or v.jobs i no_job) → HasJob v.jobs number P
has_job {C} v i number P s p = record {
  job = get_or v.jobs i no_job;
  there = (i, s.there, get_or_default v.jobs i (get_or v.jobs i no_job) no_job s.there);
  number = s.number';
  is = p;
}

-- where no held job has this number
pub has_none : {C : Type 0} (v : State C) (number : ℕ) (P : Job C → Type 0) → ((x : Job C) → Has x v.jobs → x.number ≢ number) → HasJob v.jobs number P → ⊥
has_none v number P none m = none m.job (has_contained m.job v.jobs m.there) m.number

-- the place of a job that is there
pub record PlaceOf {C : Type 0} (jobs : List (Job C)) (x : Job C) : Type 0 where
  pub at : ℕ
  pub stands : Stands jobs at x.number
  pub is : get_or jobs at no_job ≡ x
