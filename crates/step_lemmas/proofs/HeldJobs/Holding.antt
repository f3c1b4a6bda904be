-- What a held job holds: its lent page, the pages of its files, and its places that were handed out and came back.
use Rattle.std.proofs.Common.{◌≡◌, ℕ, ◌+◌, ◌-◌, ◌<◌, ◌≤◌, Bool, true, false, List, length, refl, sym, subst, arith}
use Rattle.std.specs.Prelude.{if◌then◌else◌, sum_by}
use Rattle.spool_history.specs.Base.{Base}
use Rattle.spool_history.specs.Events.{Event}
use Rattle.config_values.specs.Config.{Config, limit_of}
use Rattle.spool_history.specs.Acts.{File, is_open_in}
use Rattle.spool_history.specs.Now.{Job, now, is_received, places, pages_held}
use Rattle.spool_history.specs.Legal.{IsLegal}
use Rattle.spool_laws.specs.Sums.{chained_of}
use Rattle.spool_laws.proofs.Known.{Has, known, clash}
use Rattle.spool_laws.proofs.Held.{keeps}
use Rattle.spool_laws.proofs.Sound.{Sound}
use Rattle.spool_laws.proofs.Told.{within}
use Rattle.spool_laws.proofs.Apart.{Apart, apart, held_apart, pages_sum}
use Rattle.spool_laws.proofs.Busy.{unlent_by}

-- how many pages the files of a job have
abbrev pub file_pages : {C : Type 0} → Job C → ℕ
file_pages {C} v = sum_by (λ (f : File C). length f.pages) v.files

-- of each held job: what holds of every accepted one, and until it ends, that what was lent to it is in its files or still lent
pub job_apart : {C : Type 0} (size : C → ℕ) (c : Config) (base : Base) (h : List (Event C)) (v : Job C) → IsLegal size c base h → Has v (now c base h).jobs → Apart v
job_apart {C} size c base h v l has = (let k = known c base h v has in subst (λ (u : Job C). Apart u) (sym k.is) (apart size c base h l k.opening))

-- of each held job: what holds of every accepted one
pub job_sound : {C : Type 0} (size : C → ℕ) (c : Config) (base : Base) (h : List (Event C)) (v : Job C) → IsLegal size c base h → Has v (now c base h).jobs → Sound v
job_sound size c base h v l has = (job_apart size c base h v l has).sound

-- a page is lent only while a file is open
pub lent_is_open : {C : Type 0} (size : C → ℕ) (c : Config) (base : Base) (h : List (Event C)) (v : Job C) → IsLegal size c base h → Has v (now c base h).jobs → v.lent ≡ true → is_open_in v.files ≡ true
lent_is_open {C} size c base h v l has =
    let k = known c base h v has in
    subst (λ (u : Job C). u.lent ≡ true → is_open_in u.files ≡ true) (sym k.is) (keeps size c base h l k.opening.job).lent

-- a job to which a page is lent isn't received
pub lent_unreceived : {C : Type 0} (size : C → ℕ) (c : Config) (base : Base) (h : List (Event C)) (v : Job C) → IsLegal size c base h → Has v (now c base h).jobs → v.lent ≡ true → is_received v ≡ false
lent_unreceived size c base h v l has = (job_sound size c base h v l has).lent

-- so no page is lent to a received job
pub received_unlent : {C : Type 0} (size : C → ℕ) (c : Config) (base : Base) (h : List (Event C)) (v : Job C) → IsLegal size c base h → Has v (now c base h).jobs → is_received v ≡ true → v.lent ≡ false
received_unlent size c base h v l has r = unlent_by v.lent (is_received v) (lent_unreceived size c base h v l has) r

-- nor to one of which no file is open
pub closed_unlent : {C : Type 0} (size : C → ℕ) (c : Config) (base : Base) (h : List (Event C)) (v : Job C) → IsLegal size c base h → Has v (now c base h).jobs → is_open_in v.files ≡ false → v.lent ≡ false
closed_unlent size c base h v l has e = by v.lent refl (lent_is_open size c base h v l has)
  where
    by : (b : Bool) → v.lent ≡ b → (v.lent ≡ true → is_open_in v.files ≡ true) → b ≡ false
    by true is f = absurd (clash (is_open_in v.files) (f is) e)
    by false is f = refl

-- until a job ends, what was lent to it is in its files, or still lent
pub granted_counts : {C : Type 0} (size : C → ℕ) (c : Config) (base : Base) (h : List (Event C)) (v : Job C) → IsLegal size c base h → Has v (now c base h).jobs → v.ended ≡ false
    → file_pages v + (if v.lent then 1 else 0) ≡ v.granted
granted_counts size c base h v l has goes_on = (let f = (job_apart size c base h v l has).filled goes_on in let s = pages_sum v.files in omega arith)

-- and where none is lent it is all in its files, as just before the job becomes received
pub granted_filed : {C : Type 0} (size : C → ℕ) (c : Config) (base : Base) (h : List (Event C)) (v : Job C) → IsLegal size c base h → Has v (now c base h).jobs → v.ended ≡ false → v.lent ≡ false → file_pages v ≡ v.granted
granted_filed size c base h v l has goes_on unlent =
    let g = granted_counts size c base h v l has goes_on in
    let all : file_pages v + 0 ≡ v.granted = subst (λ (b : Bool). file_pages v + (if b then 1 else 0) ≡ v.granted) unlent g in
    omega arith

-- no job is lent more than its queue's limit
pub granted_within : {C : Type 0} (size : C → ℕ) (c : Config) (base : Base) (h : List (Event C)) (v : Job C) → IsLegal size c base h → Has v (now c base h).jobs → v.granted ≤ limit_of c v.queue
granted_within {C} size c base h v l has =
    let k = known c base h v has in
    subst (λ (u : Job C). u.granted ≤ limit_of c u.queue) (sym k.is) (within size c base h l k.opening k.there)

-- the pages that a job holds are those in its chain, the one that is lent and the one that is at a printer
pub held_counts : {C : Type 0} (size : C → ℕ) (c : Config) (base : Base) (h : List (Event C)) (v : Job C) → IsLegal size c base h → Has v (now c base h).jobs
    → pages_held v ≡ chained_of v + ((if v.lent then 1 else 0) + (v.handed - v.back))
held_counts size c base h v l has = held_apart size c base h l v has

-- no more places came back than were handed out
pub back_within : {C : Type 0} (size : C → ℕ) (c : Config) (base : Base) (h : List (Event C)) (v : Job C) → IsLegal size c base h → Has v (now c base h).jobs → v.back ≤ v.handed
back_within size c base h v l has = (job_sound size c base h v l has).back

-- and at most one is still out
pub one_is_out : {C : Type 0} (size : C → ℕ) (c : Config) (base : Base) (h : List (Event C)) (v : Job C) → IsLegal size c base h → Has v (now c base h).jobs → v.handed ≤ v.back + 1
one_is_out size c base h v l has = (job_sound size c base h v l has).out

-- no more places are handed out than the job has
pub handed_within : {C : Type 0} (size : C → ℕ) (c : Config) (base : Base) (h : List (Event C)) (v : Job C) → IsLegal size c base h → Has v (now c base h).jobs → v.handed ≤ length (places v)
handed_within size c base h v l has = (job_sound size c base h v l has).handed

-- none is handed out of a job that isn't received, ended or not
pub unreceived_unhanded : {C : Type 0} (size : C → ℕ) (c : Config) (base : Base) (h : List (Event C)) (v : Job C) → IsLegal size c base h → Has v (now c base h).jobs → is_received v ≡ false → (v.handed ≡ 0) × (v.back ≡ 0)
unreceived_unhanded size c base h v l has r =
    let s = job_sound size c base h v l has in
    let none = s.begun r in
    let le = s.back in
    (none, omega arith)
