-- How the jobs of one sender leave a queue: what was handed of them is the join of the first places of each.
use Rattle.std.specs.Prelude.{◌≡◌, ℕ, ◌+◌, ◌<◌, ◌==◌, ◌&&◌, Bool, true, false, List, [], ◌∷◌, ◌++◌, filter, length, map, take, Contains}
use Rattle.std.specs.List.{flat_map, list_any}
use Rattle.std.specs.List.Sorted.{IsStrictlyIncreasing}
use Rattle.spool_history.specs.Events.{Sheet, Event}
use Rattle.spool_history.specs.Events.Turn.{Handed}
use Rattle.spool_history.specs.Events.Event.{AtPrinter}
use Rattle.spool_history.specs.Acts.{Page, control_by, files_by, places_in}
use Rattle.spool_history.specs.Said.{Opening, openings, acts_of, handed_of, is_done}
use Rattle.spool_history.specs.Now.{is_held, is_received, job_of}

-- the places of the job of this number, in print order
abbrev pub places_of : {C : Type 0} → List (Event C) → ℕ → List (Page C)
places_of h j = places_in (control_by (acts_of h j)) (files_by (acts_of h j))

-- places of a job as printers get them, the first of which has this number
abbrev pub sheets : {C : Type 0} → (job place : ℕ) → List (Page C) → List (Sheet C)
sheets job n [] = []
sheets job n (x ∷ xs) = record { job = job; place = n; file = x.file; number = x.number; page = x.page } ∷ sheets job (n + 1) xs

-- all pages that were handed to printers, in order
abbrev pub handed : {C : Type 0} → List (Event C) → List (Sheet C)
handed [] = []
handed (AtPrinter printer sheet Handed ∷ h) = handed h ++ sheet ∷ []
handed (_ ∷ h) = handed h

-- the accepted jobs of a sender and a queue, in order of acceptance
abbrev pub jobs_from : {C : Type 0} → List (Event C) → (sender queue : ℕ) → List Opening
jobs_from h sender queue = filter (λ (o : Opening). (o.sender == sender) && (o.queue == queue)) (openings h)

-- whether a page is of one of these jobs
abbrev pub is_of_one : {C : Type 0} → List Opening → Sheet C → Bool
is_of_one jobs sheet = list_any (λ (o : Opening). o.job == sheet.job) jobs

-- what was handed of these jobs, in the order in which it was handed
abbrev pub handed_from : {C : Type 0} → List (Event C) → List Opening → List (Sheet C)
handed_from h jobs = filter (is_of_one jobs) (handed h)

-- how many pages of a job were handed
abbrev pub handed_count : {C : Type 0} → List (Event C) → Opening → ℕ
handed_count h o = length (handed_of h o.job)

-- the first n places of a job, where n is how many pages of it were handed
abbrev pub first_places : {C : Type 0} → List (Event C) → Opening → List (Sheet C)
first_places h o = sheets o.job 0 (take (handed_count h o) (places_of h o.job))

-- What was handed of these jobs is the join, by rising number over them, of the first n places of each. n is all of them where
-- the job is done; n is 0 where the job wasn't received, or where an earlier one of these jobs is held.
pub record IsJoin {C : Type 0} (h : List (Event C)) (jobs : List Opening) : Type 0 where
  pub rising : IsStrictlyIncreasing (map (λ (o : Opening). o.job) jobs)
  pub join : handed_from h jobs ≡ flat_map (first_places h) jobs
  pub all_of_done : (o : Opening) → Contains jobs o → is_done h o.job ≡ true → handed_count h o ≡ length (places_of h o.job)
  pub none_unreceived : (o : Opening) → Contains jobs o → is_received (job_of h o) ≡ false → handed_count h o ≡ 0
  pub none_behind_held : (earlier o : Opening) → Contains jobs earlier → Contains jobs o → earlier.job < o.job
      → is_held (job_of h earlier) ≡ true → handed_count h o ≡ 0

-- so it is of the accepted jobs of each sender and queue
abbrev pub LeavesJoined : {C : Type 0} → List (Event C) → Type 0
LeavesJoined h = (sender queue : ℕ) → IsJoin h (jobs_from h sender queue)
