-- What a join wants of one of its jobs, and joins over a list of jobs.
use Rattle.std.specs.Prelude.{◌≡◌, ℕ, ◌==◌, ◌&&◌, nat_lt, Bool, true, false, List, filter, length}
use Rattle.std.specs.List.{list_any}
use Rattle.spool_history.specs.Events.{Event}
use Rattle.spool_history.specs.Said.{Opening, is_done}
use Rattle.spool_history.specs.Now.{is_held, is_received, job_of}
use Rattle.spool_history.specs.Joined.{IsJoin, handed_count, places_of}

-- whether a job has a lower number than this one and is held
abbrev pub is_held_before : {C : Type 0} → List (Event C) → ℕ → Opening → Bool
is_held_before h number earlier = nat_lt earlier.job number && is_held (job_of h earlier)

-- how many pages of a job were handed is as a join of these jobs wants it
pub record MayLeave {C : Type 0} (h : List (Event C)) (jobs : List Opening) (o : Opening) : Type 0 where
  pub all_of_done : is_done h o.job ≡ true → handed_count h o ≡ length (places_of h o.job)
  pub none_unreceived : is_received (job_of h o) ≡ false → handed_count h o ≡ 0
  pub none_behind_held : list_any (is_held_before h o.job) jobs ≡ true → handed_count h o ≡ 0

-- those of these jobs that are of a sender and a queue
abbrev pub of_line : List Opening → (sender queue : ℕ) → List Opening
of_line openings sender queue = filter (λ (o : Opening). (o.sender == sender) && (o.queue == queue)) openings

-- those of these jobs that are of a job's sender and queue leave joined
abbrev pub LineIsJoin : {C : Type 0} → List (Event C) → List Opening → Opening → Type 0
LineIsJoin h openings o = IsJoin h (of_line openings o.sender o.queue)
