-- The jobs that wait, in the order in which they were named.
use Rattle.std.specs.Prelude.{ℕ, Bool, List, [], ◌∷◌, ◌==◌, ◌&&◌, map, if◌then◌else◌}
use Rattle.std.specs.Str.{bytes_eq}
use Rattle.job_files.specs.declared.waiting.WaitingJob.{WaitingJob}
use Rattle.job_files.specs.declared.waiting.WaitingJobs.{WaitingJobs}

-- its sender and its queue
abbrev pub pair_of : WaitingJob → ℕ × List ℕ
pair_of job = (job.sender, job.queue.items)

-- those of each job
abbrev pub jobs_in : WaitingJobs → List (ℕ × List ℕ)
jobs_in waiting = map pair_of waiting.jobs.items

-- a job is of this sender and queue
abbrev pub is_from : (sender : ℕ) → (queue : List ℕ) → ℕ × List ℕ → Bool
is_from sender queue job = (job.0 == sender) && bytes_eq job.1 queue

-- the first one that passes is left out
abbrev pub without_one : {T : Type 0} → (T → Bool) → List T → List T
without_one p [] = []
without_one p (x ∷ xs) = if p x then xs else x ∷ without_one p xs
