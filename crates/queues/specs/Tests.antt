-- A test of one held job, whatever jobs stand beside it.
use Rattle.std.specs.Prelude.{ℕ, ◌==◌, ◌&&◌, Bool}
use Rattle.held_jobs.specs.Jobs.{Facts}

-- a job of this sender and queue
abbrev pub is_from : (sender queue : ℕ) → Facts → Bool
is_from sender queue j = (j.sender == sender) && (j.queue == queue)
