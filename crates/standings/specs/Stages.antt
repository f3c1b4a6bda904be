-- How far a held job is, as it is counted.
use Rattle.std.specs.Prelude.{ℕ, Bool, true, false, ◌==◌, ◌&&◌, not, List, if◌then◌else◌}
use Rattle.std.specs.List.{list_any}
use Rattle.held_jobs.specs.declared.phase.Phase.{Phase}
use Rattle.held_jobs.specs.declared.phase.Phase.TheVariants as in_phase
use Rattle.spool_calls.specs.declared.printer.Printer.{Printer}
use Rattle.spool_snapshot.specs.declared.job.SeenJob.{SeenJob}
use Rattle.standings.specs.declared.stage.JobStage.{JobStage}
use Rattle.standings.specs.declared.stage.JobStage.TheVariants as far
use Rattle.standings.specs.Printers.{runs_for}

-- by its phase, and how many of its places were handed to a printer: a whole job waits until its first place is
abbrev pub stage_in : Phase → ℕ → JobStage
stage_in in_phase.Receiving handed = far.Arriving
stage_in in_phase.Received handed = if handed == 0 then far.Waiting else far.Printing
stage_in in_phase.Ended handed = far.Ended

abbrev pub stage_of : SeenJob → JobStage
stage_of job = stage_in job.phase job.handed

abbrev pub is_same : JobStage → JobStage → Bool
is_same far.Arriving far.Arriving = true
is_same far.Waiting far.Waiting = true
is_same far.Printing far.Printing = true
is_same far.Ended far.Ended = true
is_same _ _ = false

-- a job is so far
abbrev pub is_at : JobStage → SeenJob → Bool
is_at stage job = is_same stage (stage_of job)

abbrev pub is_of_queue_at : ℕ → JobStage → SeenJob → Bool
is_of_queue_at queue stage job = (job.queue == queue) && is_at stage job

-- A job goes on by itself, where its queue is held or isn't: it is whole and may begin or has begun, or it has ended and a page of it is out.
abbrev pub goes_on : JobStage → (is_held : Bool) → Bool
goes_on far.Arriving is_held = false
goes_on far.Waiting is_held = not is_held
goes_on far.Printing is_held = true
goes_on far.Ended is_held = true

-- it goes on, and a printer of its queue runs
abbrev pub is_awaited : List Printer → (is_held : Bool) → SeenJob → Bool
is_awaited printers is_held job = goes_on (stage_of job) is_held && list_any (runs_for job.queue) printers
