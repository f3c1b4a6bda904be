-- The jobs that a folder puts into its lines: what they are told of is their files, and not who owns them.
use Rattle.std.specs.Prelude.{ℕ}
use Rattle.job_disk.specs.declared.lines.NumberedJob.{NumberedJob}
use Rattle.parked_lines.specs.declared.job.JobSize.{JobSize}
use Rattle.parked_lines.specs.declared.job.ParkedJob.{ParkedJob}
use Rattle.parked_lines.specs.declared.state.ParkState.TheVariants.{Waiting}

-- one that a session opens
abbrev pub new_job : NumberedJob → (sender : ℕ) → ParkedJob
new_job job sender =
    record { number = job.number; octets = 0; pages = 0; sender = sender; owner = 0; state = job.state }

-- one whose file was found, or had failed
abbrev pub found_job : (number sender : ℕ) → JobSize → ParkedJob
found_job number sender size =
    record { number = number; octets = size.octets; pages = size.pages; sender = sender; owner = 0; state = Waiting }
