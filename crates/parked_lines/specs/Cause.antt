-- Why a job isn't taken into a line.
use Rattle.std.specs.Prelude.{◌≤◌, ℕ, List, IsTrue, length}
use Rattle.parked_lines.specs.declared.job.ParkedJob.{ParkedJob}
use Rattle.parked_lines.specs.declared.lines.AdmissionFault.{AdmissionFault}
use Rattle.parked_lines.specs.declared.lines.AdmissionFault.TheVariants.{Known, Memory, NoQueue}
use Rattle.parked_lines.specs.Lines.{has_known}

-- when a job of this number isn't taken into the line of a queue; memory may be refused at any time
abbrev pub IsCause : List (List ParkedJob) → (queue number : ℕ) → AdmissionFault → Type 0
IsCause lines queue number NoQueue = length lines ≤ queue
IsCause lines queue number Known = IsTrue (has_known lines number)
IsCause lines queue number Memory = Unit {0}
