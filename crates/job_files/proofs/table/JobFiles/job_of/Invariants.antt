use Rattle.std.proofs.Common.{◌≡◌, ℕ, Some, nat_eq}
use Rattle.std.specs.Map.{lookup}
use Rattle.job_files.specs.declared.table.JobEntry.TheVariants.{File}
use Rattle.job_files.proofs.table.JobFiles.job_of.Given as goal

-- a job whose file it is is still to come
abbrev pub invariant-loop-job : goal.invariant-loop-job
invariant-loop-job l =
    (job : ℕ) → lookup (nat_eq job) l.self.entries.entries ≡ Some (File l.file)
    → lookup (nat_eq job) l.job-iterator ≡ Some (File l.file)
