-- What whoever removes the files of jobs that have ended does next.
use Rattle.std.specs.Prelude.{[], ◌∷◌, ◌≡◌, false, true}
use Rattle.job_disk.specs.declared.ended_files.EndedFiles.{EndedFiles}
use Rattle.job_disk.specs.declared.ended_files.Sweep.{Sweep}
use Rattle.job_disk.specs.declared.ended_files.Sweep.TheVariants.{Leave, Remove, Wait}

-- the first one is taken; where there is none it waits as long as some may come
abbrev pub IsNext : EndedFiles → EndedFiles → Sweep → Type 0
IsNext was now (Remove number) = (was.numbers.items ≡ number ∷ now.numbers.items) × (now.is_swept ≡ was.is_swept)
IsNext was now Wait = (was.numbers.items ≡ []) × (was.is_swept ≡ true) × (now.numbers.items ≡ []) × (now.is_swept ≡ true)
IsNext was now Leave = (was.numbers.items ≡ []) × (was.is_swept ≡ false) × (now.numbers.items ≡ []) × (now.is_swept ≡ false)
