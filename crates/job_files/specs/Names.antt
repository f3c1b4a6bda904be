-- How the files of jobs are named.
use Rattle.std.specs.Prelude.{◌≡◌, ◌<◌, ◌^◌, ◌++◌, ℕ, Bool, List, codes, nat_lt}
use Rattle.std.specs.Fmt.{decimal}
use Rattle.job_files.specs.declared.names.KeptFileName.{KeptFileName}
use Rattle.job_files.specs.declared.names.FileStage.{FileStage}
use Rattle.job_files.specs.declared.names.FileStage.TheVariants.{Failed, Temporary, Whole}

-- what a name ends with
abbrev pub stage_word : FileStage → List ℕ
stage_word Temporary = codes ".tmp"
stage_word Whole = codes ".job"
stage_word Failed = codes ".failed"

-- a name as it is written
abbrev pub written : KeptFileName → List ℕ
written name = decimal name.number ++ stage_word name.stage

-- a job's file can have this number
abbrev pub is_job_number : ℕ → Bool
is_job_number n = nat_lt n (2 ^ 63)

-- octets are no name of this stage
abbrev pub IsNoneOf : FileStage → List ℕ → Type 0
IsNoneOf stage octets = (n : ℕ) → n < 2 ^ 64 → octets ≡ decimal n ++ stage_word stage → ⊥

-- octets are no name
abbrev pub IsNoName : List ℕ → Type 0
IsNoName octets = (stage : FileStage) → IsNoneOf stage octets
