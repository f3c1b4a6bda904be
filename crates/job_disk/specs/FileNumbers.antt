-- FileNumbers that no file has had.
use Rattle.std.specs.Prelude.{ℕ, List, Option, None, Some, if◌then◌else◌, ◌+◌, fold, max}
use Rattle.job_files.specs.Names.{is_job_number}
use Rattle.job_files.specs.declared.names.KeptFileName.{KeptFileName}

-- the greatest number of these files, 0 where there is none
abbrev pub greatest : List KeptFileName → ℕ
greatest names = fold (λ so_far (name : KeptFileName). max so_far name.number) 0 names

-- the number behind this one, where a job's file can have it
abbrev pub behind : ℕ → Option ℕ
behind n = if is_job_number (n + 1) then Some (n + 1) else None

-- and behind it, where there is one
abbrev pub next_behind : Option ℕ → Option ℕ
next_behind None = None
next_behind (Some n) = behind n
