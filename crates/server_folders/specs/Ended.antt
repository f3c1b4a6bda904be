-- What is told of a job that has ended, and whose file couldn't be taken away or renamed.
use Rattle.std.specs.Prelude.{ℕ, Bool, true, false, List, codes}

-- what becomes of it, where the file was gone or not
abbrev pub aftermath_text : Bool → List ℕ
aftermath_text true = codes "somebody took the job's file away"
aftermath_text false = codes "the job is printed again after the next start"
