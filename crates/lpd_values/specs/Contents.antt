-- What a control file says.
use Rattle.std.specs.Prelude.{ℕ, List}

-- the host and the user that sent the job, the job's number, and the names of the data files to print
pub record Contents : Type 0 where
  pub host : List ℕ
  pub user : List ℕ
  pub number : ℕ
  pub prints : List (List ℕ)
