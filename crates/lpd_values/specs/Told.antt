-- What is told of a held job, in the state of a queue and in a removal.
use Rattle.std.specs.Prelude.{ℕ, Bool, List, [], Option, Some, None}
use Rattle.lpd_values.specs.Contents.{Contents}

-- a data file: its name, and its length in octets
pub record ToldFile : Type 0 where
  pub name : List ℕ
  pub count : ℕ

pub record Told : Type 0 where
  pub queue : ℕ
  -- it is received and hasn't ended
  pub listed : Bool
  pub control : Option Contents
  -- its data files, in order of beginning
  pub files : List ToldFile
  -- how many of its places were handed to a printer, and how many were not
  pub handed : ℕ
  pub left : ℕ

-- what a control file says, where there is one: the job number, the user, the host, and the names of the files to print

abbrev pub number_in : Option Contents → ℕ
number_in None = 0
number_in (Some control) = control.number

abbrev pub user_in : Option Contents → List ℕ
user_in None = []
user_in (Some control) = control.user

abbrev pub host_in : Option Contents → List ℕ
host_in None = []
host_in (Some control) = control.host

abbrev pub prints_in : Option Contents → List (List ℕ)
prints_in None = []
prints_in (Some control) = control.prints
