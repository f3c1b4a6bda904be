-- What contracts see of a held job.
use Rattle.std.specs.Prelude.{ℕ, Bool, false, List, [], ◌∷◌, Option, Some, None, map}
use Rattle.std.specs.List.{list_all}
use Rattle.lpd_values.specs.Kept.{is_among}
use Rattle.control_file.specs.declared.control.Control.{Control}
use Rattle.control_file.specs.View.{contents}
use Rattle.lpd_values.specs.Contents.{Contents}
use Rattle.page_chain.specs.Files.{Files}
use Rattle.held_jobs.specs.declared.file.DataFile.{DataFile}
use Rattle.held_jobs.specs.declared.phase.Phase.{Phase}
use Rattle.held_jobs.specs.declared.phase.Phase.TheVariants.{Receiving}

-- what a control file says, where there is one
abbrev pub contents_of : Option Control → Option Contents
contents_of None = None
contents_of (Some control) = Some (contents control)

-- what is known of a job beside its pages
pub record Facts : Type 0 where
  pub number : ℕ
  pub sender : ℕ
  pub queue : ℕ
  pub phase : Phase
  -- pages that were lent to it so far, and whether one is lent now
  pub granted : ℕ
  pub lent : Bool
  -- its data files in order of beginning
  pub files : List DataFile
  pub control : Option Contents
  -- how many of its places were handed to a printer, and how many came back
  pub handed : ℕ
  pub back : ℕ

-- a held job: what is known of it, and its files with their pages
pub record HeldJob : Type 0 where
  pub facts : Facts
  pub chain : Files

-- a job that was just accepted
abbrev pub new_facts : (number sender queue : ℕ) → Facts
new_facts number sender queue = record {
  number = number;
  sender = sender;
  queue = queue;
  phase = Receiving;
  granted = 0;
  lent = false;
  files = [];
  control = None;
  handed = 0;
  back = 0;
}

abbrev pub new_job : (number sender queue : ℕ) → HeldJob
new_job number sender queue = record {
  facts = new_facts number sender queue;
  chain = record { files = []; is_open = false; places = []; last = None; file_room = 52 };
}

abbrev pub no_job : HeldJob
no_job = new_job 0 0 0

abbrev pub no_size : DataFile
no_size = record { name = []; count = 0; left = 0; pages = 0 }

-- the last of these files
abbrev pub last_size : List DataFile → DataFile
last_size [] = no_size
last_size (f ∷ []) = f
last_size (f ∷ g ∷ fs) = last_size (g ∷ fs)

-- the names of its data files
abbrev pub file_names : Facts → List (List ℕ)
file_names j = map (λ (f : DataFile). f.name) j.files

-- a control file came, and each file that it prints has one of these names
abbrev pub has_all : List (List ℕ) → Option Contents → Bool
has_all names None = false
has_all names (Some control) = list_all (λ name. is_among name names) control.prints

-- its control file came, and each file that this prints has begun
abbrev pub has_prints : Facts → Bool
has_prints j = has_all (file_names j) j.control
