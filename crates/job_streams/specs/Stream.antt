-- A job as it comes, the octets that a peer sends of it, and those that are kept.
use Rattle.std.specs.Prelude.{◌≡◌, ◌<◌, ◌≤◌, ◌+◌, ◌^◌, ℕ, IsTrue, Bool, false, ◌&&◌, not, is_some, List, [], ◌∷◌, ◌++◌, Option, None, Some, Ok, length, ◌/◌, ◌%◌}
use Rattle.std.specs.List.{list_all}
use Rattle.lpd_values.specs.Contents.{Contents}
use Rattle.lpd_values.specs.Kept.{is_among}
use Rattle.lpd_values.specs.Name.{is_control_name, is_data_name}
use Rattle.lpd_values.specs.declared.limits.TheConstants.{MAX_CONTROL_TEXT}
use Rattle.lpd_commands.specs.Written.{command_line, command_has_line, sub_line}
use Rattle.lpd_commands.specs.declared.command.Command.TheVariants.{Receive}
use Rattle.lpd_commands.specs.declared.sub.Sub.TheVariants as sub
use Rattle.control_file.specs.Text.{control_of}
use Rattle.control_file.specs.Written.{control_text}
use Rattle.job_heads.specs.Head.{head}

-- a file that has come whole: a data file with its name and octets, or the control file and what it says
pub data Block : Type 0 where
  Data : List ℕ → List ℕ → Block
  Control : Contents → Block

-- a data file that is coming: its name, the length that was announced, and the octets so far
pub record Part : Type 0 where
  pub name : List ℕ
  pub count : ℕ
  pub octets : List ℕ

-- a job that is coming: who sends it, the files that have come, in order, and the one that is coming
pub record Coming : Type 0 where
  pub sender : ℕ
  pub queue : List ℕ
  pub blocks : List Block
  pub part : Option Part

-- the digit of a value below ten
abbrev pub digit : ℕ → ℕ
digit n = 48 + n

-- the name under which a control file with this number is kept
abbrev pub control_name : ℕ → List ℕ
control_name n = 99 ∷ 102 ∷ 65 ∷ digit (n / 100) ∷ digit (n / 10 % 10) ∷ digit (n % 10) ∷ []

abbrev pub first_line : List ℕ → List ℕ
first_line queue = command_line (Receive queue) ++ 10 ∷ []

abbrev pub data_line : List ℕ → ℕ → List ℕ
data_line name count = sub_line (sub.DataFile count name) ++ 10 ∷ []

abbrev pub control_line : Contents → List ℕ
control_line said = sub_line (sub.ControlFile (length (control_text said)) (control_name said.number)) ++ 10 ∷ []

abbrev pub block_octets : Block → List ℕ
block_octets (Data name octets) = data_line name (length octets) ++ (octets ++ 0 ∷ [])
block_octets (Control said) = control_line said ++ (control_text said ++ 0 ∷ [])

abbrev pub blocks_octets : List Block → List ℕ
blocks_octets [] = []
blocks_octets (block ∷ blocks) = block_octets block ++ blocks_octets blocks

abbrev pub part_octets : Option Part → List ℕ
part_octets None = []
part_octets (Some file) = data_line file.name file.count ++ file.octets

-- the octets that a peer has sent of a job
abbrev pub requests : Coming → List ℕ
requests job = first_line job.queue ++ (blocks_octets job.blocks ++ part_octets job.part)

-- what is kept of a job: its head, which says who sent it, and the octets that have come
abbrev pub stream : Coming → List ℕ
stream job = head job.sender ++ requests job

-- a data file that is read back
pub record IsFitData (name octets : List ℕ) : Type 0 where
  pub named : IsTrue (is_data_name name)
  pub some : 0 < length octets
  pub counted : length octets < 10 ^ 19

-- a control file that is read back
pub record IsFitControl (said : Contents) : Type 0 where
  pub named : IsTrue (is_control_name (control_name said.number))
  pub short : length (control_text said) ≤ MAX_CONTROL_TEXT
  pub read : control_of (control_name said.number) (control_text said) ≡ Ok said

-- a block that is read back
abbrev pub IsFitBlock : Block → Type 0
IsFitBlock (Data name octets) = IsFitData name octets
IsFitBlock (Control said) = IsFitControl said

abbrev pub AreFitBlocks : List Block → Type 0
AreFitBlocks [] = Unit {0}
AreFitBlocks (block ∷ blocks) = IsFitBlock block × AreFitBlocks blocks

-- its head has room for its sender, its first line asks for its queue, and each of its files can be sent
pub record IsFit (job : Coming) : Type 0 where
  pub sender : job.sender < 2 ^ 32
  pub queue : IsTrue (command_has_line (Receive job.queue))
  pub blocks : AreFitBlocks job.blocks

-- the names of data files, in order
abbrev pub names_of : List Block → List (List ℕ)
names_of [] = []
names_of (Data name octets ∷ blocks) = name ∷ names_of blocks
names_of (Control said ∷ blocks) = names_of blocks

-- the later of two, if there is one
abbrev pub last_of : Option (List (List ℕ)) → List (List ℕ) → Option (List (List ℕ))
last_of None prints = Some prints
last_of (Some later) prints = Some later

-- what the last control file prints
abbrev pub prints_of : List Block → Option (List (List ℕ))
prints_of [] = None
prints_of (Data name octets ∷ blocks) = prints_of blocks
prints_of (Control said ∷ blocks) = last_of (prints_of blocks) said.prints

-- all names that it prints are there
abbrev pub has_prints : Option (List (List ℕ)) → List (List ℕ) → Bool
has_prints None names = false
has_prints (Some prints) names = list_all (λ name. is_among name names) prints

-- a job is whole once its control file is there, each file that it prints has come, and none is coming
abbrev pub is_whole : Coming → Bool
is_whole job = not (is_some job.part) && has_prints (prints_of job.blocks) (names_of job.blocks)
