-- How a job comes.
use Rattle.std.specs.Prelude.{ℕ, List, [], ◌∷◌, ◌++◌, Option, None, Some}
use Rattle.lpd_values.specs.Contents.{Contents}
use Rattle.job_streams.specs.Stream.{Block, Data, Control, Coming, Part}

-- a job of this sender for this queue of which nothing has come
abbrev pub new_job : ℕ → List ℕ → Coming
new_job sender queue = record { sender = sender; queue = queue; blocks = []; part = None }

-- a data file begins
abbrev pub with_file : List ℕ → ℕ → Coming → Coming
with_file name count job = record job { part = Some (record { name = name; count = count; octets = [] }) }

-- a data file of which these octets came behind those that it had
abbrev pub more_of : List ℕ → Option Part → Option Part
more_of octets None = None
more_of octets (Some file) = Some (record file { octets = file.octets ++ octets })

-- octets of it come
abbrev pub with_octets : List ℕ → Coming → Coming
with_octets octets job = record job { part = more_of octets job.part }

-- the data file that was coming, as one that has come
abbrev pub block_of : Option Part → List Block
block_of None = []
block_of (Some file) = Data file.name file.octets ∷ []

-- it has come whole
abbrev pub with_end : Coming → Coming
with_end job = record job { blocks = job.blocks ++ block_of job.part; part = None }

-- the control file has come
abbrev pub with_control : Contents → Coming → Coming
with_control said job = record job { blocks = job.blocks ++ Control said ∷ [] }
