-- What a snapshot has of a held job.
use Rattle.std.specs.Prelude.{ℕ, ◌+◌, ◌-◌, ◌^◌, List, [], ◌∷◌, Option, Some, None, min}
use Rattle.lpd_values.specs.Contents.{Contents}
use Rattle.held_jobs.specs.declared.file.DataFile.{DataFile}
use Rattle.held_jobs.specs.Jobs.{Facts}
use Rattle.spool_snapshot.specs.declared.job.SeenJob.{SeenJob}

-- the octets of these files, as far as 64 bits count
abbrev pub octets_of : List DataFile → ℕ
octets_of [] = 0
octets_of (f ∷ fs) = min (f.count + octets_of fs) (2 ^ 64 - 1)

-- the user of a control file, and no octet where there is none
abbrev pub user_in : Option Contents → List ℕ
user_in None = []
user_in (Some control) = control.user

-- and its host
abbrev pub host_in : Option Contents → List ℕ
host_in None = []
host_in (Some control) = control.host

abbrev pub seen_job : Facts → SeenJob
seen_job j = record {
  number = j.number;
  sender = j.sender;
  queue = j.queue;
  phase = j.phase;
  granted = j.granted;
  lent = j.lent;
  octets = octets_of j.files;
  handed = j.handed;
  back = j.back;
  user = user_in j.control;
  host = host_in j.control;
}
