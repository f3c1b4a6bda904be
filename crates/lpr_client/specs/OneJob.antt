-- How a session reads what a client sends.
use Rattle.std.specs.Prelude.{◌≡◌, ◌<◌, ◌+◌, ◌*◌, ℕ, zero, suc, Bool, true, false, not, List, [], ◌∷◌, ◌++◌, length, take, drop, replicate}
use Rattle.lpd_values.specs.Contents.{Contents}
use Rattle.receiver.specs.Script.{Queue, BeginFile, EndFile, Control as ControlFile, Ack, Output, Wrote, Asked, Reply, Yes, Stored, octets_written}
use Rattle.receiver.specs.Reading.{start}
use Rattle.receiver.specs.Reads.{Reads}
use Rattle.receiver.specs.Blocks.{between, opened, opened_told, asked_for, told_for, ended}
use Rattle.lpr_client.specs.declared.file.DataFile.{DataFile}

-- pieces of z octets, so many at most, of which the last may have fewer
abbrev pub pieces : ℕ → ℕ → List ℕ → List (List ℕ)
pieces most z [] = []
pieces zero z (b ∷ bs) = []
pieces (suc most) z (b ∷ bs) = take z (b ∷ bs) ∷ pieces most z (drop z (b ∷ bs))

-- octets cut into pages of z octets
abbrev pub pages_of : ℕ → List ℕ → List (List ℕ)
pages_of z octets = pieces (length octets) z octets

-- What a session asks and writes for data files and then a control file that says this, where a job is in hand or not
-- and tickets have z octets.
abbrev pub files_outputs : ℕ → List ℕ → Bool → Contents → List DataFile → List Output
files_outputs z queue job said [] =
    opened job queue ++ Wrote Ack ∷ Asked (ControlFile said) ∷ Wrote Ack ∷ []
files_outputs z queue job said (file ∷ files) =
    opened job queue ++ Asked (BeginFile file.name (length file.octets)) ∷ Wrote Ack
    ∷ (asked_for z (pages_of z file.octets) ++ Asked EndFile ∷ Wrote Ack
    ∷ files_outputs z queue true said files)

-- the answers that grant these requests; the last one makes the job whole or not
abbrev pub files_told : ℕ → Bool → Bool → List DataFile → List Reply
files_told z job whole [] = opened_told job ++ ended whole ∷ []
files_told z job whole (file ∷ files) =
    opened_told job ++ Yes ∷ (told_for z (pages_of z file.octets) ++ Stored
    ∷ files_told z true whole files)

-- the same for the whole of a job
abbrev pub job_outputs : ℕ → List ℕ → Contents → List DataFile → List Output
job_outputs z queue said files =
    Asked (Queue queue) ∷ Wrote Ack ∷ files_outputs z queue false said files

abbrev pub job_told : ℕ → Bool → List DataFile → List Reply
job_told z whole files = Yes ∷ files_told z false whole files

-- Where all requests are granted, by tickets of any one size, and each data file is kept for a job that goes on, these
-- octets at the start of a session are read as one job with these files and this control file, and nothing of them is
-- left: what follows them is read as the next block. Each octet written for them is 00, one for the first line and two
-- for each file.
pub record ReadsAsOneJob (queue : List ℕ) (said : Contents) (files : List DataFile)
    (octets : List ℕ) : Type 0 where
  pub reading :
      (z : ℕ) (whole short : Bool) (rest : List ℕ) (a : List Reply) (os : List Output) → 0 < z →
      Reads short os (between queue (not whole)) rest a →
      Reads short (job_outputs z queue said files ++ os) start (octets ++ rest)
      (job_told z whole files ++ a)
  pub acknowledged :
      (z : ℕ) →
      octets_written (job_outputs z queue said files) ≡ replicate (2 * length files + 3) 0
