-- The places of a job that is being sent, and what a spool and a session are there.
use Rattle.std.proofs.Common.{◌≡◌, ◌+◌, ◌*◌, ◌<◌, ◌≤◌, ℕ, Bool, true, false, List, [], ◌∷◌, ◌++◌, length, Some, None, Ok}
use Rattle.std.specs.Prelude.{cond, replicate}
use Rattle.std.specs.List.{list_all}
use Rattle.lpd_values.specs.declared.limits.TheConstants.{MAX_CONTROL_TEXT, MAX_FILES}
use Rattle.lpd_values.specs.Kept.{is_among}
use Rattle.lpd_commands.specs.Line.{command_of, sub_of}
use Rattle.lpd_commands.specs.Written.{command_line, sub_line}
use Rattle.lpd_commands.specs.declared.command.Command.TheVariants.{Receive}
use Rattle.lpd_commands.specs.declared.sub.Sub.TheVariants as sub
use Rattle.control_file.specs.Text.{control_of}
use Rattle.control_file.specs.Written.{control_text}
use Rattle.control_file.specs.View.{contents}
use Rattle.config_values.specs.Config.{Config, IsQueue, limit_of}
use Rattle.config_values.specs.Ranges.{IsConfig}
use Rattle.lpr_client.specs.declared.file.DataFile.{DataFile}
use Rattle.lpr_client.proofs.JobReading.{AreFiles}
use Rattle.receiver.specs.Blocks.{IsLine}
use Rattle.receiver.specs.Script.{BeginFile, Item, Asks, Acks, FileOctets, ControlText}
use Rattle.receiver.specs.Reading.{Progress, start}
use Rattle.spool_history.specs.Base.{first_base}
use Rattle.spool_history.specs.Events.Act.{Controlled}
use Rattle.spool_history.specs.Events.Event.{OfJob}
use Rattle.spool_laws.proofs.Known.{Has}
use Rattle.spool_history.specs.Acts.{File, is_open_in, names_in}
use Rattle.spool_history.specs.Now.{State, now}
use Rattle.spool_history.specs.Legal.{pages_for}
use Rattle.spool_history.specs.Refusals.{HasEntries}
use Rattle.config_values.specs.Config.{queue_named}
use Rattle.spool_trace.specs.Sessions.{Session}
use Rattle.lone_jobs.specs.Lone.{Sent, file_names, pages_of_files}
use Rattle.lone_jobs.proofs.Dues.{body, control_left, file_begun, file_end, in_hand, paged}
use Rattle.lone_jobs.proofs.Held.{History, held_job}

-- none of these files has one of these names, nor that of a file before it
abbrev pub AllFresh : List (List ℕ) → List DataFile → Type 0
AllFresh names [] = Unit {0}
AllFresh names (file ∷ files) = (is_among file.name names ≡ false) × AllFresh (names ++ file.name ∷ []) files

pub data Place : Type 0 where
  First : Place
  -- the queue was admitted, and nothing is in hand
  Asking : (acking : Bool) → Place
  -- these files have come, and those are left
  Ready : (acking : Bool) (granted : ℕ) (done : List (File (List ℕ))) (left : List DataFile) → Place
  -- the job was just opened for this file
  Begins : (file : DataFile) (left : List DataFile) → Place
  Began : (granted : ℕ) (done : List (File (List ℕ))) (file : DataFile) (left : List DataFile) → Place
  -- these pages of a file have come, and these octets are left of it; a page is lent or not
  Inside : (lent : Bool) (granted : ℕ) (done : List (File (List ℕ))) (file : DataFile) (left : List DataFile) (octets : List ℕ) (pages : List (List ℕ)) → Place
  -- the line of the control file has come
  Told : (acking : Bool) (granted : ℕ) (done : List (File (List ℕ))) → Place
  Last : (acking : Bool) → Place

-- the octet 00 is due first, or not
abbrev pub acks : Bool → List Item → List Item
acks acking items = cond acking (Acks ∷ items) items

abbrev pub open_file : DataFile → List (List ℕ) → File (List ℕ)
open_file file pages = record { name = file.name; count = length file.octets; pages = pages; ended = false }

module _ (c : Config) (job : Sent) where
  abbrev pub q : ℕ
  q = queue_named c job.queue

  abbrev pub text : List ℕ
  text = control_text (contents job.control)

  abbrev pub z : ℕ
  z = c.page_size

  -- what is known of the job from the beginning
  pub record IsKnown : Type 0 where
    pub ranges : IsConfig c
    pub queue : IsQueue c q
    pub first_line : IsLine (command_line (Receive job.queue)) × (command_of (command_line (Receive job.queue)) ≡ Ok (Receive job.queue))
    pub control_line : IsLine (sub_line (sub.ControlFile (length text) job.name)) × (sub_of (sub_line (sub.ControlFile (length text) job.name)) ≡ Ok (sub.ControlFile (length text) job.name))
    pub some : 1 ≤ length text
    pub few : length text ≤ MAX_CONTROL_TEXT
    pub read : control_of job.name text ≡ Ok (contents job.control)
    pub printed : list_all (λ name. is_among name (file_names job.files)) job.control.prints ≡ true
    pub max_files : length job.files ≤ MAX_FILES
    pub fresh : AllFresh [] job.files
    pub files : AreFiles job.files
    pub pages : pages_of_files z job.files ≤ limit_of c q

  abbrev pub progress_at : Place → Progress
  progress_at First = start
  progress_at (Asking acking) = record { queue = Some job.queue; job = false; items = acks acking []; owed = None; tail = [] }
  progress_at (Ready acking g done left) = in_hand job.queue (acks acking [])
  progress_at (Begins file left) = in_hand job.queue (Asks (BeginFile file.name (length file.octets)) ∷ file_begun (length file.octets))
  progress_at (Began g done file left) = in_hand job.queue (file_begun (length file.octets))
  progress_at (Inside false g done file left octets pages) = in_hand job.queue (FileOctets (length octets) ∷ file_end)
  progress_at (Inside true g done file left octets pages) = in_hand job.queue (paged z octets)
  progress_at (Told acking g done) = in_hand job.queue (acks acking (ControlText job.name (length text) ∷ Acks ∷ []))
  progress_at (Last acking) = record { queue = Some job.queue; job = false; items = acks acking []; owed = None; tail = [] }

  -- the octets that are left from there on
  abbrev pub text_at : Place → List ℕ
  text_at First = command_line (Receive job.queue) ++ 10 ∷ body job.name text job.files
  text_at (Asking acking) = body job.name text job.files
  text_at (Ready acking g done left) = body job.name text left
  text_at (Begins file left) = file.octets ++ 0 ∷ body job.name text left
  text_at (Began g done file left) = file.octets ++ 0 ∷ body job.name text left
  text_at (Inside lent g done file left octets pages) = octets ++ 0 ∷ body job.name text left
  text_at (Told acking g done) = control_left text
  text_at (Last acking) = []

  -- how many octets 00 were written
  abbrev pub count_at : Place → ℕ
  count_at First = 0
  count_at (Asking acking) = cond acking 0 1
  count_at (Ready acking g done left) = 2 * length done + cond acking 0 1
  count_at (Begins file left) = 1
  count_at (Began g done file left) = 2 * length done + 1
  count_at (Inside lent g done file left octets pages) = 2 * length done + 2
  count_at (Told acking g done) = 2 * length done + cond acking 1 2
  count_at (Last acking) = 2 * length job.files + cond acking 2 3

  abbrev pub NoJob : State (List ℕ) → Type 0
  NoJob v = (v.jobs ≡ []) × HasEntries v q

  -- the job is held, alone
  abbrev pub Holds : State (List ℕ) → (j granted : ℕ) (lent : Bool) → List (File (List ℕ)) → Type 0
  Holds v j granted lent files = (sender : ℕ) × (v.jobs ≡ held_job j sender q granted lent files None ∷ [])

  -- these files have come, those are left, and there are pages for them
  pub record Rest (granted : ℕ) (done : List (File (List ℕ))) (left : List DataFile) : Type 0 where
    pub named : names_in done ++ file_names left ≡ file_names job.files
    pub closed : is_open_in done ≡ false
    pub fresh : AllFresh (names_in done) left
    pub sendable : AreFiles left
    pub room : granted + pages_of_files z left ≤ limit_of c q

  pub record Within (granted : ℕ) (done : List (File (List ℕ))) (file : DataFile) (left : List DataFile) (octets : List ℕ) (pages : List (List ℕ)) : Type 0 where
    pub named : names_in done ++ file.name ∷ file_names left ≡ file_names job.files
    pub closed : is_open_in done ≡ false
    pub fresh : AllFresh (names_in done ++ file.name ∷ []) left
    pub sendable : AreFiles left
    pub room : granted + pages_for z (length octets) + pages_of_files z left ≤ limit_of c q
    pub pages_so_far : length pages + pages_for z (length octets) ≡ pages_for z (length file.octets)
    pub octets_so_far : 0 < length octets → length pages * z + length octets ≡ length file.octets

  -- the control file made the job whole
  abbrev pub WasWhole : History → ℕ → Type 0
  WasWhole h j = Has (OfJob j (Controlled (contents job.control) true)) h

  abbrev pub Facts : Place → History → ℕ → Type 0
  Facts First h j = NoJob (now c first_base h)
  Facts (Asking acking) h j = NoJob (now c first_base h)
  Facts (Ready acking g done left) h j = Rest g done left × Holds (now c first_base h) j g false done
  Facts (Begins file left) h j = Rest 0 [] (file ∷ left) × Holds (now c first_base h) j 0 false []
  Facts (Began g done file left) h j = Within g done file left file.octets [] × Holds (now c first_base h) j g false (done ++ open_file file [] ∷ [])
  Facts (Inside false g done file left octets pages) h j =
      Within g done file left octets pages × Holds (now c first_base h) j g false (done ++ open_file file pages ∷ [])
  Facts (Inside true g done file left octets pages) h j =
      (0 < length octets) × Within g done file left octets pages × Holds (now c first_base h) j (g + 1) true (done ++ open_file file pages ∷ [])
  Facts (Told acking g done) h j = (names_in done ≡ file_names job.files) × (is_open_in done ≡ false) × Holds (now c first_base h) j g false done
  Facts (Last acking) h j = WasWhole h j

  -- a session is at this place, where these octets are still to come
  pub record Here (coming : List ℕ) (s : Session) (h : History) (p : Place) : Type 0 where
    pub progress : s.progress ≡ progress_at p
    pub unread : s.unread ++ coming ≡ text_at p
    pub going : s.over ≡ false
    pub opened : (now c first_base h).closed ≡ false
    pub facts : Facts p h s.job
    pub written : s.written ≡ replicate (count_at p) 0
