-- A job that comes alone to a spool which has room for it, and what its session is answered.
use Rattle.std.specs.Prelude.{◌≡◌, ◌≢◌, ◌⊎◌, ◌≤◌, ◌+◌, ◌*◌, ℕ, true, false, ◌∷◌, ◌++◌}
use Rattle.std.specs.Prelude.{List, [], All, Contains, Option, Some, length, map, replicate, sum_by}
use Rattle.lpd_values.specs.Kept.{is_among}
use Rattle.control_file.specs.Written.{control_text}
use Rattle.control_file.specs.View.{contents}
use Rattle.control_file.specs.declared.control.Control.{Control}
use Rattle.config_values.specs.Config.{Config, IsQueue, limit_of}
use Rattle.config_values.specs.Ranges.{IsConfig}
use Rattle.lpr_client.specs.declared.file.DataFile.{DataFile}
use Rattle.lpr_client.specs.Parts.{job_octets}
use Rattle.lpr_client.specs.Sendable.{is_sendable}
use Rattle.receiver.specs.Blocks.{between}
use Rattle.receiver.specs.Reading.{Waits}
use Rattle.spool_history.specs.Events.{Event}
use Rattle.spool_history.specs.Events.Act.{Controlled}
use Rattle.spool_history.specs.Events.Event.{Opened, OfJob, Closed}
use Rattle.spool_history.specs.Legal.{pages_for}
use Rattle.spool_requests.specs.declared.answer.Answer.TheVariants.{Later, Refused}
use Rattle.spool_history.specs.Refusals.{HasEntries}
use Rattle.config_values.specs.Config.{queue_named}
use Rattle.spool_trace.specs.declared.step.Step.{Step}
use Rattle.spool_trace.specs.declared.step.Step.TheVariants as step
use Rattle.spool_trace.specs.declared.reply.Deed.TheVariants as deed
use Rattle.spool_trace.specs.declared.reply.Reply.{Reply}
use Rattle.spool_trace.specs.declared.reply.Reply.TheVariants as reply
use Rattle.spool_trace.specs.Trace.{Entry, Trace}
use Rattle.spool_trace.specs.Sessions.{session_at, due_in, sessions}
use Rattle.spool_trace.specs.Shown.{shown, events, spool_after}
use Rattle.spool_trace.specs.Replies.{IsTrace}
use Rattle.spool_trace.specs.Agree.{is_short_deed}

-- what is sent: to a queue, a control file under a name, and data files
pub record Sent : Type 0 where
  pub queue : List ℕ
  pub name : List ℕ
  pub control : Control
  pub files : List DataFile

-- its octets
abbrev pub octets_of : Sent → List ℕ
octets_of job = job_octets job.queue job.name (control_text (contents job.control)) job.files

abbrev pub file_names : List DataFile → List (List ℕ)
file_names files = map (λ (file : DataFile). file.name) files

-- no two files have one name
abbrev pub HaveOwnNames : List DataFile → Type 0
HaveOwnNames [] = Unit {0}
HaveOwnNames (file ∷ files) = All (λ other. other.name ≢ file.name) files × HaveOwnNames files

-- the pages of z octets that files take, each file from a page of its own on
abbrev pub pages_of_files : ℕ → List DataFile → ℕ
pages_of_files z files = sum_by (λ (file : DataFile). pages_for z (length file.octets)) files

-- After this trace a spool holds no job and has room for this one: it isn't closed, it knows the queue, the account has
-- room for one more job of it and a number for that is left. The job can be sent; the names of its files differ, each name
-- that it prints is one of them, and all its files take no more pages together than a job of the queue may hold.
pub record HasRoomFor (c : Config) (t : Trace) (job : Sent) : Type 0 where
  pub config : IsConfig c
  pub trace : IsTrace c t
  pub going : (spool_after c t).closed ≡ false
  pub no_job : (spool_after c t).jobs ≡ []
  pub known : IsQueue c (queue_named c job.queue)
  pub entries : HasEntries (spool_after c t) (queue_named c job.queue)
  pub sendable : is_sendable job.queue job.name job.control job.files ≡ true
  pub names : HaveOwnNames job.files
  pub printed : All (λ name. is_among name (file_names job.files) ≡ true) job.control.prints
  pub pages : pages_of_files c.page_size job.files ≤ limit_of c (queue_named c job.queue)

-- the octets of a host arrive on a session, or the session does the next thing
abbrev pub IsOf : ℕ → Step → Type 0
IsOf n (step.Arrive m octets) = m ≡ n
IsOf n (step.Turn m) = m ≡ n
IsOf n _ = ⊥

-- a step that is none of a session's
abbrev pub IsOfOthers : ℕ → Step → Type 0
IsOfOthers n (step.Arrive m octets) = m ≢ n
IsOfOthers n (step.Turn m) = m ≢ n
IsOfOthers n (step.Break m) = m ≢ n
IsOfOthers n _ = Unit {0}

-- what was done in a turn wasn't cut short for want of memory; where a step is answered Memory nothing was done
abbrev pub IsAmple : Reply → Type 0
IsAmple (reply.Turned done) = is_short_deed done ≡ false
IsAmple _ = Unit {0}

-- no job is opened, and the spool isn't closed
abbrev pub LeavesAlone : Option (Event (List ℕ)) → Type 0
LeavesAlone (Some (Opened job sender queue)) = ⊥
LeavesAlone (Some Closed) = ⊥
LeavesAlone _ = Unit {0}

-- After t the session n is alone with its job, and memory is ample for it: each further step is one of it, or one of
-- others that opens no job and doesn't close the spool.
abbrev pub IsAlone : Config → ℕ → Trace → Trace → Type 0
IsAlone c n t [] = Unit {0}
IsAlone c n t (e ∷ more) =
    ((IsOf n e.step × IsAmple e.reply)
    ⊎ (IsOfOthers n e.step × LeavesAlone (shown (spool_after c (more ++ t)) (sessions (more ++ t)) e.step e.reply)))
    × IsAlone c n t more

-- the session's answer is no refusal, and a page that it asks for comes at once
abbrev pub IsGranted : Reply → Type 0
IsGranted (reply.Turned (deed.Asked kind (Refused refusal))) = ⊥
IsGranted (reply.Turned (deed.Asked kind Later)) = ⊥
IsGranted (reply.Turned (deed.Refused refusal)) = ⊥
IsGranted _ = Unit {0}

-- so is each reply to a step of the session
abbrev pub AreGranted : ℕ → Trace → Type 0
AreGranted n more = All (λ (e : Entry). IsOf n e.step → IsGranted e.reply) more

-- a host of this number connects, and gets the session n
abbrev pub connected : (sender n : ℕ) → Entry
connected sender n = record { step = step.Connect sender; reply = reply.Connected n }

-- To a spool that has room for a job its host connects and gets the session n; then that is alone, and what has arrived
-- on it in the end is a beginning of the job's octets.
pub record ComesAlone (c : Config) (t : Trace) (job : Sent) (sender n : ℕ) (more : Trace) : Type 0 where
  pub room : HasRoomFor c t job
  pub right : IsTrace c (more ++ connected sender n ∷ t)
  pub alone : IsAlone c n (connected sender n ∷ t) more
  pub coming : List ℕ
  pub beginning : (session_at (sessions (more ++ connected sender n ∷ t)) n).arrived ++ coming ≡ octets_of job

-- no request of the session is refused, it isn't over, and each octet that was written for the job is 00
pub record IsServed (n : ℕ) (more all : Trace) : Type 0 where
  pub granted : AreGranted n more
  pub going : (session_at (sessions all) n).over ≡ false
  pub acknowledged : All (λ octet. octet ≡ 0) (session_at (sessions all) n).written

abbrev pub LoneJobsAreServed : Type 0
LoneJobsAreServed =
    (c : Config) (t : Trace) (job : Sent) (sender n : ℕ) (more : Trace) → ComesAlone c t job sender n more →
    IsServed n more (more ++ connected sender n ∷ t)

-- The job that the session opened was made whole by its control file, and the session has none in hand any more. One
-- octet 00 was written for the first line, and two for each data file and for the control file.
pub record IsTaken (c : Config) (job : Sent) (n : ℕ) (all : Trace) : Type 0 where
  pub whole : Contains (events c all) (OfJob (session_at (sessions all) n).job (Controlled (contents job.control) true))
  pub released : (session_at (sessions all) n).progress ≡ between job.queue false
  pub acknowledged : (session_at (sessions all) n).written ≡ replicate (2 * length job.files + 3) 0

-- where all octets have arrived and the session waits for more, the job was taken
abbrev pub LoneJobsAreTaken : Type 0
LoneJobsAreTaken =
    (c : Config) (t : Trace) (job : Sent) (sender n : ℕ) (more : Trace) → (comes : ComesAlone c t job sender n more) →
    comes.coming ≡ [] → due_in (session_at (sessions (more ++ connected sender n ∷ t)) n) ≡ Waits →
    IsTaken c job n (more ++ connected sender n ∷ t)
