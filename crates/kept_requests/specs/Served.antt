-- What serving a session comes to whose jobs are kept.
use Rattle.std.specs.Prelude.{◌≡◌, ◌⊎◌, ◌≤◌, ℕ, List, [], ◌∷◌, ◌++◌, Option, None, Some}
use Rattle.receiver.specs.Reading.{Due, Requests}
use Rattle.spool_requests.specs.declared.answer.Answer.{Answer}
use Rattle.spool_trace.specs.declared.reply.Deed.TheVariants as deed
use Rattle.spool_trace.specs.Sessions.{due_in}
use Rattle.request_session.specs.declared.ending.SessionEnd.{SessionEnd}
use Rattle.request_session.specs.Carried.{AtEnd, Carrying, Ending}
use Rattle.request_session.specs.Course.{Course, Did, session_after}
use Rattle.request_session.specs.Served.{Around, HasRead}
use Rattle.request_session.specs.Served as served
use Rattle.kept_jobs.specs.Folder.{GoesOn, IsSeen, Leads, Seen}
use Rattle.job_streams.specs.Stream.{Coming}
use Rattle.job_hand.specs.Hand.{IsOfWhole, Leaving, Telling}
use Rattle.kept_requests.specs.Work.{PassesOn, with_last, work_after}
use Rattle.kept_requests.specs.Carried.{Asks, Ends}
use Rattle.kept_requests.specs.declared.keeping.Keeping.{Keeping}

-- the job that is coming after the request that was due
abbrev pub work_due : (sender : ℕ) → Due → Answer → Option Coming → Option Coming
work_due sender (Requests r items text) answer work = work_after sender r answer work
work_due sender due answer work = work

-- what the request that was due passes on under the number of the session's last job, or leaves
abbrev pub PassesDue : Due → (job : ℕ) → Answer → Option Coming → (old new : Option Seen) → Type 0
PassesDue (Requests r items text) job answer work old new =
    (number : Option ℕ) × ((number ≡ Some job) ⊎ (number ≡ None)) × PassesOn number r answer work old new
PassesDue due job answer work old new = ⊥

-- the job with the file that the request that was due brings the end of
abbrev pub last_due : Due → Option Coming → Option Coming
last_due (Requests r items text) work = with_last r work
last_due due work = None

module _ (sender : ℕ) where
  -- the job that is coming where a course leads
  abbrev pub work_of : Course → Option Coming
  work_of [] = None
  work_of (Did (deed.Asked asked answer) ∷ c) = work_due sender (due_in (session_after sender c)) answer (work_of c)
  work_of (move ∷ c) = work_of c

  -- what a course passes on or leaves: at each moment each job that is whole by then, with the octets that have come of it, and no
  -- other. The octet 00 for the file that makes a job whole is a later move.
  abbrev pub PassesAll : Course → (old new : Option Seen) → Type 0
  PassesAll [] old new = new ≡ old
  PassesAll (Did (deed.Asked asked answer) ∷ c) old new =
      (before : Option Seen) × PassesAll c old before
      × PassesDue (due_in (session_after sender c)) (session_after sender c).job answer (work_of c) before new
  PassesAll (move ∷ c) old new = PassesAll c old new

  -- in a course a job came to be whole, acknowledged or not, of which this is what is kept
  abbrev pub HadWhole : Course → Option (List ℕ) → Type 0
  HadWhole [] kept = ⊥
  HadWhole (Did (deed.Asked asked answer) ∷ c) kept =
      IsOfWhole (last_due (due_in (session_after sender c)) (work_of c)) kept ⊎ HadWhole c kept
  HadWhole (move ∷ c) kept = HadWhole c kept

-- more jobs were passed on or left, or none
abbrev pub Grew : (old new : Option Seen) → Type 0
Grew = Leads (λ old new. (more : List (Option ℕ × List ℕ)) × (new.passed ≡ more ++ old.passed))

-- in a course a crash leaves what it might have left at the start, or none, or a whole job of the course
abbrev pub LeavesIn : {F : Type 0} → Telling F → Leaving F → (sender : ℕ) → Course → (start : F) → Option (List ℕ) → Type 0
LeavesIn seen may_leave sender c start kept =
    (may_leave start kept ⊎ (kept ≡ None)) ⊎ IsSeen (λ s. HadWhole sender c kept) (seen start)

-- A moment of a session's run, after the beginning of its course: just what this says has been passed on or left; later only more
-- is; a crash leaves of the job in hand the whole or none, or what it might have left at the start, at this moment and at each one
-- since then; and of each job that was passed on or left no less than then.
pub record IsMoment {F : Type 0} (seen : Telling F) (may_leave : Leaving F) (moment : F → ℕ)
    (left_since : F → ℕ → Option (List ℕ) → Type 0) (may_lack : F → List ℕ → Type 0) (sender : ℕ) (c : Course) (start at end : F)
    : Type 0 where
  pub passes : PassesAll sender c (seen start) (seen at)
  pub more : Grew (seen at) (seen end)
  pub leaves :
      (kept : Option (List ℕ)) → may_leave at kept → LeavesIn seen may_leave sender c start kept
  pub since : GoesOn moment left_since may_lack start at (LeavesIn seen may_leave sender c start)
  pub later : moment at ≤ moment end

module _ {Q : Type 0} (carries : Carrying Q) (sender : ℕ) where
  -- what the request that was due asked of the spool below
  abbrev pub AsksDue : Due → (job : ℕ) → Answer → (old new : Q) → Type 0
  AsksDue (Requests r items text) job answer old new = Asks carries old sender job r answer new
  AsksDue due job answer old new = ⊥

  -- so was all that a course asks
  abbrev pub AsksAll : Course → (old new : Q) → Type 0
  AsksAll [] old new = new ≡ old
  AsksAll (Did (deed.Asked asked answer) ∷ c) old new =
      (before : Q) × AsksAll c old before
      × AsksDue (due_in (session_after sender c)) (session_after sender c).job answer before new
  AsksAll (move ∷ c) old new = AsksAll c old new

-- a session was served and ended so; what it wrote and read is as of any session
pub record ServedKept {Q F : Type 0} (carries : Carrying Q) (leaves : Ending Q) (seen : Telling F) (may_leave : Leaving F)
    (moment : F → ℕ) (left_since : F → ℕ → Option (List ℕ) → Type 0) (may_lack : F → List ℕ → Type 0) (end : SessionEnd) (sender : ℕ) (before after : Around (Keeping Q F)) : Type 0 where
  pub course : Course
  pub ends : served.Ends end sender course before.writer after.writer
  pub read : HasRead end (session_after sender course).arrived before.reader after.reader
  pub asked : Keeping Q F
  pub below : AsksAll carries sender course before.spool.inner asked.inner
  pub passes : PassesAll sender course (seen before.spool.hand.folder) (seen asked.hand.folder)
  pub moments :
      (later c : Course) → course ≡ later ++ c →
      (at : F) × IsMoment seen may_leave moment left_since may_lack sender c before.spool.hand.folder at asked.hand.folder
  pub run : GoesOn moment left_since may_lack before.spool.hand.folder asked.hand.folder (LeavesIn seen may_leave sender course before.spool.hand.folder)
  pub aborts :
      AtEnd (Ends leaves seen may_leave moment left_since may_lack) (session_after sender course).progress.job (session_after sender course).job asked after.spool
