-- What serving a session comes to.
use Rattle.std.specs.Prelude.{◌≡◌, ◌⊎◌, ◌≤◌, ◌++◌, ℕ, true, List, [], ◌∷◌, Option, length}
use Rattle.lpd_commands.specs.Ends.{IsReadOut, Took, Writes, WritesSome, many_more, most_reads, one_more}
use Rattle.receiver.specs.Script.{Output}
use Rattle.receiver.specs.Idle.{IsIdle}
use Rattle.receiver.specs.Reading.{Waits, start}
use Rattle.receiver.specs.Reads.{ReadsFrom}
use Rattle.spool_trace.specs.declared.reply.Deed.TheVariants as deed
use Rattle.spool_trace.specs.Trace.{written_by}
use Rattle.spool_trace.specs.Sessions.{Session, due_in}
use Rattle.request_session.specs.declared.ending.SessionEnd.{SessionEnd}
use Rattle.request_session.specs.declared.ending.SessionEnd.TheVariants as ends
use Rattle.request_session.specs.Course.{Course, Did, EndsBy, IsRight, session_after}
use Rattle.request_session.specs.Carried.{AtEnd, CarriesAll, Carrying, Ending}

-- what a reader tells: the octets that are left of it, if it tells them, how often it failed, and how often
-- it was read
pub record Source : Type 0 where
  pub octets : Option (List ℕ)
  pub faults : ℕ
  pub reads : ℕ

abbrev pub source : Option (List ℕ) → (faults reads : ℕ) → Source
source octets faults reads = record { octets = octets; faults = faults; reads = reads }

-- what a writer tells: the octets that were written to it, if it tells them, and how often it failed
pub record Side : Type 0 where
  pub octets : Option (List ℕ)
  pub faults : ℕ

abbrev pub side : Option (List ℕ) → ℕ → Side
side octets faults = record { octets = octets; faults = faults }

-- what stands round a session at a moment: its reader, its writer, and what carries its requests out
pub record Around (S : Type 0) : Type 0 where
  pub reader : Source
  pub writer : Side
  pub spool : S

abbrev pub around : {S : Type 0} → Source → Side → S → Around S
around reader writer spool = record { reader = reader; writer = writer; spool = spool }

-- no job is in hand, and no octet of a line was read
abbrev pub EndsIdle : Session → Type 0
EndsIdle s = IsIdle (record s.progress { tail = s.unread })

-- more octets have to come before anything is due
abbrev pub Awaits : Session → Type 0
Awaits s = due_in s ≡ Waits

-- where a course ends so
abbrev pub EndsAs : SessionEnd → (sender : ℕ) → Course → Type 0
EndsAs ends.Finished sender c = EndsBy deed.Ended c
EndsAs ends.Closed sender c = Awaits (session_after sender c) × EndsIdle (session_after sender c)
EndsAs ends.Broken sender c = Awaits (session_after sender c) × (EndsIdle (session_after sender c) → ⊥)
EndsAs (ends.Refused n) sender c = EndsBy (deed.Refused n) c
EndsAs ends.ReadFault sender c = Awaits (session_after sender c)
EndsAs ends.WriteFault sender c = Unit {0}
EndsAs ends.Memory sender c = c ≡ []

-- how its reading stops after so many reads, by what the reader told before and after them. A session that made as
-- many reads as it makes at most ends with ReadFault too; each of them gave an octet.
abbrev pub StopsAs : SessionEnd → (arrived : List ℕ) → (reads : ℕ) → (before after : Source) → Type 0
StopsAs ends.Closed arrived reads before after = IsReadOut after.octets × (after.faults ≡ before.faults)
StopsAs ends.Broken arrived reads before after = IsReadOut after.octets × (after.faults ≡ before.faults)
StopsAs ends.ReadFault arrived reads before after =
    (after.faults ≡ one_more before.faults)
    ⊎ ((after.faults ≡ before.faults) × (reads ≡ most_reads) × (most_reads ≤ length arrived))
StopsAs end arrived reads before after = after.faults ≡ before.faults

-- these octets were written
abbrev pub WritesAll : List ℕ → (before after : Side) → Type 0
WritesAll octets before after =
    Writes before.octets after.octets octets × (after.faults ≡ before.faults)

-- the writer failed after a head of them
abbrev pub FailsIn : List ℕ → (before after : Side) → Type 0
FailsIn octets before after =
    WritesSome before.octets after.octets octets × (after.faults ≡ one_more before.faults)

-- the writer failed in what was due for the last thing that the session did, after all that was due before
abbrev pub BreaksOff : (sender : ℕ) → Course → (before after : Side) → Type 0
BreaksOff sender (Did done ∷ c) before after =
    (between : Side) × WritesAll (session_after sender c).written before between
    × FailsIn (written_by done) between after
BreaksOff sender c before after = ⊥

-- what a session that ended so wrote: all that was due, but where the writer failed
abbrev pub Wrote : SessionEnd → (sender : ℕ) → Course → (before after : Side) → Type 0
Wrote ends.WriteFault sender c before after = BreaksOff sender c before after
Wrote end sender c before after = WritesAll (session_after sender c).written before after

-- what a session that ended so did is all that the octets and the answers decide; a beginning of it,
-- where the writer failed
abbrev pub DidAll : SessionEnd → Session → Type 0
DidAll ends.WriteFault s =
    (more : List Output) × ReadsFrom true (s.outputs ++ more) start s.arrived s.answers
DidAll end s = ReadsFrom true s.outputs start s.arrived s.answers

-- a session of this course ended so, by what its writer told before and after it
pub record Ends (end : SessionEnd) (sender : ℕ) (c : Course) (before after : Side) : Type 0 where
  -- each thing that it did was due then
  pub right : IsRight sender c
  pub did : DidAll end (session_after sender c)
  pub wrote : Wrote end sender c before after
  pub ended : EndsAs end sender c

-- a session that ended so read these octets, by what its reader told before and after it
pub record HasRead (end : SessionEnd) (arrived : List ℕ) (before after : Source) : Type 0 where
  pub took : Took before.octets after.octets arrived
  -- how many reads it made
  pub reads : ℕ
  pub made : after.reads ≡ many_more reads before.reads
  pub most : reads ≤ most_reads
  pub stopped : StopsAs end arrived reads before after

-- a session was served and ended so; its requests were carried out one after another, and then its end
pub record ServedBy {S : Type 0} (carries : Carrying S) (leaves : Ending S) (end : SessionEnd) (sender : ℕ)
    (before after : Around S) : Type 0 where
  pub course : Course
  pub ends : Ends end sender course before.writer after.writer
  pub read : HasRead end (session_after sender course).arrived before.reader after.reader
  pub asked : S
  pub carried : CarriesAll carries sender course before.spool asked
  pub aborts :
      AtEnd leaves (session_after sender course).progress.job (session_after sender course).job asked after.spool
