-- A session on its way.
use Rattle.std.specs.Prelude.{◌≡◌, ◌⊎◌, ℕ, List, [], ◌∷◌, Option, None, Some, IsSome, Result, Ok, Err}
use Rattle.lpd_commands.specs.declared.ends.OctetFault.{OctetFault}
use Rattle.receiver.specs.Reading.{Progress, after_reply}
use Rattle.lpd_values.specs.declared.refusal.Refusal.{Refusal}
use Rattle.lpd_values.specs.Refusals.{octet_of}
use Rattle.receiver.specs.Idle.{IsIdle}
use Rattle.receiver.specs.Script.{Asked, Over, Request}
use Rattle.receiver.specs.View.{asked, outputs}
use Rattle.receiver.specs.declared.need.Need.{Need}
use Rattle.spool_requests.specs.declared.answer.Answer.{Answer}
use Rattle.spool_trace.specs.declared.reply.Deed.TheVariants as deed
use Rattle.spool_trace.specs.Sessions.{Session, due_in, job_after, reply_of}
use Rattle.spool_trace.specs.Reading.{Stands}
use Rattle.request_session.specs.declared.ending.SessionEnd.{SessionEnd}
use Rattle.request_session.specs.declared.ending.SessionEnd.TheVariants as ends
use Rattle.request_session.specs.declared.talk.Talk.{Talk}
use Rattle.request_session.specs.declared.talk.Turn.{Turn}
use Rattle.request_session.specs.declared.talk.Turn.TheVariants as turn
use Rattle.request_session.specs.Course.{Course, Did, IsDue, IsRight, session_after}
use Rattle.request_session.specs.Carried.{CarriesAll, Carrying}
use Rattle.request_session.specs.Served.{Awaits, Ends, FailsIn, Side, Source, StopsAs, WritesAll}

-- a session, and what carries its requests out
pub record Here (S : Type 0) : Type 0 where
  pub talk : Talk
  pub spool : S

abbrev pub here : {S : Type 0} → Talk → S → Here S
here talk spool = record { talk = talk; spool = spool }

-- a request was carried out, and its answer given to the receiver
pub record Answered {S : Type 0} (carries : Carrying S) (want : Need) (answer : Answer) (before after : Here S)
    : Type 0 where
  pub asks : IsSome (asked want)
  pub carried :
      (r : Request) → outputs want ≡ Asked r ∷ [] →
      carries before.spool before.talk.sender before.talk.job r answer after.spool
  pub leads : after.talk.receiver ≡ after_reply before.talk.receiver (reply_of answer)
  pub nothing : after.talk.receiver.owed ≡ None
  pub sender : after.talk.sender ≡ before.talk.sender
  pub job : after.talk.job ≡ job_after before.talk.job answer

-- a session at a moment: itself, the octets that it has read and that wait, what carries its requests out,
-- and its writer
pub record Moment (S : Type 0) : Type 0 where
  pub talk : Talk
  pub waiting : List ℕ
  pub spool : S
  pub writer : Side

abbrev pub moment : {S : Type 0} → Talk → List ℕ → S → Side → Moment S
moment talk waiting spool writer = record { talk = talk; waiting = waiting; spool = spool; writer = writer }

-- the same with no octets waiting
abbrev pub spent : {S : Type 0} → Moment S → Moment S
spent m = record m { waiting = [] }

-- where a course leads a session from its first moment
abbrev pub session_from : {S : Type 0} → (first : Moment S) → Course → Session
session_from first c = session_after first.talk.sender c

-- a session did all this, and its writer did not fail
pub record HasDone {S : Type 0} (carries : Carrying S) (c : Course) (first now : Moment S) : Type 0 where
  pub right : IsRight first.talk.sender c
  pub wrote : WritesAll (session_from first c).written first.writer now.writer
  pub carried : CarriesAll carries first.talk.sender c first.spool now.spool
  pub sender : now.talk.sender ≡ first.talk.sender
  pub job : now.talk.job ≡ (session_from first c).job

-- it goes on: its receiver stands where its course leads
pub record GoesOn {S : Type 0} (carries : Carrying S) (c : Course) (first now : Moment S) : Type 0 where
  pub done : HasDone carries c first now
  pub stands : Stands now.talk.receiver now.waiting (session_from first c)

-- it is over, but for its job in hand, which its receiver tells
pub record IsOver {S : Type 0} (carries : Carrying S) (end : SessionEnd) (c : Course) (first now : Moment S)
    : Type 0 where
  pub ends : Ends end first.talk.sender c first.writer now.writer
  pub carried : CarriesAll carries first.talk.sender c first.spool now.spool
  pub job : now.talk.job ≡ (session_from first c).job
  pub in_hand : now.talk.receiver.job ≡ (session_from first c).progress.job

-- it is over by a refusal, whose octet is still to be written
pub record IsRefused {S : Type 0} (carries : Carrying S) (n : Refusal) (c : Course) (first now : Moment S)
    : Type 0 where
  pub done : HasDone carries c first now
  pub due : IsDue (due_in (session_from first c)) (deed.Refused n)
  pub over : (session_from first (Did (deed.Refused n) ∷ c)).progress.items ≡ Over ∷ []
  pub in_hand : now.talk.receiver.job ≡ (session_from first (Did (deed.Refused n) ∷ c)).progress.job

-- it is over, but for its job in hand and the octet of a refusal
abbrev pub IsEnding : {S : Type 0} → Carrying S → SessionEnd → Course → (first now : Moment S) → Type 0
IsEnding carries (ends.Refused n) c first now = IsRefused carries n c first now
IsEnding carries end c first now = IsOver carries end c first now

-- an end that needs nothing of the reader but that it did not fail
abbrev pub IsOwnEnd : SessionEnd → Type 0
IsOwnEnd end =
    (arrived : List ℕ) (reads : ℕ) (before after : Source) → after.faults ≡ before.faults →
    StopsAs end arrived reads before after

-- what a turn comes to
abbrev pub Turns : {S : Type 0} → Carrying S → Turn → Course → (first now : Moment S) → Type 0
Turns carries turn.On c first now = GoesOn carries c first now
Turns carries turn.More c first now = GoesOn carries c first (spent now) × Awaits (session_from first c)
Turns carries (turn.Over end) c first now = IsEnding carries end c first (spent now) × IsOwnEnd end

-- from wherever the session was it came here, and no more octets were read
abbrev pub TurnsFrom : {S : Type 0} → Carrying S → Turn → (before after : Moment S) → Type 0
TurnsFrom {S} carries t before after =
    (c : Course) (first : Moment S) → GoesOn carries c first before →
    (c' : Course) × ((session_from first c').arrived ≡ (session_from first c).arrived)
    × Turns carries t c' first after

-- the end of a session as a turn
abbrev pub turn_of : Option SessionEnd → Turn
turn_of None = turn.More
turn_of (Some end) = turn.Over end

-- these octets were written, or the writer failed
abbrev pub Writing : Result (Unit {0}) OctetFault → List ℕ → (before after : Side) → Type 0
Writing (Ok done) octets before after = WritesAll octets before after
Writing (Err fault) octets before after = FailsIn octets before after

-- the turn where octets were written, and else an end
abbrev pub turn_if_written : Result (Unit {0}) OctetFault → Turn → Turn
turn_if_written (Ok done) t = t
turn_if_written (Err fault) t = turn.Over ends.WriteFault

-- the end of a session whose peer ends the connection when its receiver is so far
abbrev pub EndsThere : SessionEnd → Progress → Type 0
EndsThere ends.Closed p = IsIdle p
EndsThere ends.Broken p = IsIdle p → ⊥
EndsThere end p = ⊥

-- the octet of the refusal that ended a session was written, or the writer failed; after any other end
-- nothing was written
abbrev pub SaysLast : (end said : SessionEnd) → (before after : Side) → Type 0
SaysLast (ends.Refused n) said before after =
    ((said ≡ ends.Refused n) × WritesAll (octet_of n ∷ []) before after)
    ⊎ ((said ≡ ends.WriteFault) × FailsIn (octet_of n ∷ []) before after)
SaysLast end said before after = (said ≡ end) × (after ≡ before)
