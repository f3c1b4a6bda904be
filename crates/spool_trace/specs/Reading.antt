-- What the sessions of a trace did is a reading of what arrived, and what a reader of octets does is what is due.
use Rattle.std.specs.Prelude.{◌≡◌, ℕ, true, List, [], ◌∷◌, ◌++◌, None, drop}
use Rattle.config_values.specs.Config.{Config}
use Rattle.receiver.specs.Script.{Wrote, Asked}
use Rattle.receiver.specs.Reading.{Progress, Due, Waits, Ends, Writes, Requests, due, start, answered, kind_of}
use Rattle.receiver.specs.View.{Gives, outputs}
use Rattle.receiver.specs.declared.need.Need.{Need}
use Rattle.receiver.specs.declared.need.Need.TheVariants as need
use Rattle.receiver.specs.Reads.{Rests, ReadsFrom}
use Rattle.receiver.specs.Leads.{Leads}
use Rattle.spool_requests.specs.declared.answer.Answer.{Answer}
use Rattle.spool_trace.specs.declared.step.Step.{Step}
use Rattle.spool_trace.specs.declared.reply.Reply.TheVariants.{Memory}
use Rattle.spool_trace.specs.Trace.{Entry, Trace}
use Rattle.spool_trace.specs.Sessions.{Session, session_at, sessions, due_in, takes, reply_of, goes_on, asks}
use Rattle.spool_trace.specs.Shown.{events}
use Rattle.spool_trace.specs.Replies.{IsTrace}

-- no answer is owed, and all that arrived and all answers gave what the session did, and lead to where it is
pub record IsRead (s : Session) : Type 0 where
  pub owed : s.progress.owed ≡ None
  pub tail : s.progress.tail ≡ []
  pub leads : Leads s.outputs s.arrived s.answers s.progress s.unread

-- so it is of every session of a right trace
abbrev pub SessionsAreRead : Type 0
SessionsAreRead = (c : Config) (t : Trace) → IsTrace c t → (n : ℕ) → IsRead (session_at (sessions t) n)

-- where nothing is due to a session, what it did is the reading of all that arrived and was answered
abbrev pub OutputsAreReading : Type 0
OutputsAreReading =
    (c : Config) (t : Trace) → IsTrace c t → (n : ℕ) → Rests (due_in (session_at (sessions t) n))
    → ReadsFrom true (session_at (sessions t) n).outputs start (session_at (sessions t) n).arrived (session_at (sessions t) n).answers

abbrev pub refused_memory : Step → Entry
refused_memory step = record { step = step; reply = Memory }

-- a step that was answered Memory changes nothing
abbrev pub MemoryChangesNothing : Type 0
MemoryChangesNothing =
    (c : Config) (t : Trace) (step : Step) →
    (sessions (refused_memory step ∷ t) ≡ sessions t) × (events c (refused_memory step ∷ t) ≡ events c t)

-- a reader that is so far, with these octets waiting, is where the session is
pub record Stands (p : Progress) (waiting : List ℕ) (s : Session) : Type 0 where
  pub owed : p.owed ≡ None
  pub progress : record p { tail = [] } ≡ s.progress
  pub unread : p.tail ++ waiting ≡ s.unread

-- what a call of the reader needs is what is due, and it stands where the turn leads; after a request, where its answer
-- leads
abbrev pub Follows : Due → Progress → List ℕ → Need → Session → Type 0
Follows Waits new left want s = (want ≡ need.More) × Stands new left s
Follows Ends new left want s = (want ≡ need.Ended) × Stands new left s
Follows (Writes w items text) new left want s = (outputs want ≡ Wrote w ∷ []) × Stands new left (goes_on items text s)
Follows (Requests r items text) new left want s =
    (outputs want ≡ Asked r ∷ []) × ((answer : Answer) → Stands (answered (kind_of r) (reply_of answer) new) left (asks r answer (goes_on items text s)))

-- what is due to a reader is what is due to its session
abbrev pub ReaderIsAtDue : Type 0
ReaderIsAtDue = (p : Progress) (waiting : List ℕ) (s : Session) → Stands p waiting s → due p (p.tail ++ waiting) ≡ due_in s

-- the reader goes on, where memory is not refused to it
abbrev pub AdvanceFollows : Type 0
AdvanceFollows =
    (p new : Progress) (waiting : List ℕ) (n : ℕ) (want : Need) (s : Session) →
    Stands p waiting s → Gives p waiting n want new (due p (p.tail ++ waiting)) → Follows (due_in s) new (drop n waiting) want s

-- octets that arrive are waiting
abbrev pub ArrivalFollows : Type 0
ArrivalFollows = (p : Progress) (waiting octets : List ℕ) (s : Session) → Stands p waiting s → Stands p (waiting ++ octets) (takes octets s)

-- what is unread is the end of what arrived
abbrev pub UnreadIsTheEnd : Type 0
UnreadIsTheEnd =
    (t : Trace) (n : ℕ) → (read : List ℕ) × ((session_at (sessions t) n).arrived ≡ read ++ (session_at (sessions t) n).unread)
