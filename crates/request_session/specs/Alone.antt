-- A session whose requests a core carries out that it has alone: how the core's history grows.
use Rattle.std.specs.Prelude.{◌≡◌, ◌⊎◌, ℕ, Bool, true, List, [], ◌∷◌, None, Option}
use Rattle.config_values.specs.Config.{Config}
use Rattle.config_values.specs.Ranges.{IsConfig}
use Rattle.receiver.specs.Reading.{Due, Requests}
use Rattle.spool_history.specs.Base.{Base}
use Rattle.spool_history.specs.Events.{Event}
use Rattle.spool_history.specs.Events.Act.{Aborted}
use Rattle.spool_history.specs.Events.Event.{OfJob}
use Rattle.spool_history.specs.Now.{State, now}
use Rattle.spool_calls.specs.Looks.{Detail, What}
use Rattle.spool_calls.specs.Kept.{Kept, Leaves}
use Rattle.spool_calls.specs.Calls.{IsRight}
use Rattle.spool_requests.specs.declared.answer.Answer.{Answer}
use Rattle.spool_requests.specs.Due.{IsAnswer}
use Rattle.spool_requests.specs.Shows.{event_of, with_event}
use Rattle.spool_trace.specs.declared.reply.Deed.TheVariants as deed
use Rattle.spool_trace.specs.Sessions.{due_in}
use Rattle.request_session.specs.declared.ending.SessionEnd.{SessionEnd}
use Rattle.request_session.specs.Course.{Course, Did, session_after}
use Rattle.request_session.specs.Served.{Around, Ends, HasRead}

-- the event, if any, that the request which was due shows with its answer, where a history left the spool so
abbrev pub event_due : (d : Detail) → State (What d) → (sender job : ℕ) → Due → Answer → Option (Event (What d))
event_due d v sender job (Requests r items text) answer = event_of d v sender job r answer
event_due d v sender job due answer = None

-- the answer was due to the request that was
abbrev pub IsAnswered : (d : Detail) → State (What d) → (sender job : ℕ) → Due → Answer → Type 0
IsAnswered d v sender job (Requests r items text) answer = IsAnswer d v sender job r answer
IsAnswered d v sender job due answer = ⊥

module _ (d : Detail) (config : Config) (b : Base) (sender : ℕ) where
  -- how a history has grown by what a session did
  abbrev pub grown : Course → List (Event (What d)) → List (Event (What d))
  grown [] h = h
  grown (Did (deed.Asked asked answer) ∷ c) h =
      with_event
      (event_due d (now config b (grown c h)) sender (session_after sender c).job (due_in (session_after sender c)) answer)
      (grown c h)
  grown (move ∷ c) h = grown c h

  -- each request was answered so, after what the session had done before
  abbrev pub AllAnswered : Course → List (Event (What d)) → Type 0
  AllAnswered [] h = Unit {0}
  AllAnswered (Did (deed.Asked asked answer) ∷ c) h =
      AllAnswered c h
      × IsAnswered d (now config b (grown c h)) sender (session_after sender c).job (due_in (session_after sender c)) answer
  AllAnswered (move ∷ c) h = AllAnswered c h

-- the history leaves the core here, with one more event, where the job in hand was aborted at the end
abbrev pub LeavesEnded : (d : Detail) → Base → (in_hand : Bool) → (job : ℕ) → List (Event (What d)) → Kept → Type 0
LeavesEnded d b in_hand job h k = Leaves d b h k ⊎ ((in_hand ≡ true) × Leaves d b (OfJob job Aborted ∷ h) k)

-- after this history each request of the course got the answer that was due, and the history grew by what the requests and
-- the end of the session show
pub record Grows (d : Detail) (b : Base) (h : List (Event (What d))) (sender : ℕ) (c : Course) (old new : Kept)
    : Type 0 where
  pub answers : AllAnswered d old.config b sender c h
  pub leaves :
      LeavesEnded d b (session_after sender c).progress.job (session_after sender c).job (grown d old.config b sender c h) new

-- a session was served by a core and ended so, and no one else called the core meanwhile
pub record ServedAlone (end : SessionEnd) (sender : ℕ) (before after : Around Kept) : Type 0 where
  pub course : Course
  pub ends : Ends end sender course before.writer after.writer
  pub read : HasRead end (session_after sender course).arrived before.reader after.reader
  pub config : after.spool.config ≡ before.spool.config
  pub grows :
      IsConfig before.spool.config → IsRight before.spool (λ d b h. Grows d b h sender course before.spool after.spool)
