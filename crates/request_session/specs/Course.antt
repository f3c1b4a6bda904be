-- What happens to a session, and where that leaves it.
use Rattle.std.specs.Prelude.{◌≡◌, ℕ, List, [], ◌∷◌}
use Rattle.lpd_values.specs.declared.refusal.Refusal.TheVariants.{Memory}
use Rattle.receiver.specs.Script.{Ack, Fault}
use Rattle.receiver.specs.Reading.{Due, Ends, Writes, Requests}
use Rattle.receiver.specs.Reads.{TakesMemory}
use Rattle.spool_requests.specs.Kinds.{request_kind}
use Rattle.spool_trace.specs.declared.reply.Deed.{Deed}
use Rattle.spool_trace.specs.declared.reply.Deed.TheVariants as deed
use Rattle.spool_trace.specs.Sessions.{Session, due_in, new_session, takes, turns}

-- octets were read, or the session did something
pub data Move : Type 0 where
  Came : List ℕ → Move
  Did : Deed → Move

-- all that happened to a session, the newest first
abbrev pub Course : Type 0
Course = List Move

-- where a course leaves a session: what was read, what it did, was answered and wrote, and how far that
-- is read
abbrev pub session_after : (sender : ℕ) → Course → Session
session_after sender [] = new_session sender
session_after sender (Came octets ∷ c) = takes octets (session_after sender c)
session_after sender (Did done ∷ c) = turns done (session_after sender c)

-- it did what was due; where a request that takes memory to be read was due, memory may be refused
abbrev pub IsDue : Due → Deed → Type 0
IsDue Ends deed.Ended = Unit {0}
IsDue (Writes Ack items text) deed.Acked = Unit {0}
IsDue (Writes (Fault m) items text) (deed.Refused n) = n ≡ m
IsDue (Requests r items text) (deed.Asked kind answer) = kind ≡ request_kind r
IsDue (Requests r items text) (deed.Refused n) = (n ≡ Memory) × TakesMemory (Requests r items text)
IsDue due done = ⊥

-- each thing that it did was due then
abbrev pub IsRight : (sender : ℕ) → Course → Type 0
IsRight sender [] = Unit {0}
IsRight sender (Came octets ∷ c) = IsRight sender c
IsRight sender (Did done ∷ c) = IsDue (due_in (session_after sender c)) done × IsRight sender c

-- the last thing that happened is that it did this
abbrev pub EndsBy : Deed → Course → Type 0
EndsBy done (Did last ∷ c) = last ≡ done
EndsBy done c = ⊥
