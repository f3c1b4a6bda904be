-- What a reader needs is what is due to its session, and where the session's turn leaves it there the reader stands.
use Rattle.std.specs.Prelude.{◌≡◌, ℕ, List, [], ◌∷◌, ◌++◌, drop}
use Rattle.lpd_values.specs.declared.refusal.Refusal.{Refusal}
use Rattle.receiver.specs.Script.{Request, Item, Ack, Fault, Asked}
use Rattle.receiver.specs.Reading.{Progress, Waits, Ends, Writes, Requests, due, answered, kind_of}
use Rattle.receiver.specs.Reads.{TakesMemory}
use Rattle.receiver.specs.View.{Gives, RunsOut, outputs}
use Rattle.receiver.specs.declared.need.Need.{Need}
use Rattle.receiver.specs.declared.need.Need.TheVariants as need
use Rattle.spool_requests.specs.declared.answer.Answer.{Answer}
use Rattle.spool_requests.specs.Kinds.{request_kind}
use Rattle.spool_trace.specs.declared.reply.Deed.TheVariants as deed
use Rattle.spool_trace.specs.Sessions.{Session, due_in, reply_of, turns}
use Rattle.spool_trace.specs.Reading.{Stands}

-- a reader stood where its session does, and a call of it consumed n octets for this need
pub record Advanced (p new : Progress) (waiting : List ℕ) (n : ℕ) (want : Need) (s : Session) : Type 0 where
  pub stood : Stands p waiting s
  pub gives : Gives p waiting n want new (due p (p.tail ++ waiting))

abbrev pub WhenAdvanced : ((new : Progress) (left : List ℕ) (want : Need) (s : Session) → Type 0) → Type 0
WhenAdvanced P =
    (p new : Progress) (waiting : List ℕ) (n : ℕ) (want : Need) (s : Session) → Advanced p new waiting n want s → P new (drop n waiting) want s

-- it asks: that request is due, and after an answer it stands where the turn with that answer leads
abbrev pub AskIsDue : Type 0
AskIsDue = WhenAdvanced (λ new left want s.
    (r : Request) → outputs want ≡ Asked r ∷ [] → (items : List Item) × (text : List ℕ) × (due_in s ≡ Requests r items text)
    × ((answer : Answer) → Stands (answered (kind_of r) (reply_of answer) new) left (turns (deed.Asked (request_kind r) answer) s)))

-- it acknowledges
abbrev pub AckIsDue : Type 0
AckIsDue = WhenAdvanced (λ new left want s.
    want ≡ need.Ack → (items : List Item) × (text : List ℕ) × (due_in s ≡ Writes Ack items text) × Stands new left (turns deed.Acked s))

-- it waits for more
abbrev pub MoreIsDue : Type 0
MoreIsDue = WhenAdvanced (λ new left want s. want ≡ need.More → (due_in s ≡ Waits) × Stands new left (turns deed.Waited s))

-- it refuses, and the session is over
abbrev pub RefusalIsDue : Type 0
RefusalIsDue = WhenAdvanced (λ new left want s.
    (refusal : Refusal) → want ≡ need.Fault refusal → (items : List Item) × (text : List ℕ) × (due_in s ≡ Writes (Fault refusal) items text))

-- it had read all
abbrev pub EndIsDue : Type 0
EndIsDue = WhenAdvanced (λ new left want s. want ≡ need.Ended → due_in s ≡ Ends)

-- memory was refused to it: a request is due that takes memory to be read
abbrev pub ShortIsDue : Type 0
ShortIsDue =
    (p new : Progress) (waiting : List ℕ) (n : ℕ) (want : Need) (s : Session) → Stands p waiting s
    → RunsOut p waiting n want new (due p (p.tail ++ waiting))
    → (r : Request) × (items : List Item) × (text : List ℕ) × (due_in s ≡ Requests r items text) × TakesMemory (Requests r items text)
