-- What a receiver's needs and answers mean, and what one call does.
use Rattle.std.specs.Prelude.{◌≡◌, ℕ, Bool, true, false, List, [], ◌∷◌, ◌++◌, ◌≤◌, ◌<◌, Option, Some, None, length, drop, ◌⊎◌}
use Rattle.lpd_values.specs.declared.refusal.Refusal.TheVariants.{Memory}
use Rattle.control_file.specs.View.{contents}
use Rattle.page_pool.specs.Page.{Page}
use Rattle.receiver.specs.Script.{Queue, Open, BeginFile, AskPage, Filled, EndFile, Control, AbortJob, StartPrinters, QueueState, RemoveJobs, Ack, Fault, Output, Wrote, Asked, Reply, Yes, Ticket, Later, Stored, Received, Refused, Item, PageOctets, Over}
use Rattle.receiver.specs.Reading.{Progress, Kind, Admission, Opening, Lending, Ending, Aborting, Plain, kind_of, Due, Waits, Ends, Writes, Requests, due, due_at}
use Rattle.receiver.specs.Reads.{ReadsFrom, TakesMemory}
use Rattle.receiver.specs.declared.need.Need.{Need}
use Rattle.receiver.specs.declared.need.Need.TheVariants as need
use Rattle.receiver.specs.declared.need.Answer.{Answer}
use Rattle.receiver.specs.declared.need.Answer.TheVariants as answer

-- what a need writes or asks
abbrev pub outputs : Need → List Output
outputs need.More = []
outputs need.Ack = Wrote Ack ∷ []
outputs (need.Queue queue) = Asked (Queue queue) ∷ []
outputs (need.Open queue) = Asked (Open queue) ∷ []
outputs (need.BeginFile name count) = Asked (BeginFile name count) ∷ []
outputs need.Page = Asked AskPage ∷ []
outputs (need.Filled page) = Asked (Filled page) ∷ []
outputs need.EndFile = Asked EndFile ∷ []
outputs (need.Control control) = Asked (Control (contents control)) ∷ []
outputs need.Abort = Asked AbortJob ∷ []
outputs (need.Start queue) = Asked (StartPrinters queue) ∷ []
outputs (need.State queue list long) = Asked (QueueState queue list long) ∷ []
outputs (need.Remove queue agent list) = Asked (RemoveJobs queue agent list) ∷ []
outputs (need.Fault refusal) = Wrote (Fault refusal) ∷ []
outputs need.Ended = []

abbrev pub reply_of : Answer → Reply
reply_of answer.Yes = Yes
reply_of (answer.Ticket ticket) = Ticket ticket.page_size
reply_of answer.Later = Later
reply_of answer.Stored = Stored
reply_of answer.Received = Received
reply_of (answer.Refused refusal) = Refused refusal

-- a ticket that is given is empty
abbrev pub IsEmptyTicket : Answer → Type 0
IsEmptyTicket (answer.Ticket ticket) = ticket.octets ≡ []
IsEmptyTicket _ = Unit {0}

-- Where this is due, n octets of the input are consumed for this need, and new is left.
abbrev pub Gives : Progress → List ℕ → ℕ → Need → Progress → Due → Type 0
Gives old input n want new Waits =
    (want ≡ need.More) × (n ≡ length input) × (new ≡ record old { tail = old.tail ++ input })
Gives old input n want new Ends = (want ≡ need.Ended) × (n ≡ 0) × (new ≡ old)
Gives old input n want new (Writes w items rest) =
    (outputs want ≡ Wrote w ∷ []) × (n ≤ length input) × (drop n input ≡ rest)
    × (new ≡ record old { items = items; tail = [] })
Gives old input n want new (Requests r items rest) =
    (outputs want ≡ Asked r ∷ []) × (n ≤ length input) × (drop n input ≡ rest)
    × (new ≡ record old { items = items; owed = Some (kind_of r); tail = [] })

-- memory was refused for a line or a control text that has ended
pub record RunsOut (old : Progress) (input : List ℕ) (n : ℕ) (want : Need) (new : Progress)
    (due : Due) : Type 0 where
  pub memory : want ≡ need.Fault Memory
  pub come : TakesMemory due
  pub within : n ≤ length input
  pub over : new ≡ record old { items = Over ∷ []; tail = [] }

-- what one call consumes, needs and leaves where this is due
abbrev pub StepsAt : Progress → List ℕ → ℕ → Need → Progress → Due → Type 0
StepsAt old input n want new due = Gives old input n want new due ⊎ RunsOut old input n want new due

-- what one call consumes, needs and leaves: exactly what is due
abbrev pub Steps : Progress → List ℕ → ℕ → Need → Progress → Type 0
Steps old input n want new = StepsAt old input n want new (due old (old.tail ++ input))

-- A line that has ended, which these items follow, leads to this need and this state, whatever input it ended in.
abbrev pub EndsLine : Progress → List Item → Need → Progress → Type 0
EndsLine old items want new =
    (tail input : List ℕ) (n : ℕ) → n ≤ length input →
    StepsAt (record old { tail = tail }) input n want new (due_at (λ _. Waits) items (drop n input))

-- the kind of request that a need is
abbrev pub asked : Need → Option Kind
asked (need.Queue queue) = Some (Admission queue)
asked (need.Open queue) = Some Opening
asked (need.BeginFile name count) = Some Plain
asked need.Page = Some Lending
asked (need.Filled page) = Some Plain
asked need.EndFile = Some Ending
asked (need.Control control) = Some Ending
asked need.Abort = Some Aborting
asked (need.Start queue) = Some Plain
asked (need.State queue list long) = Some Plain
asked (need.Remove queue agent list) = Some Plain
asked _ = None

abbrev pub is_last : Need → Bool
is_last (need.Fault refusal) = true
is_last need.Ended = true
is_last _ = false

-- a data file that is to begin has octets
abbrev pub BeginsSome : Need → Type 0
BeginsSome (need.BeginFile name count) = 0 < count
BeginsSome _ = Unit {0}

-- a request waits for its answer, a data file that is to begin has octets, and after the last need nothing is read
pub record Leaves (want : Need) (new : Progress) : Type 0 where
  pub owed : new.owed ≡ asked want
  pub begins : BeginsSome want
  pub over : is_last want ≡ true → new.items ≡ Over ∷ []

-- Nothing is due after a need, until an octet or an answer comes.
abbrev pub Rested : Need → ℕ → List ℕ → Progress → Type 0
Rested need.More n input new = (n ≡ length input) × ((a : List Reply) → ReadsFrom true [] new [] a)
Rested need.Ack n input new = Unit {0}
Rested (need.Fault refusal) n input new = (t : List ℕ) (a : List Reply) → ReadsFrom true [] new t a
Rested need.Ended n input new = (t : List ℕ) (a : List Reply) → ReadsFrom true [] new t a
Rested _ n input new = (t : List ℕ) → ReadsFrom true [] new t []

-- the ticket in hand
abbrev pub held : List Item → List ℕ → Option Page
held (PageOctets n size ∷ items) tail = Some (record { octets = tail; page_size = size })
held _ tail = None
