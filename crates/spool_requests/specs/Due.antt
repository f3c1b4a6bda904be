-- Which answer is due to a request of a session, where the spool is left so by the events before it.
use Rattle.std.specs.Prelude.{◌≡◌, ℕ, ◌+◌, List, Option, Some, None}
use Rattle.config_values.specs.Config.{IsQueue, queue_named}
use Rattle.receiver.specs.Script.{Request, Queue, Open, BeginFile, AskPage, Filled, EndFile, Control, AbortJob, StartPrinters, QueueState, RemoveJobs}
use Rattle.spool_history.specs.Events.{Event}
use Rattle.spool_history.specs.Now.{State}
use Rattle.spool_history.specs.Legal.{MayGrant, MayOpen, May}
use Rattle.spool_history.specs.Refusals.{OrMemory, RefusesControl, RefusesFile, RefusesJob, RefusesPage, RefusesQueue, RefusesState, RefusesUnless, TakesJobs}
use Rattle.spool_history.specs.Texts.{state_text, removal_text}
use Rattle.spool_calls.specs.Looks.{Detail, What, size}
use Rattle.spool_calls.specs.Calls.{MayAbort, MayAsk, MayEnd, MayPut}
use Rattle.spool_requests.specs.declared.answer.Answer.{Answer}
use Rattle.spool_requests.specs.declared.answer.Answer.TheVariants.{Yes, Accepted, Lent, Later, Stored, Received, Told, Refused}
use Rattle.spool_requests.specs.Shows.{event_of}

module _ (d : Detail) (v : State (What d)) (j : ℕ) where
  -- the number of the queue of a name
  abbrev queue : List ℕ → ℕ
  queue name = queue_named v.config name

  -- The answer to a request for the job in hand is the one that is due. Of an answer that shows an event, what is said here
  -- stands beside the event's own conditions.
  abbrev pub IsDueAnswer : Request → Answer → Type 0
  IsDueAnswer (Queue name) Yes = TakesJobs v (queue name)
  IsDueAnswer (Queue name) (Refused n) = RefusesQueue v (queue name) n
  IsDueAnswer (Open name) (Accepted number) = Unit {0}
  IsDueAnswer (Open name) (Refused n) = OrMemory (MayOpen v (v.accepted + 1) (queue name)) (RefusesJob v (queue name)) n
  IsDueAnswer (BeginFile name count) Yes = Unit {0}
  IsDueAnswer (BeginFile name count) (Refused n) = RefusesFile v j name count n
  IsDueAnswer AskPage (Lent page_size) = page_size ≡ v.config.page_size
  IsDueAnswer AskPage Later = MayAsk d v j × (MayGrant v j → ⊥)
  IsDueAnswer AskPage (Refused n) = RefusesPage v j n
  IsDueAnswer (Filled page) Yes = page.page_size ≡ v.config.page_size
  IsDueAnswer (Filled page) (Refused n) = RefusesUnless (MayPut d v j page) n
  IsDueAnswer EndFile Stored = Unit {0}
  IsDueAnswer EndFile Received = Unit {0}
  IsDueAnswer EndFile (Refused n) = RefusesUnless (MayEnd d v j) n
  IsDueAnswer (Control control) Stored = Unit {0}
  IsDueAnswer (Control control) Received = Unit {0}
  IsDueAnswer (Control control) (Refused n) = RefusesControl v j n
  IsDueAnswer AbortJob Yes = MayAbort d v j None
  IsDueAnswer AbortJob (Refused n) = RefusesUnless (MayAbort d v j None) n
  IsDueAnswer (StartPrinters name) Yes = TakesJobs v (queue name)
  IsDueAnswer (StartPrinters name) (Refused n) = RefusesQueue v (queue name) n
  IsDueAnswer (QueueState name list long) (Told text) =
      IsQueue v.config (queue name) × (text ≡ state_text v (queue name) list long)
  IsDueAnswer (QueueState name list long) (Refused n) = OrMemory (IsQueue v.config (queue name)) (RefusesState v (queue name)) n
  IsDueAnswer (RemoveJobs name agent list) (Told text) =
      TakesJobs v (queue name) × (text ≡ removal_text v (queue name) agent list)
  IsDueAnswer (RemoveJobs name agent list) (Refused n) = OrMemory (TakesJobs v (queue name)) (RefusesQueue v (queue name)) n
  IsDueAnswer _ _ = ⊥

-- an event may come, and what shows none may always
abbrev pub MayCome : (d : Detail) → State (What d) → Option (Event (What d)) → Type 0
MayCome d v None = Unit {0}
MayCome d v (Some e) = May (size d) v e

-- the answer is the one that is due, and the event that it shows may come
pub record IsAnswer (d : Detail) (v : State (What d)) (sender job : ℕ) (r : Request) (answer : Answer) : Type 0 where
  pub due : IsDueAnswer d v job r answer
  pub may : MayCome d v (event_of d v sender job r answer)
