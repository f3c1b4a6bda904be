-- From what a call of a core answers follows that the answer is due to the request, and that the history which the core is
-- left by has grown by the event that the request shows.
use Rattle.std.specs.Prelude.{◌≡◌, ℕ, Bool, List, Option, None, Result, Ok, Err, Contains, MatchBool}
use Rattle.lpd_values.specs.Contents.{Contents}
use Rattle.lpd_values.specs.declared.refusal.Refusal.{Refusal}
use Rattle.lpd_values.specs.declared.refusal.Refusal.TheVariants.{NotOpen}
use Rattle.config_values.specs.Ranges.{IsConfig}
use Rattle.page_pool.specs.Page.{Page}
use Rattle.receiver.specs.Script.{Request, Queue, Open, BeginFile, AskPage, Filled, EndFile, Control, AbortJob, StartPrinters, QueueState, RemoveJobs}
use Rattle.spool_history.specs.Base.{Base}
use Rattle.spool_history.specs.Events.{Event}
use Rattle.spool_history.specs.Now.{Job}
use Rattle.spool_calls.specs.declared.answers.Asked.{Asked}
use Rattle.spool_calls.specs.declared.answers.Asked.TheVariants as asked
use Rattle.spool_calls.specs.declared.answers.Receipt.{Receipt}
use Rattle.spool_calls.specs.declared.answers.Receipt.TheVariants as receipt
use Rattle.spool_calls.specs.declared.answers.ReturnedControl.{ReturnedControl}
use Rattle.spool_calls.specs.declared.answers.ReturnedPage.{ReturnedPage}
use Rattle.spool_calls.specs.declared.answers.ReturnedTicket.{ReturnedTicket}
use Rattle.spool_calls.specs.Looks.{Detail, What}
use Rattle.spool_calls.specs.Kept.{Kept, Leaves}
use Rattle.spool_calls.specs.Calls.{before, Admits, Opens, Begins, Asks, Puts, Ends, Controls, Aborts, IsLent, Starts, Tells, Removes}
use Rattle.spool_requests.specs.declared.answer.Answer.{Answer}
use Rattle.spool_requests.specs.declared.answer.Answer.TheVariants.{Yes, Accepted, Lent, Later, Stored, Received, Told, Refused}
use Rattle.spool_requests.specs.Shows.{event_of, end_of, with_event}
use Rattle.spool_requests.specs.Due.{IsAnswer, MayCome}

-- what a session is answered where a call of the core answered so

abbrev pub done_by : Result (Unit {0}) Refusal → Answer
done_by (Ok done) = Yes
done_by (Err n) = Refused n

abbrev pub opened_by : Result ℕ Refusal → Answer
opened_by (Ok job) = Accepted job
opened_by (Err n) = Refused n

abbrev pub asked_by : Result Asked Refusal → Answer
asked_by (Ok (asked.Page ticket)) = Lent ticket.page_size
asked_by (Ok asked.Later) = Later
asked_by (Err n) = Refused n

abbrev pub put_by : Result (Unit {0}) ReturnedPage → Answer
put_by (Ok done) = Yes
put_by (Err back) = Refused NotOpen

abbrev pub kept_by : Result Receipt Refusal → Answer
kept_by (Ok receipt.Stored) = Stored
kept_by (Ok receipt.Received) = Received
kept_by (Err n) = Refused n

abbrev pub controlled_by : Result Receipt ReturnedControl → Answer
controlled_by (Ok got) = kept_by (Ok got)
controlled_by (Err back) = Refused back.refusal

abbrev pub aborted_by : Result (Unit {0}) ReturnedTicket → Answer
aborted_by (Ok done) = Yes
aborted_by (Err back) = Refused NotOpen

abbrev pub told_by : Result (List ℕ) Refusal → Answer
told_by (Ok text) = Told text
told_by (Err n) = Refused n

-- the history left the core where it was, and its configuration, which is in its ranges, stayed
pub record Stood (d : Detail) (b : Base) (h : List (Event (What d))) (old new : Kept) : Type 0 where
  pub ranges : IsConfig old.config
  pub config : new.config ≡ old.config
  pub left : Leaves d b h old

-- a request of the session of a sender that opened this job last
pub record FromSession : Type 0 where
  pub sender : ℕ
  pub job : ℕ
  pub request : Request

abbrev pub from_session : (sender job : ℕ) → Request → FromSession
from_session sender job r = record { sender = sender; job = job; request = r }

-- the answer is due to the request, and the history that leaves the core has grown by what the request shows
pub record Follows (d : Detail) (b : Base) (h : List (Event (What d))) (old new : Kept) (from : FromSession)
    (answer : Answer) : Type 0 where
  pub is : IsAnswer d (before d b h old) from.sender from.job from.request answer
  pub left : Leaves d b (with_event (event_of d (before d b h old) from.sender from.job from.request answer) h) new

-- so it is of any call that C says is right
abbrev pub Always :
    (Answers : Type 0) (C : (d : Detail) (b : Base) (h : List (Event (What d))) → Kept → Kept → Answers → FromSession → Type 0)
    → Request → (Answers → Answer) → Type 0
Always Answers C r answer_of =
    (d : Detail) (b : Base) (h : List (Event (What d))) (old new : Kept) (sender job : ℕ) (result : Answers) →
    Stood d b h old new → C d b h old new result (from_session sender job r)
    → Follows d b h old new (from_session sender job r) (answer_of result)

abbrev pub QueueFollows : Type 0
QueueFollows =
    (name : List ℕ) → Always (Result (Unit {0}) Refusal)
    (λ d b h old new result from. (new ≡ old) × Admits d b h old name result) (Queue name) done_by

abbrev pub OpenFollows : Type 0
OpenFollows =
    (name : List ℕ) → Always (Result ℕ Refusal)
    (λ d b h old new result from. Opens d b h old from.sender name new result) (Open name) opened_by

abbrev pub FileFollows : Type 0
FileFollows =
    (name : List ℕ) (count : ℕ) → Always (Result (Unit {0}) Refusal)
    (λ d b h old new result from. Begins d b h old from.job name count new result) (BeginFile name count) done_by

abbrev pub PageFollows : Type 0
PageFollows =
    Always (Result Asked Refusal) (λ d b h old new result from. Asks d b h old from.job new result) AskPage asked_by

abbrev pub PutFollows : Type 0
PutFollows =
    (page : Page) → Always (Result (Unit {0}) ReturnedPage)
    (λ d b h old new result from. Puts d b h old from.job page new result) (Filled page) put_by

abbrev pub EndFollows : Type 0
EndFollows = Always (Result Receipt Refusal) (λ d b h old new result from. Ends d b h old from.job new result) EndFile kept_by

abbrev pub ControlFollows : Type 0
ControlFollows =
    (control : Contents) → Always (Result Receipt ReturnedControl)
    (λ d b h old new result from. Controls d b h old from.job control new result) (Control control) controlled_by

-- between blocks no page is in hand
abbrev pub AbortFollows : Type 0
AbortFollows =
    Always (Result (Unit {0}) ReturnedTicket) (λ d b h old new result from. Aborts d b h old from.job None new result)
    AbortJob aborted_by

abbrev pub StartFollows : Type 0
StartFollows =
    (name : List ℕ) → Always (Result (Unit {0}) Refusal)
    (λ d b h old new result from. Starts d b h old name new result) (StartPrinters name) done_by

abbrev pub StateFollows : Type 0
StateFollows =
    (name : List ℕ) (list : List (List ℕ)) (long : Bool) → Always (Result (List ℕ) Refusal)
    (λ d b h old new result from. (new ≡ old) × Tells d b h old name list long result) (QueueState name list long) told_by

abbrev pub RemovalFollows : Type 0
RemovalFollows =
    (name agent : List ℕ) (list : List (List ℕ)) → Always (Result (List ℕ) Refusal)
    (λ d b h old new result from. Removes d b h old name agent list new result) (RemoveJobs name agent list) told_by

module _ (d : Detail) (b : Base) (h : List (Event (What d))) (old new : Kept) (job : ℕ) where
  -- a page is in hand exactly where one is lent to the job
  abbrev pub HasItsPage : Option Page → Type 0
  HasItsPage ticket =
      (w : Job (What d)) → Contains (before d b h old).jobs w → w.number ≡ job → IsLent w.lent old.config.page_size ticket

  -- the job was aborted with the page in hand, whatever was answered
  abbrev pub AbortsInHand : Option Page → Type 0
  AbortsInHand ticket =
      HasItsPage ticket × (result : Result (Unit {0}) ReturnedTicket) × Aborts d b h old job ticket new result

-- At its end a session aborts the job that it has in hand. That shows an abort exactly where the job may be aborted.
abbrev pub SessionEndFollows : Type 0
SessionEndFollows =
    (d : Detail) (b : Base) (h : List (Event (What d))) (old new : Kept) (job : ℕ) (in_hand : Bool) (ticket : Option Page) →
    Stood d b h old new → MatchBool in_hand (AbortsInHand d b h old new job ticket) (new ≡ old)
    → MayCome d (before d b h old) (end_of (before d b h old) in_hand job)
    × Leaves d b (with_event (end_of (before d b h old) in_hand job) h) new
