-- From what a core answers follows that the reply to a step is right, and that the history which the core is left by has
-- grown by the event that the step shows.
use Rattle.std.specs.Prelude.{◌≡◌, ℕ, false, List, Some, Result, Ok}
use Rattle.lpd_values.specs.declared.refusal.Refusal.{Refusal}
use Rattle.lpd_values.specs.declared.refusal.Refusal.TheVariants.{Memory}
use Rattle.account.specs.declared.entry.Progress.{Progress}
use Rattle.config_values.specs.Config.{IsPrinter}
use Rattle.receiver.specs.Script.{Request, Item, Ack, Fault}
use Rattle.receiver.specs.Reading.{Due, Waits, Ends, Writes, Requests}
use Rattle.receiver.specs.Reads.{TakesMemory}
use Rattle.spool_history.specs.Base.{Base}
use Rattle.spool_history.specs.Events.{Event}
use Rattle.spool_history.specs.Next.{printer_at}
use Rattle.spool_calls.specs.declared.answers.Next.{Next}
use Rattle.spool_calls.specs.declared.answers.Next.TheVariants as next
use Rattle.spool_calls.specs.declared.answers.Foreign.{Foreign}
use Rattle.spool_calls.specs.declared.handed.HandedPage.{HandedPage}
use Rattle.spool_calls.specs.Looks.Detail.{Octets}
use Rattle.spool_calls.specs.Kept.{Kept, Leaves}
use Rattle.spool_calls.specs.Calls as calls
use Rattle.spool_calls.specs.Calls.{before, Hands, Prints, Fails, Closes}
use Rattle.spool_requests.specs.declared.answer.Answer.{Answer}
use Rattle.spool_requests.specs.Kinds.{request_kind}
use Rattle.spool_requests.specs.Shows.{end_of, with_event}
use Rattle.spool_requests.specs.Due.{MayCome}
use Rattle.spool_requests.specs.Follows as requests
use Rattle.spool_requests.specs.Follows.{Stood}
use Rattle.spool_trace.specs.declared.step.Step.{Step}
use Rattle.spool_trace.specs.declared.step.Step.TheVariants as step
use Rattle.spool_trace.specs.declared.reply.ShownPage.{ShownPage}
use Rattle.spool_trace.specs.declared.reply.Given.{Given}
use Rattle.spool_trace.specs.declared.reply.Given.TheVariants as given
use Rattle.spool_trace.specs.declared.reply.Deed.TheVariants as deed
use Rattle.spool_trace.specs.declared.reply.Reply.{Reply}
use Rattle.spool_trace.specs.declared.reply.Reply.TheVariants as reply
use Rattle.spool_trace.specs.Sessions.{Session, session_at, due_in}
use Rattle.spool_trace.specs.Shown.{shown}
use Rattle.spool_trace.specs.Replies.{IsReplyIn, IsSession}

-- what a reply shows of a page that a core handed out
abbrev pub shown_by : HandedPage → ShownPage
shown_by p = record { job = p.job; place = p.place; file = p.file; number = p.number; octets = p.page.octets }

abbrev pub given_by : Next → Given
given_by (next.Handed page) = given.Page (shown_by page)
given_by next.Nothing = given.Nothing
given_by next.Stopped = given.Stopped
given_by next.Busy = given.Busy
given_by next.Closed = given.Closed

-- the reply is right where the history and the sessions are so, and the history that leaves the core has grown by what it shows
pub record StepFollows (b : Base) (h : List (Event (List ℕ))) (old new : Kept) (ss : List Session) (step : Step) (reply : Reply) : Type 0 where
  pub is : IsReplyIn (before Octets b h old) ss step reply
  pub left : Leaves Octets b (with_event (shown (before Octets b h old) ss step reply) h) new

-- so it is of what C says
abbrev pub Always : ((b : Base) (h : List (Event (List ℕ))) (old new : Kept) (ss : List Session) → Type 0) → Type 0
Always C = (b : Base) (h : List (Event (List ℕ))) (old new : Kept) (ss : List Session) → Stood Octets b h old new → C b h old new ss

-- a session that is not over, where this is due
pub record IsAt (ss : List Session) (n : ℕ) (d : Due) : Type 0 where
  pub there : IsSession ss n
  pub going : (session_at ss n).over ≡ false
  pub due : due_in (session_at ss n) ≡ d

-- a session's end showed an abort where it shows one
abbrev pub EndShows : Base → List (Event (List ℕ)) → Kept → Kept → Session → Type 0
EndShows b h old new s =
    MayCome Octets (before Octets b h old) (end_of (before Octets b h old) s.progress.job s.job)
    × Leaves Octets b (with_event (end_of (before Octets b h old) s.progress.job s.job) h) new

-- a request that was answered
abbrev pub AskFollows : Type 0
AskFollows = Always (λ b h old new ss.
    (n : ℕ) (r : Request) (items : List Item) (text : List ℕ) (answer : Answer) → IsAt ss n (Requests r items text)
    → requests.Follows Octets b h old new (requests.from_session (session_at ss n).sender (session_at ss n).job r) answer
    → StepFollows b h old new ss (step.Turn n) (reply.Turned (deed.Asked (request_kind r) answer)))

-- a request for which the reader lacked memory, a refusal that was written, and the end: the session is over
abbrev pub ShortFollows : Type 0
ShortFollows = Always (λ b h old new ss.
    (n : ℕ) (r : Request) (items : List Item) (text : List ℕ) → IsAt ss n (Requests r items text) → TakesMemory (Requests r items text)
    → EndShows b h old new (session_at ss n) → StepFollows b h old new ss (step.Turn n) (reply.Turned (deed.Refused Memory)))

abbrev pub RefusalFollows : Type 0
RefusalFollows = Always (λ b h old new ss.
    (n : ℕ) (refusal : Refusal) (items : List Item) (text : List ℕ) → IsAt ss n (Writes (Fault refusal) items text)
    → EndShows b h old new (session_at ss n) → StepFollows b h old new ss (step.Turn n) (reply.Turned (deed.Refused refusal)))

abbrev pub EndFollows : Type 0
EndFollows = Always (λ b h old new ss.
    (n : ℕ) → IsAt ss n Ends → EndShows b h old new (session_at ss n)
    → StepFollows b h old new ss (step.Turn n) (reply.Turned deed.Ended))

abbrev pub BreakFollows : Type 0
BreakFollows = Always (λ b h old new ss.
    (n : ℕ) → IsSession ss n → (session_at ss n).over ≡ false → EndShows b h old new (session_at ss n)
    → StepFollows b h old new ss (step.Break n) reply.Broken)

-- where a session waits, or writes the octet 00, the core is left alone
abbrev pub WaitFollows : Type 0
WaitFollows = Always (λ b h old new ss.
    (n : ℕ) → IsAt ss n Waits → new ≡ old → StepFollows b h old new ss (step.Turn n) (reply.Turned deed.Waited))

abbrev pub AckFollows : Type 0
AckFollows = Always (λ b h old new ss.
    (n : ℕ) (items : List Item) (text : List ℕ) → IsAt ss n (Writes Ack items text) → new ≡ old
    → StepFollows b h old new ss (step.Turn n) (reply.Turned deed.Acked))

-- a printer is given what is next for it
abbrev pub NextFollows : Type 0
NextFollows = Always (λ b h old new ss.
    (p : ℕ) (result : Next) → IsPrinter old.config p → Hands Octets b h old p new result
    → StepFollows b h old new ss (step.Next p) (reply.Gave (given_by result)))

-- the page that is kept for a printer is the one that is out at it, as it was handed
pub record IsItsPage (b : Base) (h : List (Event (List ℕ))) (k : Kept) (p : ℕ) (page : HandedPage) : Type 0 where
  pub printer : IsPrinter k.config p
  pub out : (printer_at (before Octets b h k) p).out ≡ Some (calls.sheet_of Octets b h k page)
  pub size : page.page.page_size ≡ k.config.page_size

-- it comes back, printed or not, and the core takes it
abbrev pub PrintFollows : Type 0
PrintFollows = Always (λ b h old new ss.
    (p : ℕ) (page : HandedPage) (result : Result Progress Foreign) → IsItsPage b h old p page → Prints Octets b h old p page new result
    → (said : Progress) × (result ≡ Ok said) × StepFollows b h old new ss (step.Printed p) (reply.Printed said))

abbrev pub FailFollows : Type 0
FailFollows = Always (λ b h old new ss.
    (p : ℕ) (page : HandedPage) (result : Result (Unit {0}) Foreign) → IsItsPage b h old p page → Fails Octets b h old p page new result
    → (result ≡ Ok tt) × StepFollows b h old new ss (step.Failed p) reply.Failed)

abbrev pub CloseFollows : Type 0
CloseFollows = Always (λ b h old new ss. Closes Octets b h old new → StepFollows b h old new ss step.Shutdown reply.Closed)
