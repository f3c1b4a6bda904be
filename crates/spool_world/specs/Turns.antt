-- What a turn of a connection comes to, and its end.
use Rattle.std.specs.Prelude.{◌≡◌, ℕ, Bool, true, false, Option, Some, None, Result, if◌then◌else◌}
use Rattle.page_pool.specs.Page.{Page}
use Rattle.config_values.specs.Ranges.{IsConfig}
use Rattle.receiver.specs.Script.{Request}
use Rattle.receiver.specs.Reading.{Progress, after_reply}
use Rattle.spool_history.specs.Base.{first_base}
use Rattle.spool_calls.specs.declared.answers.ReturnedTicket.{ReturnedTicket}
use Rattle.spool_calls.specs.Looks.Detail.{Octets}
use Rattle.spool_calls.specs.Kept.{Kept, Leaves}
use Rattle.spool_calls.specs.Calls.{IsRight, Aborts}
use Rattle.spool_requests.specs.declared.answer.Answer.{Answer}
use Rattle.spool_requests.specs.Kinds.{request_kind}
use Rattle.spool_trace.specs.declared.reply.Deed.{Deed}
use Rattle.spool_trace.specs.declared.reply.Deed.TheVariants as deed
use Rattle.spool_trace.specs.declared.reply.Reply.{Reply}
use Rattle.spool_trace.specs.declared.reply.Reply.TheVariants as reply
use Rattle.spool_trace.specs.declared.step.Step.{Step}
use Rattle.spool_trace.specs.declared.step.Step.TheVariants as step
use Rattle.spool_trace.specs.Trace.{Trace}
use Rattle.spool_trace.specs.Sessions.{Session, job_after, reply_of, session_at, sessions, turns}
use Rattle.spool_trace.specs.Shown.{events}
use Rattle.spool_trace.specs.Replies.{IsSession, IsTrace}
use Rattle.spool_trace.specs.Follows.{StepFollows}
use Rattle.spool_world.specs.declared.connection.Connection.{Connection}
use Rattle.request_calls.specs.Carried.{Carries}
use Rattle.request_calls.specs.Pages.{IsLentPage, blank, first_page, is_lent, page_with}
use Rattle.spool_world.specs.Stands.{Stands, page_of}

-- where a request is carried out: the core, the reader of the connection, the number of its last job, and a page that is kept
pub record Here : Type 0 where
  pub core : Kept
  pub reader : Progress
  pub job : ℕ
  pub kept : Option Page

abbrev pub here : Kept → Progress → (job : ℕ) → Option Page → Here
here core reader job kept = record { core = core; reader = reader; job = job; kept = kept }

-- a request was carried out and answered to the reader: the last job is the one that was accepted,
-- if one was, and a page that came with a refusal is kept, with nothing on it
pub record Answered (sender : ℕ) (r : Request) (done : Deed) (before after : Here) : Type 0 where
  pub answer : Answer
  pub page : Option Page
  pub is : done ≡ deed.Asked (request_kind r) answer
  pub carries : Carries before.core sender before.job r answer after.core
  pub blank' : page ≡ blank (page_with r answer)
  pub lent : IsLentPage answer page
  pub reader' : after.reader ≡ after_reply before.reader (reply_of answer)
  pub last' : after.job ≡ job_after before.job answer
  pub keeps' : after.kept ≡ first_page (if is_lent answer then None else page) before.kept

-- the job in hand is aborted with the page in hand, whatever is answered
abbrev pub AbortsIt : (old new : Kept) → (in_hand : Bool) → (job : ℕ) → Option Page → Type 0
AbortsIt old new false job page = new ≡ old
AbortsIt old new true job page =
    IsRight old (λ d b h.
    (result : Result (Unit {0}) ReturnedTicket) × Aborts d b h old job page new result)

-- where the connection was going on its job in hand was aborted with its page
abbrev pub EndsIt : (old new : Kept) → Connection → Option Progress → Type 0
EndsIt old new k None = new ≡ old
EndsIt old new k (Some p) = AbortsIt old new p.job k.job (page_of p k)

-- the connection is over, and has no page
pub record IsEnded (k l : Connection) : Type 0 where
  pub reader : l.reader ≡ None
  pub kept : l.kept ≡ None
  pub sender : l.sender ≡ k.sender
  pub job : l.job ≡ k.job

-- the reply to a step of a session is right, the core grew by what it shows, and the connection is
-- where the session is then
pub record Does (old new : Kept) (t : Trace) (step : Step) (reply : Reply) (l : Connection)
    (s : Session) : Type 0 where
  pub follows : StepFollows first_base (events old.config t) old new (sessions t) step reply
  pub stands : Stands old.config.page_size l s

-- the connection is where a session is of a right trace that leads to where the core is
pub record IsOf (core : Kept) (t : Trace) (n : ℕ) (k : Connection) : Type 0 where
  pub ranges : IsConfig core.config
  pub right : IsTrace core.config t
  pub left : Leaves Octets first_base (events core.config t) core
  pub there : IsSession (sessions t) n
  pub stands : Stands core.config.page_size k (session_at (sessions t) n)

-- a turn of a connection, where it goes on, is the one that is due
abbrev pub TurnsRight : (old new : Kept) → (k l : Connection) → Option Deed → Type 0
TurnsRight old new k l None = (new ≡ old) × (l ≡ k) × (k.reader ≡ None)
TurnsRight old new k l (Some done) =
    (t : Trace) (n : ℕ) → IsOf old t n k
    → Does old new t (step.Turn n) (reply.Turned done) l (turns done (session_at (sessions t) n))
