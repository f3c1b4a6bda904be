-- Which reply a step may get on the trace before it.
use Rattle.std.specs.Prelude.{◌≡◌, ℕ, ◌+◌, ◌≤◌, true, false, List, [], ◌∷◌, Some, None, length}
use Rattle.lpd_values.specs.declared.refusal.Refusal.TheVariants.{Memory}
use Rattle.receiver.specs.Script.{Ack, Fault}
use Rattle.receiver.specs.Reading.{Due, Waits, Ends, Writes, Requests}
use Rattle.receiver.specs.Reads.{TakesMemory}
use Rattle.config_values.specs.Config.{Config, IsPrinter}
use Rattle.spool_history.specs.Events.{Sheet}
use Rattle.spool_history.specs.Now.{State}
use Rattle.spool_history.specs.Next.{next_page, printer_at}
use Rattle.spool_history.specs.Next.Next.{Hands}
use Rattle.spool_calls.specs.Looks.Detail.{Octets}
use Rattle.spool_requests.specs.Kinds.{request_kind}
use Rattle.spool_requests.specs.Due.{IsDueAnswer, MayCome}
use Rattle.spool_trace.specs.declared.step.Step.{Step}
use Rattle.spool_trace.specs.declared.step.Step.TheVariants as step
use Rattle.spool_trace.specs.declared.reply.Deed.{Deed}
use Rattle.spool_trace.specs.declared.reply.Deed.TheVariants as deed
use Rattle.spool_trace.specs.declared.reply.Reply.{Reply}
use Rattle.spool_trace.specs.declared.reply.Reply.TheVariants as reply
use Rattle.spool_trace.specs.Trace.{Trace, next_of}
use Rattle.spool_trace.specs.Sessions.{Session, session_at, due_in, sessions}
use Rattle.spool_trace.specs.Shown.{shown, spool_after}

-- what a session does in a turn is what is due; where a request is due that takes memory to be read, memory may be refused
abbrev pub IsDueTurn : State (List ℕ) → (job : ℕ) → Due → Deed → Type 0
IsDueTurn v j Waits deed.Waited = Unit {0}
IsDueTurn v j Ends deed.Ended = Unit {0}
IsDueTurn v j (Writes Ack items text) deed.Acked = Unit {0}
IsDueTurn v j (Writes (Fault m) items text) (deed.Refused n) = n ≡ m
IsDueTurn v j (Requests r items text) (deed.Asked kind answer) = (kind ≡ request_kind r) × IsDueAnswer Octets v j r answer
IsDueTurn v j (Requests r items text) (deed.Refused n) = (n ≡ Memory) × TakesMemory (Requests r items text)
IsDueTurn v j _ _ = ⊥

-- a session has this number
abbrev pub IsSession : List Session → ℕ → Type 0
IsSession ss n = (1 ≤ n) × (n ≤ length ss)

-- the session is not over, and P holds of it
abbrev pub IsGoing : List Session → ℕ → (Session → Type 0) → Type 0
IsGoing ss n P = IsSession ss n × ((session_at ss n).over ≡ false) × P (session_at ss n)

-- a reply to a step of a session: first that there is no such session, then that it is over, and then as P says
abbrev pub OfSession : List Session → ℕ → (Session → Reply → Type 0) → Reply → Type 0
OfSession ss n P reply.NoSuch = IsSession ss n → ⊥
OfSession ss n P reply.Gone = IsSession ss n × ((session_at ss n).over ≡ true)
OfSession ss n P answer = IsGoing ss n (λ s. P s answer)

abbrev pub OnConnect : List Session → Reply → Type 0
OnConnect ss (reply.Connected n) = n ≡ length ss + 1
OnConnect ss reply.Memory = Unit {0}
OnConnect ss _ = ⊥

-- the octets are taken, or there is no room for them
abbrev pub OnArrival : Session → Reply → Type 0
OnArrival s reply.Taken = Unit {0}
OnArrival s reply.Memory = Unit {0}
OnArrival s _ = ⊥

abbrev pub OnTurn : State (List ℕ) → Session → Reply → Type 0
OnTurn v s (reply.Turned done) = IsDueTurn v s.job (due_in s) done
OnTurn v s _ = ⊥

abbrev pub OnBreak : Session → Reply → Type 0
OnBreak s answer = answer ≡ reply.Broken

-- a reply to a step of a printer: first that there is no such printer, and then as P says
abbrev pub OfPrinter : Config → ℕ → (Reply → Type 0) → Reply → Type 0
OfPrinter c p P reply.NoSuch = IsPrinter c p → ⊥
OfPrinter c p P answer = IsPrinter c p × P answer

-- what is next for the printer, or no room for the octets of the page that is
abbrev pub OnNext : State (List ℕ) → ℕ → Reply → Type 0
OnNext v p (reply.Gave given) = next_of given ≡ next_page v p
OnNext v p reply.Memory = (sheet : Sheet (List ℕ)) × (next_page v p ≡ Hands sheet)
OnNext v p _ = ⊥

abbrev pub HoldsPage : State (List ℕ) → ℕ → Type 0
HoldsPage v p = (sheet : Sheet (List ℕ)) × ((printer_at v p).out ≡ Some sheet)

-- what is said of the job stands in the conditions of the event
abbrev pub OnPrinted : State (List ℕ) → ℕ → Reply → Type 0
OnPrinted v p reply.NoPage = (printer_at v p).out ≡ None
OnPrinted v p (reply.Printed progress) = HoldsPage v p
OnPrinted v p _ = ⊥

abbrev pub OnFailed : State (List ℕ) → ℕ → Reply → Type 0
OnFailed v p reply.NoPage = (printer_at v p).out ≡ None
OnFailed v p reply.Failed = HoldsPage v p
OnFailed v p _ = ⊥

-- the reply to a step is the one that is due, where the spool and the sessions are so
abbrev pub IsDueReply : State (List ℕ) → List Session → Step → Reply → Type 0
IsDueReply v ss (step.Connect sender) answer = OnConnect ss answer
IsDueReply v ss (step.Arrive n octets) answer = OfSession ss n OnArrival answer
IsDueReply v ss (step.Turn n) answer = OfSession ss n (OnTurn v) answer
IsDueReply v ss (step.Break n) answer = OfSession ss n OnBreak answer
IsDueReply v ss (step.Next p) answer = OfPrinter v.config p (OnNext v p) answer
IsDueReply v ss (step.Printed p) answer = OfPrinter v.config p (OnPrinted v p) answer
IsDueReply v ss (step.Failed p) answer = OfPrinter v.config p (OnFailed v p) answer
IsDueReply v ss step.Shutdown answer = answer ≡ reply.Closed

pub record IsReplyIn (v : State (List ℕ)) (ss : List Session) (step : Step) (reply : Reply) : Type 0 where
  pub due : IsDueReply v ss step reply
  -- and the event that it shows, if any, may come
  pub may : MayCome Octets v (shown v ss step reply)

-- a step may get this reply on the trace before it
abbrev pub IsReply : Config → Trace → Step → Reply → Type 0
IsReply c t step reply = IsReplyIn (spool_after c t) (sessions t) step reply

-- each reply of a trace is one that its step may get on the trace before it
abbrev pub IsTrace : Config → Trace → Type 0
IsTrace c [] = Unit {0}
IsTrace c (e ∷ t) = IsReply c t e.step e.reply × IsTrace c t
