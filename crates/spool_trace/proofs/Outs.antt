-- The pages that are out at printers after a step.
use Rattle.std.proofs.Common.{◌≡◌, ◌==◌, ℕ, Bool, true, false, List, [], ◌∷◌, Option, Some, None, refl, sym, ap, subst, ◌∙◌}
use Rattle.std.specs.Prelude.{◌&&◌, if◌then◌else◌}
use Rattle.config_values.specs.Config.{Config}
use Rattle.receiver.specs.Script.{Request, Open, BeginFile, AskPage, Filled, EndFile, Control, AbortJob, StartPrinters, RemoveJobs}
use Rattle.receiver.specs.Reading.{Due, Waits, Ends, Writes, Requests}
use Rattle.spool_history.specs.Base.{first_base}
use Rattle.spool_history.specs.Events.{Event, Sheet, Turn}
use Rattle.spool_history.specs.Events.Act.{Aborted}
use Rattle.spool_history.specs.Events.Event.{Opened, OfJob, AtPrinter, Removed, Started, Closed}
use Rattle.spool_history.specs.Events.Turn.{Printed, Failed}
use Rattle.spool_history.specs.Said.{is_handed, out_at}
use Rattle.spool_history.specs.Now.{Printer, State}
use Rattle.spool_history.specs.Next.{printer_at}
use Rattle.spool_laws.proofs.Printers.{at_printer}
use Rattle.spool_calls.specs.Looks.Detail.{Octets}
use Rattle.spool_requests.specs.declared.answer.Answer.{Answer}
use Rattle.spool_requests.specs.declared.answer.Answer.TheVariants.{Yes, Accepted, Lent, Stored, Received, Told}
use Rattle.spool_requests.specs.Shows.{event_of, may_abort, removal_of, start_of, has_stopped, numbers_chosen, with_event}
use Rattle.config_values.specs.Config.{queue_named}
use Rattle.account.specs.Seen.{progress_seen}
use Rattle.spool_trace.specs.declared.step.Step.{Step}
use Rattle.spool_trace.specs.declared.step.Step.TheVariants as step
use Rattle.spool_trace.specs.declared.reply.Given.TheVariants as given
use Rattle.spool_trace.specs.declared.reply.Deed.{Deed}
use Rattle.spool_trace.specs.declared.reply.Deed.TheVariants as deed
use Rattle.spool_trace.specs.declared.reply.Reply.{Reply}
use Rattle.spool_trace.specs.declared.reply.Reply.TheVariants as reply
use Rattle.spool_trace.specs.Trace.{Trace}
use Rattle.spool_trace.specs.Sessions.{Session, session_at, due_in, sessions}
use Rattle.spool_trace.specs.Shown.{comes_back, end_in, events, of_turn, shown, spool_after}
use Rattle.spool_trace.specs.Replies.{IsReplyIn}
use Rattle.spool_trace.specs.Hands.{PagesAtPrinters, out_after}

-- an event that is at no printer
abbrev IsApart : Option (Event (List ℕ)) → Type 0
IsApart (Some (AtPrinter p sheet turn)) = ⊥
IsApart _ = Unit {0}

apart_same : (h : List (Event (List ℕ))) (o : Option (Event (List ℕ))) (q : ℕ) → IsApart o → out_at (with_event o h) q ≡ out_at h q
apart_same h None q a = refl
apart_same h (Some (Opened j s k)) q a = refl
apart_same h (Some (OfJob j act)) q a = refl
apart_same h (Some (AtPrinter p sheet turn)) q a = absurd a
apart_same h (Some (Removed k jobs)) q a = refl
apart_same h (Some (Started k)) q a = refl
apart_same h (Some Closed) q a = refl

start_apart : (b : Bool) (q : ℕ) → IsApart (start_of b q)
start_apart true q = tt
start_apart false q = tt

removal_apart : (q : ℕ) (numbers : List ℕ) → IsApart (removal_of q numbers)
removal_apart q [] = tt
removal_apart q (n ∷ ns) = tt

request_apart : (v : State (List ℕ)) (sender job : ℕ) (r : Request) (answer : Answer) → IsApart (event_of Octets v sender job r answer)
request_apart v sender job (Open name) (Accepted number) = tt
request_apart v sender job (BeginFile name count) Yes = tt
request_apart v sender job AskPage (Lent page_size) = tt
request_apart v sender job (Filled page) Yes = tt
request_apart v sender job EndFile Stored = tt
request_apart v sender job EndFile Received = tt
request_apart v sender job (Control control) Stored = tt
request_apart v sender job (Control control) Received = tt
request_apart v sender job AbortJob Yes = tt
request_apart v sender job (StartPrinters name) Yes = start_apart (has_stopped v (queue_named v.config name)) (queue_named v.config name)
request_apart v sender job (RemoveJobs name agent list) (Told text) = removal_apart (queue_named v.config name) (numbers_chosen v (queue_named v.config name) agent list)
request_apart v sender job r answer = tt

aborts_apart : (b : Bool) (j : ℕ) → IsApart (if b then Some (OfJob j Aborted) else None)
aborts_apart true j = tt
aborts_apart false j = tt

end_apart : (v : State (List ℕ)) (s : Session) → IsApart (end_in v s)
end_apart v s = aborts_apart (s.progress.job && may_abort v s.job) s.job

turn_apart : (v : State (List ℕ)) (s : Session) (d : Due) (done : Deed) → IsApart (of_turn v s d done)
turn_apart v s (Requests r items text) (deed.Asked kind answer) = request_apart v s.sender s.job r answer
turn_apart v s Waits (deed.Refused n) = end_apart v s
turn_apart v s Ends (deed.Refused n) = end_apart v s
turn_apart v s (Writes w items text) (deed.Refused n) = end_apart v s
turn_apart v s (Requests r items text) (deed.Refused n) = end_apart v s
turn_apart v s Waits deed.Ended = end_apart v s
turn_apart v s Ends deed.Ended = end_apart v s
turn_apart v s (Writes w items text) deed.Ended = end_apart v s
turn_apart v s (Requests r items text) deed.Ended = end_apart v s
turn_apart v s d done = tt

close_apart : (b : Bool) → IsApart (if b then None else Some Closed)
close_apart true = tt
close_apart false = tt

-- a page that came back
back_out : (h : List (Event (List ℕ))) (p q : ℕ) (turn : Turn) (out : Option (Sheet (List ℕ))) (sheet : Sheet (List ℕ)) → is_handed turn ≡ false → out ≡ Some sheet → out_at (with_event (comes_back p turn out) h) q ≡ (if p == q then None else out_at h q)
back_out h p q turn out sheet e is =
    subst (λ (o : Option (Sheet (List ℕ))). out_at (with_event (comes_back p turn o) h) q ≡ (if p == q then None else out_at h q)) (sym is)
    (ap {A = Bool} {B = Option (Sheet (List ℕ))} (λ b. if p == q then (if b then Some sheet else None) else out_at h q) e)

module _ (c : Config) (t : Trace) where
  abbrev h : List (Event (List ℕ))
  h = events c t

  abbrev v : State (List ℕ)
  v = spool_after c t

  -- what is out after a step, in terms of the histories
  after : (st : Step) (re : Reply) → IsReplyIn v (sessions t) st re → (q : ℕ) → out_at (with_event (shown v (sessions t) st re) h) q ≡ out_after st re q (out_at h q)
  after (step.Next p) (reply.Gave (given.Page page)) r q = refl
  after (step.Next p) (reply.Gave given) r q = refl
  after (step.Printed p) (reply.Printed progress) r q = back_out h p q (Printed (progress_seen progress)) (printer_at v p).out r.due.1.0 refl r.due.1.1
  after (step.Failed p) reply.Failed r q = back_out h p q Failed (printer_at v p).out r.due.1.0 refl r.due.1.1
  after (step.Turn n) (reply.Turned done) r q = apart_same h _ q (turn_apart v (session_at (sessions t) n) (due_in (session_at (sessions t) n)) done)
  after (step.Break n) reply.Broken r q = apart_same h _ q (end_apart v (session_at (sessions t) n))
  after step.Shutdown reply.Closed r q = apart_same h _ q (close_apart v.closed)
  after st re r q = refl

pub outs : PagesAtPrinters
outs c t st re r q is =
    let out_now = λ (h : List (Event (List ℕ))). ap (λ (p : Printer (List ℕ)). p.out) (at_printer c first_base h q is.0 is.1) in
    out_now (with_event (shown (spool_after c t) (sessions t) st re) (events c t)) ∙ after c t st re r q
    ∙ ap (out_after st re q) (sym (out_now (events c t)))
