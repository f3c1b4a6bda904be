-- The events that a trace shows.
use Rattle.std.specs.Prelude.{ℕ, List, [], ◌∷◌, Option, Some, None, if◌then◌else◌}
use Rattle.receiver.specs.Reading.{Due, Requests}
use Rattle.account.specs.Seen.{progress_seen}
use Rattle.config_values.specs.Config.{Config}
use Rattle.spool_history.specs.Base.{first_base}
use Rattle.spool_history.specs.Events.{Sheet, Turn, Event}
use Rattle.spool_history.specs.Events.Event.{AtPrinter, Closed}
use Rattle.spool_history.specs.Events.Turn.{Handed, Printed, Failed}
use Rattle.spool_history.specs.Now.{State, now}
use Rattle.spool_history.specs.Next.{printer_at}
use Rattle.spool_calls.specs.Looks.Detail.{Octets}
use Rattle.spool_requests.specs.Shows.{event_of, end_of, with_event}
use Rattle.spool_trace.specs.declared.step.Step.{Step}
use Rattle.spool_trace.specs.declared.step.Step.TheVariants as step
use Rattle.spool_trace.specs.declared.reply.Given.TheVariants as given
use Rattle.spool_trace.specs.declared.reply.Deed.{Deed}
use Rattle.spool_trace.specs.declared.reply.Deed.TheVariants as deed
use Rattle.spool_trace.specs.declared.reply.Reply.{Reply}
use Rattle.spool_trace.specs.declared.reply.Reply.TheVariants as reply
use Rattle.spool_trace.specs.Trace.{Entry, Trace, sheet_of}
use Rattle.spool_trace.specs.Sessions.{Session, session_at, due_in, sessions}

-- the end of a session aborts the job that it has in hand
abbrev pub end_in : State (List ℕ) → Session → Option (Event (List ℕ))
end_in v s = end_of v s.progress.job s.job

-- what a session shows by what was due and what it did
abbrev pub of_turn : State (List ℕ) → Session → Due → Deed → Option (Event (List ℕ))
of_turn v s (Requests r items text) (deed.Asked kind answer) = event_of Octets v s.sender s.job r answer
of_turn v s _ (deed.Refused n) = end_in v s
of_turn v s _ deed.Ended = end_in v s
of_turn v s _ _ = None

-- the page at a printer comes back
abbrev pub comes_back : ℕ → Turn → Option (Sheet (List ℕ)) → Option (Event (List ℕ))
comes_back p turn None = None
comes_back p turn (Some sheet) = Some (AtPrinter p sheet turn)

-- the event that a step and its reply show, if any, where the spool and the sessions were so
abbrev pub shown : State (List ℕ) → List Session → Step → Reply → Option (Event (List ℕ))
shown v ss (step.Turn n) (reply.Turned done) = of_turn v (session_at ss n) (due_in (session_at ss n)) done
shown v ss (step.Break n) reply.Broken = end_in v (session_at ss n)
shown v ss (step.Next p) (reply.Gave (given.Page page)) = Some (AtPrinter p (sheet_of page) Handed)
shown v ss (step.Printed p) (reply.Printed progress) = comes_back p (Printed (progress_seen progress)) (printer_at v p).out
shown v ss (step.Failed p) reply.Failed = comes_back p Failed (printer_at v p).out
shown v ss step.Shutdown reply.Closed = if v.closed then None else Some Closed
shown v ss _ _ = None

-- one more entry of a trace, after these events
abbrev pub and_shown : Config → List Session → Entry → List (Event (List ℕ)) → List (Event (List ℕ))
and_shown c ss e h = with_event (shown (now c first_base h) ss e.step e.reply) h

-- the events that a trace shows, the newest first; it begins with a spool in which nothing has happened
abbrev pub events : Config → Trace → List (Event (List ℕ))
events c [] = []
events c (e ∷ t) = and_shown c (sessions t) e (events c t)

-- where a trace leaves the spool
abbrev pub spool_after : Config → Trace → State (List ℕ)
spool_after c t = now c first_base (events c t)
