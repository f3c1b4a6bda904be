-- Of the jobs that are in hand a step of one session does nothing for that of another.
use Rattle.std.proofs.Common.{◌≡◌, ◌≢◌, ℕ, Bool, true, false, List, [], ◌∷◌, Option, Some, None, refl, sym, ◌∙◌}
use Rattle.std.specs.Prelude.{cond}
use Rattle.config_values.specs.Config.{Config}
use Rattle.receiver.specs.Script.{Request, Open, BeginFile, AskPage, Filled, EndFile, Control, AbortJob, StartPrinters, RemoveJobs, Item}
use Rattle.receiver.specs.Reading.{Due, Requests}
use Rattle.spool_history.specs.Events.{Event, Sheet, Turn}
use Rattle.spool_history.specs.Events.Event.{OfJob, Closed}
use Rattle.spool_history.specs.Now.{State}
use Rattle.spool_history.specs.Next.{printer_at}
use Rattle.spool_calls.specs.Looks.Detail.{Octets}
use Rattle.spool_requests.specs.declared.answer.Answer.{Answer}
use Rattle.spool_requests.specs.declared.answer.Answer.TheVariants.{Yes, Accepted, Lent, Stored, Received, Told}
use Rattle.config_values.specs.Config.{queue_named}
use Rattle.spool_requests.specs.Shows.{event_of, has_stopped, numbers_chosen, removal_of, start_of}
use Rattle.spool_trace.specs.declared.step.Step.{Step}
use Rattle.spool_trace.specs.declared.step.Step.TheVariants as step
use Rattle.spool_trace.specs.declared.reply.Given.TheVariants as given
use Rattle.spool_trace.specs.declared.reply.Deed.{Deed}
use Rattle.spool_trace.specs.declared.reply.Deed.TheVariants as deed
use Rattle.spool_trace.specs.declared.reply.Reply.{Reply}
use Rattle.spool_trace.specs.declared.reply.Reply.TheVariants as reply
use Rattle.spool_trace.specs.Trace.{Trace}
use Rattle.spool_trace.specs.Sessions.{Session, session_at, sessions, due_in}
use Rattle.spool_trace.specs.Shown.{comes_back, of_turn, shown, spool_after}
use Rattle.spool_trace.specs.Replies.{IsReply, IsSession, IsTrace}
use Rattle.spool_trace.proofs.Stages.{Stage, Fine, due_fine}
use Rattle.spool_trace.proofs.Kept.{Owned}
use Rattle.spool_trace.proofs.Standing.{kept}
use Rattle.spool_trace.proofs.Turned.{ends_owned, removal_owned, start_owned}
use Rattle.lone_jobs.specs.Lone.{IsOfOthers}

module _ (v : State (List ℕ)) (s : Session) (g : Stage) where
  asked_owned : (r : Request) (answer : Answer) (items : List Item) (text : List ℕ) → Fine s.progress.job g s.unread (Requests r items text) → Owned s (event_of Octets v s.sender s.job r answer)
  asked_owned (BeginFile name count) Yes items text f = (refl, f.1)
  asked_owned AskPage (Lent page_size) items text f = (refl, f.2)
  asked_owned (Filled page) Yes items text f = (refl, f.2)
  asked_owned EndFile Stored items text f = (refl, f.1)
  asked_owned EndFile Received items text f = (refl, f.1)
  asked_owned (Control control) Stored items text f = (refl, f.1)
  asked_owned (Control control) Received items text f = (refl, f.1)
  asked_owned AbortJob Yes items text f = (refl, f.1)
  asked_owned (StartPrinters name) Yes items text f = start_owned s (has_stopped v (queue_named v.config name)) (queue_named v.config name)
  asked_owned (RemoveJobs name agent list) (Told x) items text f = removal_owned s (queue_named v.config name) (numbers_chosen v (queue_named v.config name) agent list)
  asked_owned (Open name) (Accepted number) items text f = tt
  asked_owned r answer items text f = tt

  turn_owned : (d : Due) (done : Deed) → Fine s.progress.job g s.unread d → Owned s (of_turn v s d done)
  turn_owned (Requests r items text) (deed.Asked kind answer) f = asked_owned r answer items text f
  turn_owned d (deed.Refused n) f = ends_owned v s
  turn_owned d deed.Ended f = ends_owned v s
  turn_owned d done f = tt

-- what is shown is no act of this job
abbrev pub IsNotOf : ℕ → Option (Event (List ℕ)) → Type 0
IsNotOf j (Some (OfJob k act)) = k ≢ j
IsNotOf j _ = Unit {0}

owned_apart : (s : Session) (j : ℕ) (o : Option (Event (List ℕ))) → Owned s o → (s.progress.job ≡ true → s.job ≢ j) → IsNotOf j o
owned_apart s j (Some (OfJob k act)) w ne = λ e. ne w.1 (sym w.0 ∙ e)
owned_apart s j o w ne = tt

back_apart : (j p : ℕ) (turn : Turn) (o : Option (Sheet (List ℕ))) → IsNotOf j (comes_back p turn o)
back_apart j p turn None = tt
back_apart j p turn (Some sheet) = tt

close_apart : (j : ℕ) (closed : Bool) → IsNotOf j (cond closed None (Some Closed))
close_apart j true = tt
close_apart j false = tt

module _ (c : Config) (t : Trace) (r : IsTrace c t) (n : ℕ) (there : IsSession (sessions t) n) (hand : (session_at (sessions t) n).progress.job ≡ true) where
  abbrev v0 : State (List ℕ)
  v0 = spool_after c t

  abbrev mine : ℕ
  mine = (session_at (sessions t) n).job

  -- an act of another session that has the job of its own in hand
  by_session : (m : ℕ) → IsSession (sessions t) m → m ≢ n → (o : Option (Event (List ℕ))) → Owned (session_at (sessions t) m) o → IsNotOf mine o
  by_session m is ne o w =
      owned_apart (session_at (sessions t) m) mine o w (λ other. (kept c t r).apart m n is.0 there.0 ne other hand)

  turn_apart : (m : ℕ) (done : Deed) → IsSession (sessions t) m → m ≢ n → IsNotOf mine (of_turn v0 (session_at (sessions t) m) (due_in (session_at (sessions t) m)) done)
  turn_apart m done is ne =
      let s : Session = session_at (sessions t) m in
      let good = (kept c t r).each m is.0 in
      by_session m is ne (of_turn v0 s (due_in s) done) (turn_owned v0 s good.stage (due_in s) done (due_fine s.progress good.stage s.unread good.items good.needs))

  -- what others do is no act of the job that the session has in hand
  pub others_apart : (st : Step) (re : Reply) → IsReply c t st re → IsOfOthers n st → IsNotOf mine (shown v0 (sessions t) st re)
  others_apart (step.Turn m) (reply.Turned done) a other = turn_apart m done a.due.0 other
  others_apart (step.Break m) reply.Broken a other = by_session m a.due.0 other _ (ends_owned v0 (session_at (sessions t) m))
  others_apart (step.Next p) (reply.Gave (given.Page page)) a other = tt
  others_apart (step.Printed p) (reply.Printed progress) a other = back_apart mine p _ (printer_at v0 p).out
  others_apart (step.Failed p) reply.Failed a other = back_apart mine p _ (printer_at v0 p).out
  others_apart step.Shutdown reply.Closed a other = close_apart mine v0.closed
  others_apart st re a other = tt
