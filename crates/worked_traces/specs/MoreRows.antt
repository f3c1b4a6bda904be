-- Worked traces in which a job is closed while a page is lent to it, and removed while a page of it is printed.
use Rattle.std.specs.Prelude.{◌≡◌, true, [], ◌∷◌, ◌++◌, codes}
use Rattle.lpd_values.specs.declared.refusal.Refusal.TheVariants.{NotOpen}
use Rattle.spool_history.specs.Events.{Event}
use Rattle.spool_history.specs.Events as history
use Rattle.spool_history.specs.Events.Act.{Granted, Began, Aborted}
use Rattle.spool_history.specs.Events.Event.{Opened, OfJob, AtPrinter, Removed}
use Rattle.spool_history.specs.Now.{free_pages}
use Rattle.worked_histories.specs.Rows.{small, hello, sheet}
use Rattle.spool_trace.specs.declared.step.Step.TheVariants as step
use Rattle.spool_trace.specs.declared.reply.Given.TheVariants as given
use Rattle.spool_trace.specs.declared.reply.Deed.TheVariants as deed
use Rattle.spool_trace.specs.declared.reply.Reply.TheVariants as reply
use Rattle.spool_requests.specs.declared.answer.Answer.TheVariants.{Told, Refused}
use Rattle.spool_requests.specs.declared.answer.RequestKind.TheVariants as kind
use Rattle.account.specs.declared.entry.Progress.TheVariants as said
use Rattle.spool_trace.specs.Trace.{Trace}
use Rattle.spool_trace.specs.Sessions.{session_at, sessions}
use Rattle.spool_trace.specs.Shown.{events, spool_after}
use Rattle.worked_traces.specs.Rows.{newest_first, did, turn, arrive, name_1, first_line, data_line, contents, control_block, opens, begins_file, lent, shown_page, begins, sends_file, sends_control, received}

-- The spool is closed while a page is lent to a job: the page is refused, and the end of the session gives it back.
abbrev pub closed : Trace
closed =
    newest_first (did (step.Connect 1) (reply.Connected 1) ∷ arrive 1 (first_line ++ data_line ++ contents) ∷ begins 1
    ++ opens 1 1 ∷ begins_file 1 ∷ turn 1 deed.Acked ∷ lent 1 ∷ did step.Shutdown reply.Closed
    ∷ turn 1 (deed.Asked kind.Filled (Refused NotOpen)) ∷ turn 1 (deed.Refused NotOpen) ∷ did (step.Turn 1) reply.Gone ∷ []) []

pub record ClosedSession : Type 0 where
  pub shows : events small closed
      ≡ OfJob 1 Aborted ∷ history.Event.Closed ∷ OfJob 1 Granted ∷ OfJob 1 (Began name_1 11) ∷ Opened 1 1 1 ∷ []
  pub free : free_pages (spool_after small closed) ≡ 4
  pub written : (session_at (sessions closed) 1).written ≡ 0 ∷ 0 ∷ 2 ∷ []

-- a job is removed by its user while its first page is printed
abbrev pub removed : Trace
removed =
    newest_first (did (step.Connect 1) (reply.Connected 1) ∷ arrive 1 (first_line ++ data_line ++ contents ++ 0 ∷ control_block)
    ∷ begins 1 ++ sends_file 1 1 ++ sends_control 1 ++ did (step.Next 1) (reply.Gave (given.Page (shown_page 1 0 hello)))
    ∷ did (step.Connect 1) (reply.Connected 2) ∷ arrive 2 (5 ∷ codes "lp ann 001" ++ 10 ∷ [])
    ∷ turn 2 (deed.Asked kind.Remove (Told (codes "removed 001 ann" ++ 10 ∷ []))) ∷ turn 2 deed.Ended
    ∷ did (step.Printed 1) (reply.Printed said.Ended) ∷ did (step.Next 1) (reply.Gave given.Nothing) ∷ []) []

pub record RemovedJob : Type 0 where
  pub shows : events small removed
      ≡ AtPrinter 1 (sheet 1 0 hello) (history.Turn.Printed history.Progress.Ended) ∷ Removed 1 (1 ∷ [])
      ∷ AtPrinter 1 (sheet 1 0 hello) history.Turn.Handed ∷ received 1
  pub free : free_pages (spool_after small removed) ≡ 4
  pub written : (session_at (sessions removed) 2).written ≡ codes "removed 001 ann" ++ 10 ∷ []
  pub over : (session_at (sessions removed) 2).over ≡ true
