-- Worked traces of what sessions ask: jobs that print a file twice, requests that are refused, a job that is aborted, the state
-- of a queue, and a printer that is stopped and started.
use Rattle.std.specs.Prelude.{◌≡◌, ℕ, true, false, List, [], ◌∷◌, ◌++◌, codes, map}
use Rattle.lpd_values.specs.Contents.{Contents}
use Rattle.lpd_values.specs.declared.refusal.Refusal.TheVariants.{UnknownQueue, OverClaim, BadCount, NoZero}
use Rattle.account.specs.declared.entry.Progress.TheVariants as said
use Rattle.spool_history.specs.Events.{Event}
use Rattle.spool_history.specs.Events as history
use Rattle.spool_history.specs.Events.Act.{Granted, Began, Put, FileEnded, Controlled, Aborted}
use Rattle.spool_history.specs.Events.Event.{Opened, OfJob, AtPrinter, Started}
use Rattle.spool_history.specs.Now.{free_pages}
use Rattle.worked_histories.specs.Rows.{small, hello, rld, sheet}
use Rattle.spool_requests.specs.declared.answer.Answer.TheVariants.{Yes, Refused, Told}
use Rattle.spool_requests.specs.declared.answer.RequestKind.TheVariants as kind
use Rattle.spool_trace.specs.declared.step.Step.TheVariants as step
use Rattle.spool_trace.specs.declared.reply.Given.TheVariants as given
use Rattle.spool_trace.specs.declared.reply.Deed.TheVariants as deed
use Rattle.spool_trace.specs.declared.reply.Reply.TheVariants as reply
use Rattle.spool_trace.specs.Trace.{Trace}
use Rattle.spool_trace.specs.Sessions.{Session, session_at, sessions}
use Rattle.spool_trace.specs.Shown.{events, spool_after}
use Rattle.worked_traces.specs.Rows.{newest_first, did, turn, arrive, asked, opens, shown_page, name_1, first_line, data_line, contents, control_block, begins, sends_file, sends_control, received, printed, prints}

-- the control file prints the data file twice
abbrev pub control_twice : Contents
control_twice = record { host = codes "h1"; user = codes "ann"; number = 1; prints = name_1 ∷ name_1 ∷ [] }

abbrev pub twice_block : List ℕ
twice_block =
    2 ∷ codes "29 cfA001h1" ++ 10 ∷ codes "Hh1" ++ 10 ∷ codes "Pann" ++ 10 ∷ codes "fdfA001h1" ++ 10 ∷ codes "fdfA001h1" ++ 10 ∷ 0 ∷ []

-- a place of the first job, of which this page is the one of this number
abbrev pub place_of : (place number : ℕ) → List ℕ → Trace
place_of place number octets =
    did (step.Next 1) (reply.Gave (given.Page (record { job = 1; place = place; file = 0; number = number; octets = octets }))) ∷ []

abbrev pub comes_back : Trace
comes_back = did (step.Printed 1) (reply.Printed said.Going) ∷ []

abbrev pub copies : Trace
copies =
    newest_first (did (step.Connect 1) (reply.Connected 1) ∷ arrive 1 (first_line ++ data_line ++ contents ++ 0 ∷ twice_block)
    ∷ begins 1 ++ sends_file 1 1 ++ sends_control 1 ++ place_of 0 0 hello ++ comes_back ++ place_of 1 1 rld ++ comes_back
    ++ place_of 2 0 hello ++ comes_back ++ place_of 3 1 rld ++ did (step.Printed 1) (reply.Printed said.Done)
    ∷ did (step.Next 1) (reply.Gave given.Nothing) ∷ []) []

-- four places, in which each page stands twice
abbrev pub at_place : (place number : ℕ) → List ℕ → history.Turn → Event (List ℕ)
at_place place number octets turned = AtPrinter 1 (record { job = 1; place = place; file = 0; number = number; page = octets }) turned

abbrev pub going : history.Turn
going = history.Turn.Printed history.Progress.Going

pub record Copies : Type 0 where
  pub shows : events small copies
      ≡ at_place 3 1 rld (history.Turn.Printed history.Progress.Done) ∷ at_place 3 1 rld history.Turn.Handed ∷ at_place 2 0 hello going
      ∷ at_place 2 0 hello history.Turn.Handed ∷ at_place 1 1 rld going ∷ at_place 1 1 rld history.Turn.Handed ∷ at_place 0 0 hello going
      ∷ at_place 0 0 hello history.Turn.Handed ∷ OfJob 1 (Controlled control_twice true) ∷ OfJob 1 (FileEnded 0 false)
      ∷ OfJob 1 (Put 0 1 rld) ∷ OfJob 1 Granted ∷ OfJob 1 (Put 0 0 hello) ∷ OfJob 1 Granted ∷ OfJob 1 (Began name_1 11) ∷ Opened 1 1 1 ∷ []
  pub free : free_pages (spool_after small copies) ≡ 4

-- Four sessions that are refused: a data file without octets, a queue that isn't there, a file that may hold too much, and a
-- control file that no octet 00 follows, after which the job is aborted.
abbrev pub refused : Trace
refused =
    newest_first (did (step.Connect 1) (reply.Connected 1) ∷ arrive 1 (first_line ++ 3 ∷ codes "0 dfA001h1" ++ 10 ∷ []) ∷ begins 1
    ++ turn 1 (deed.Refused BadCount) ∷ did (step.Turn 1) reply.Gone
    ∷ did (step.Connect 1) (reply.Connected 2) ∷ arrive 2 (2 ∷ codes "xx" ++ 10 ∷ []) ∷ asked 2 kind.Queue (Refused UnknownQueue)
    ∷ turn 2 (deed.Refused UnknownQueue)
    ∷ did (step.Connect 1) (reply.Connected 3) ∷ arrive 3 (first_line ++ 3 ∷ codes "25 dfA001h1" ++ 10 ∷ []) ∷ begins 3
    ++ opens 3 1 ∷ asked 3 kind.BeginFile (Refused OverClaim) ∷ turn 3 (deed.Refused OverClaim)
    ∷ did (step.Connect 1) (reply.Connected 4) ∷ arrive 4 (first_line ++ 2 ∷ codes "3 cfA002h1" ++ 10 ∷ codes "Hh1" ++ 1 ∷ [])
    ∷ begins 4 ++ opens 4 2 ∷ turn 4 deed.Acked ∷ turn 4 (deed.Refused NoZero) ∷ []) []

pub record RefusedSessions : Type 0 where
  pub shows : events small refused ≡ OfJob 2 Aborted ∷ Opened 2 1 1 ∷ OfJob 1 Aborted ∷ Opened 1 1 1 ∷ []
  pub written : map (λ (s : Session). s.written) (sessions refused) ≡ (0 ∷ 1 ∷ []) ∷ (1 ∷ []) ∷ (0 ∷ 1 ∷ []) ∷ (0 ∷ 0 ∷ 1 ∷ []) ∷ []
  pub over : map (λ (s : Session). s.over) (sessions refused) ≡ true ∷ true ∷ true ∷ true ∷ []
  pub free : free_pages (spool_after small refused) ≡ 4

-- a sender aborts its job after the data file, and sends it again
abbrev pub aborted : Trace
aborted =
    newest_first (did (step.Connect 1) (reply.Connected 1)
    ∷ arrive 1 (first_line ++ data_line ++ contents ++ 0 ∷ 1 ∷ 10 ∷ data_line ++ contents ++ 0 ∷ control_block)
    ∷ begins 1 ++ sends_file 1 1 ++ asked 1 kind.Abort Yes ∷ turn 1 deed.Acked ∷ sends_file 1 2 ++ sends_control 1 ++ prints 2) []

pub record AbortedJob : Type 0 where
  pub shows : events small aborted
      ≡ printed 2 ++ received 2 ++ OfJob 1 Aborted ∷ OfJob 1 (FileEnded 0 false) ∷ OfJob 1 (Put 0 1 rld) ∷ OfJob 1 Granted
      ∷ OfJob 1 (Put 0 0 hello) ∷ OfJob 1 Granted ∷ OfJob 1 (Began name_1 11) ∷ Opened 1 1 1 ∷ []
  pub written : (session_at (sessions aborted) 1).written ≡ 0 ∷ 0 ∷ 0 ∷ 0 ∷ 0 ∷ 0 ∷ 0 ∷ 0 ∷ []
  pub free : free_pages (spool_after small aborted) ≡ 4

-- a page fails; another session asks for the state, and a third starts the printer
abbrev pub state_line : List ℕ
state_line = codes "queue lp jobs 1 printers 1 stopped 0" ++ 10 ∷ codes "waiting 001 ann h1 pages 2" ++ 10 ∷ []

abbrev pub stopped_line : List ℕ
stopped_line = codes "queue lp jobs 0 printers 1 stopped 1" ++ 10 ∷ []

abbrev pub failed : Trace
failed =
    newest_first (did (step.Connect 1) (reply.Connected 1) ∷ arrive 1 (first_line ++ data_line ++ contents ++ 0 ∷ control_block)
    ∷ begins 1 ++ sends_file 1 1 ++ sends_control 1
    ++ did (step.Connect 2) (reply.Connected 2) ∷ arrive 2 (3 ∷ codes "lp" ++ 10 ∷ []) ∷ asked 2 kind.State (Told state_line) ∷ turn 2 deed.Ended
    ∷ did (step.Next 1) (reply.Gave (given.Page (shown_page 1 0 hello))) ∷ did (step.Next 1) (reply.Gave given.Busy)
    ∷ did (step.Failed 1) reply.Failed ∷ did (step.Next 1) (reply.Gave given.Stopped) ∷ did (step.Printed 1) reply.NoPage
    ∷ did (step.Connect 2) (reply.Connected 3) ∷ arrive 3 (3 ∷ codes "lp" ++ 10 ∷ []) ∷ asked 3 kind.State (Told stopped_line) ∷ turn 3 deed.Ended
    ∷ did (step.Connect 2) (reply.Connected 4) ∷ arrive 4 (1 ∷ codes "lp" ++ 10 ∷ []) ∷ asked 4 kind.Start Yes ∷ turn 4 deed.Ended
    ∷ did (step.Next 1) (reply.Gave given.Nothing) ∷ []) []

pub record FailedPage : Type 0 where
  pub shows : events small failed
      ≡ Started 1 ∷ AtPrinter 1 (sheet 1 0 hello) history.Turn.Failed ∷ AtPrinter 1 (sheet 1 0 hello) history.Turn.Handed ∷ received 1
  pub written : map (λ (s : Session). s.written) (sessions failed) ≡ (0 ∷ 0 ∷ 0 ∷ 0 ∷ 0 ∷ []) ∷ state_line ∷ stopped_line ∷ [] ∷ []
  pub free : free_pages (spool_after small failed) ≡ 4
