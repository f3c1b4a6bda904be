-- Worked traces, against which the definitions are read. They are written as they happen, the oldest step first.
use Rattle.std.specs.Prelude.{◌≡◌, ℕ, true, false, List, [], ◌∷◌, ◌++◌, map, drop, codes}
use Rattle.lpd_values.specs.Contents.{Contents}
use Rattle.receiver.specs.Blocks.{between}
use Rattle.spool_history.specs.Events.{Sheet, Event}
use Rattle.spool_history.specs.Events as history
use Rattle.spool_history.specs.Events.Act.{Granted, Began, Put, FileEnded, Controlled, Aborted}
use Rattle.spool_history.specs.Events.Event.{Opened, OfJob, AtPrinter}
use Rattle.spool_history.specs.Acts.{File, files_by}
use Rattle.spool_history.specs.Said.{acts_of}
use Rattle.spool_history.specs.Now.{free_pages}
use Rattle.worked_histories.specs.Rows.{small, hello, rld, sheet}
use Rattle.spool_trace.specs.declared.step.Step.{Step}
use Rattle.spool_trace.specs.declared.step.Step.TheVariants as step
use Rattle.spool_trace.specs.declared.reply.Given.TheVariants as given
use Rattle.spool_trace.specs.declared.reply.Deed.{Deed}
use Rattle.spool_trace.specs.declared.reply.Deed.TheVariants as deed
use Rattle.spool_trace.specs.declared.reply.Reply.{Reply}
use Rattle.spool_trace.specs.declared.reply.Reply.TheVariants as reply
use Rattle.spool_requests.specs.declared.answer.Answer.{Answer}
use Rattle.spool_requests.specs.declared.answer.Answer.TheVariants.{Yes, Accepted, Lent, Later, Stored, Received}
use Rattle.spool_requests.specs.declared.answer.RequestKind.{RequestKind}
use Rattle.spool_requests.specs.declared.answer.RequestKind.TheVariants as kind
use Rattle.spool_trace.specs.declared.reply.ShownPage.{ShownPage}
use Rattle.account.specs.declared.entry.Progress.TheVariants as said
use Rattle.spool_trace.specs.Trace.{Entry, Trace}
use Rattle.spool_trace.specs.Sessions.{Session, session_at, sessions}
use Rattle.spool_trace.specs.Shown.{events, spool_after}
use Rattle.spool_trace.specs.Replies.{IsReply, IsTrace}
use Rattle.spool_trace.specs.Headline.{IsAsArrived}

abbrev pub newest_first : Trace → Trace → Trace
newest_first [] t = t
newest_first (e ∷ es) t = newest_first es (e ∷ t)

abbrev pub did : Step → Reply → Entry
did st re = record { step = st; reply = re }

abbrev pub turn : ℕ → Deed → Entry
turn n done = did (step.Turn n) (reply.Turned done)

abbrev pub arrive : ℕ → List ℕ → Entry
arrive n octets = did (step.Arrive n octets) reply.Taken

abbrev pub asked : ℕ → RequestKind → Answer → Entry
asked n of_kind answer = turn n (deed.Asked of_kind answer)

-- what a session asks when all goes well: to be admitted, a job, a file, a page of eight octets, which it then fills
abbrev pub admitted : ℕ → Entry
admitted n = asked n kind.Queue Yes

abbrev pub opens : (session job : ℕ) → Entry
opens n j = asked n kind.Open (Accepted j)

abbrev pub begins_file : ℕ → Entry
begins_file n = asked n kind.BeginFile Yes

abbrev pub lent : ℕ → Entry
lent n = asked n kind.Page (Lent 8)

abbrev pub fills : ℕ → Entry
fills n = asked n kind.Filled Yes

-- the file ends, and the control file makes the job whole
abbrev pub ends_file : ℕ → Entry
ends_file n = asked n kind.EndFile Stored

abbrev pub is_whole : ℕ → Entry
is_whole n = asked n kind.Control Received

-- a page at the printer, of the job's first file
abbrev pub shown_page : (job place : ℕ) → List ℕ → ShownPage
shown_page j place octets = record { job = j; place = place; file = 0; number = place; octets = octets }

-- the name of a data file, and what the control file says that prints it
abbrev pub name_1 : List ℕ
name_1 = codes "dfA001h1"

abbrev pub control_1 : Contents
control_1 = record { host = codes "h1"; user = codes "ann"; number = 1; prints = name_1 ∷ [] }

-- the first line, the data file, and the control file
abbrev pub first_line : List ℕ
first_line = 2 ∷ codes "lp" ++ 10 ∷ []

abbrev pub data_line : List ℕ
data_line = 3 ∷ codes "11 dfA001h1" ++ 10 ∷ []

abbrev pub contents : List ℕ
contents = codes "hello world"

abbrev pub control_block : List ℕ
control_block = 2 ∷ codes "19 cfA001h1" ++ 10 ∷ codes "Hh1" ++ 10 ∷ codes "Pann" ++ 10 ∷ codes "fdfA001h1" ++ 10 ∷ 0 ∷ []

-- what a session does for its first line, and for a file and a control file that are accepted
abbrev pub begins : ℕ → Trace
begins n = admitted n ∷ turn n deed.Acked ∷ []

abbrev pub sends_file : (session job : ℕ) → Trace
sends_file n j =
    opens n j ∷ begins_file n ∷ turn n deed.Acked ∷ lent n ∷ fills n
    ∷ lent n ∷ fills n ∷ ends_file n ∷ turn n deed.Acked ∷ []

abbrev pub sends_control : ℕ → Trace
sends_control n = turn n deed.Acked ∷ is_whole n ∷ turn n deed.Acked ∷ turn n deed.Waited ∷ []

abbrev pub prints : (job : ℕ) → Trace
prints j =
    did (step.Next 1) (reply.Gave (given.Page (shown_page j 0 hello))) ∷ did (step.Printed 1) (reply.Printed said.Going)
    ∷ did (step.Next 1) (reply.Gave (given.Page (shown_page j 1 rld))) ∷ did (step.Printed 1) (reply.Printed said.Done) ∷ []

-- one job, which arrives in one piece
abbrev pub one_job : Trace
one_job =
    newest_first (did (step.Connect 1) (reply.Connected 1) ∷ arrive 1 (first_line ++ data_line ++ contents ++ 0 ∷ control_block)
    ∷ begins 1 ++ sends_file 1 1 ++ sends_control 1 ++ prints 1 ++ did step.Shutdown reply.Closed ∷ []) []

-- its events, the newest first
abbrev pub received : (job : ℕ) → List (Event (List ℕ))
received j =
    OfJob j (Controlled control_1 true) ∷ OfJob j (FileEnded 0 false) ∷ OfJob j (Put 0 1 rld) ∷ OfJob j Granted
    ∷ OfJob j (Put 0 0 hello) ∷ OfJob j Granted ∷ OfJob j (Began name_1 11) ∷ Opened j 1 1 ∷ []

abbrev pub printed : (job : ℕ) → List (Event (List ℕ))
printed j =
    AtPrinter 1 (sheet j 1 rld) (history.Turn.Printed history.Progress.Done) ∷ AtPrinter 1 (sheet j 1 rld) history.Turn.Handed
    ∷ AtPrinter 1 (sheet j 0 hello) (history.Turn.Printed history.Progress.Going) ∷ AtPrinter 1 (sheet j 0 hello) history.Turn.Handed ∷ []

pub record OneJob : Type 0 where
  pub shows : events small one_job ≡ history.Event.Closed ∷ printed 1 ++ received 1
  pub written : (session_at (sessions one_job) 1).written ≡ 0 ∷ 0 ∷ 0 ∷ 0 ∷ 0 ∷ []
  pub progress : (session_at (sessions one_job) 1).progress ≡ between (codes "lp") false
  pub unread : (session_at (sessions one_job) 1).unread ≡ []

-- Two sessions of one sender send such a job each, in three pieces: the second's pieces come between those of the first,
-- and the first's is accepted first.
abbrev pub two_sessions : Trace
two_sessions =
    newest_first (did (step.Connect 1) (reply.Connected 1) ∷ did (step.Connect 1) (reply.Connected 2)
    ∷ arrive 1 (first_line ++ 3 ∷ codes "11 df") ∷ begins 1 ++ turn 1 deed.Waited
    ∷ arrive 2 (first_line ++ 3 ∷ codes "11") ∷ begins 2 ++ turn 2 deed.Waited
    ∷ arrive 1 (codes "A001h1" ++ 10 ∷ contents) ∷ opens 1 1 ∷ begins_file 1 ∷ turn 1 deed.Acked
    ∷ lent 1 ∷ fills 1 ∷ lent 1 ∷ fills 1 ∷ turn 1 deed.Waited
    ∷ arrive 2 (codes " dfA001h1" ++ 10 ∷ codes "hell") ∷ opens 2 2 ∷ begins_file 2 ∷ turn 2 deed.Acked ∷ lent 2 ∷ turn 2 deed.Waited
    ∷ arrive 1 (0 ∷ control_block) ∷ ends_file 1 ∷ turn 1 deed.Acked ∷ sends_control 1
    ++ prints 1
    ++ arrive 2 (codes "o world" ++ 0 ∷ control_block) ∷ fills 2 ∷ lent 2 ∷ fills 2 ∷ ends_file 2 ∷ turn 2 deed.Acked
    ∷ sends_control 2 ++ prints 2) []

pub record TwoSessions : Type 0 where
  pub shows : events small two_sessions
      ≡ printed 2 ++ OfJob 2 (Controlled control_1 true) ∷ OfJob 2 (FileEnded 0 false) ∷ OfJob 2 (Put 0 1 rld) ∷ OfJob 2 Granted
      ∷ OfJob 2 (Put 0 0 hello) ∷ printed 1 ++ OfJob 1 (Controlled control_1 true) ∷ OfJob 1 (FileEnded 0 false)
      ∷ OfJob 2 Granted ∷ OfJob 2 (Began name_1 11) ∷ Opened 2 1 1 ∷ OfJob 1 (Put 0 1 rld) ∷ OfJob 1 Granted
      ∷ OfJob 1 (Put 0 0 hello) ∷ OfJob 1 Granted ∷ OfJob 1 (Began name_1 11) ∷ Opened 1 1 1 ∷ []
  pub written : map (λ (s : Session). s.written) (sessions two_sessions) ≡ (0 ∷ 0 ∷ 0 ∷ 0 ∷ 0 ∷ []) ∷ (0 ∷ 0 ∷ 0 ∷ 0 ∷ 0 ∷ []) ∷ []

-- a connection breaks in the middle of a page, which was lent to its job
abbrev pub broken : Trace
broken =
    newest_first (did (step.Connect 1) (reply.Connected 1) ∷ arrive 1 (first_line ++ data_line ++ codes "hello wor") ∷ begins 1
    ++ opens 1 1 ∷ begins_file 1 ∷ turn 1 deed.Acked ∷ lent 1 ∷ fills 1
    ∷ lent 1 ∷ turn 1 deed.Waited ∷ did (step.Break 1) reply.Broken ∷ did (step.Turn 1) reply.Gone ∷ []) []

pub record BrokenSession : Type 0 where
  pub shows : events small broken
      ≡ OfJob 1 Aborted ∷ OfJob 1 Granted ∷ OfJob 1 (Put 0 0 hello) ∷ OfJob 1 Granted ∷ OfJob 1 (Began name_1 11) ∷ Opened 1 1 1 ∷ []
  pub free : free_pages (spool_after small broken) ≡ 4
  pub over : map (λ (s : Session). s.over) (sessions broken) ≡ true ∷ []

-- each reply of the first trace is the one that is due
abbrev pub OneJobIsRight : Type 0
OneJobIsRight = IsTrace small one_job

-- after this trace a step may not get this reply
abbrev pub IsWrong : Trace → Step → Reply → Type 0
IsWrong t step reply = IsReply small t step reply → ⊥

-- of the trace of one job, drop n is what it was before its newest n entries
pub record AreWrong : Type 0 where
  -- a request that is due is hidden
  pub hidden : IsWrong (drop 20 one_job) (step.Turn 1) (reply.Turned deed.Waited)
  -- another number than the next, and a page of another size
  pub other_job : IsWrong (drop 18 one_job) (step.Turn 1) (reply.Turned (deed.Asked kind.Open (Accepted 2)))
  pub other_size : IsWrong (drop 15 one_job) (step.Turn 1) (reply.Turned (deed.Asked kind.Page (Lent 4)))
  -- another thing than the one that is due
  pub acked : IsWrong (drop 11 one_job) (step.Turn 1) (reply.Turned deed.Acked)
  -- another page than the next, and the next page again while one is out
  pub other_page : IsWrong (drop 5 one_job) (step.Next 1) (reply.Gave (given.Page (shown_page 1 1 rld)))
  pub again : IsWrong (drop 4 one_job) (step.Next 1) (reply.Gave (given.Page (shown_page 1 0 hello)))
  -- the printer has no page, there is no such printer, no such session
  pub no_page : IsWrong (drop 5 one_job) (step.Printed 1) (reply.Printed said.Going)
  pub no_printer : IsWrong (drop 5 one_job) (step.Next 2) (reply.Gave given.Nothing)
  pub no_session : IsWrong one_job (step.Turn 2) (reply.Turned deed.Waited)
  -- a session that is over answers Gone, and not that memory is short
  pub over : IsWrong broken (step.Turn 1) reply.Memory

-- the file of the first trace's job, as the events have it, and as it arrived
abbrev pub file_1 : File (List ℕ)
file_1 = record { name = name_1; count = 11; pages = hello ∷ rld ∷ []; ended = true }

pub record FileArrived : Type 0 where
  pub files : files_by (acts_of (events small one_job) 1) ≡ file_1 ∷ []
  pub arrived : IsAsArrived small one_job 1 1 file_1
