-- More worked histories over the same small spool. The newest event stands first.
use Rattle.std.specs.Prelude.{◌≡◌, ℕ, ◌+◌, true, false, List, [], ◌∷◌, ◌++◌, map, length}
use Rattle.spool_history.specs.Base.{first_base}
use Rattle.spool_history.specs.Events.{Progress, Event}
use Rattle.spool_history.specs.Events.Act.{Granted, Began, Put, FileEnded, Controlled, Aborted}
use Rattle.spool_history.specs.Events.Progress.{Going, Done, Ended}
use Rattle.spool_history.specs.Events.Turn.{Handed, Printed, Failed}
use Rattle.spool_history.specs.Events.Event.{Opened, OfJob, AtPrinter, Removed, Started, Closed}
use Rattle.config_values.specs.Config.{reserve_of}
use Rattle.spool_history.specs.Said.{has_ended, is_done}
use Rattle.spool_history.specs.Now.{now, free_pages}
use Rattle.spool_history.specs.Next.{Next, next_page}
use Rattle.spool_history.specs.Next.Next.{Hands, Nothing, Stops, Busy, Over}
use Rattle.spool_history.specs.Legal.{May, progress_of}
use Rattle.worked_histories.specs.Rows.{small, data_name, control, hello, rld, sheet}

-- a job of 11 octets of this sender is received
abbrev pub received : (job sender : ℕ) → List (Event (List ℕ))
received j s =
    OfJob j (Controlled (control j) true) ∷ OfJob j (FileEnded 0 false) ∷ OfJob j (Put 0 1 rld) ∷ OfJob j Granted
    ∷ OfJob j (Put 0 0 hello) ∷ OfJob j Granted ∷ OfJob j (Began (data_name j) 11) ∷ Opened j s 1 ∷ []

-- a job of 5 octets, `hello` and no more
abbrev pub again : List ℕ
again = 97 ∷ 103 ∷ 97 ∷ 105 ∷ 110 ∷ []

abbrev pub short_job : (job sender : ℕ) → List (Event (List ℕ))
short_job j s =
    OfJob j (Controlled (control j) true) ∷ OfJob j (FileEnded 0 false) ∷ OfJob j (Put 0 0 again) ∷ OfJob j Granted
    ∷ OfJob j (Began (data_name j) 5) ∷ Opened j s 1 ∷ []

-- a page of a job is handed out, and comes back
abbrev pub printed : (job place : ℕ) → List ℕ → Progress → List (Event (List ℕ))
printed j k page progress = AtPrinter 1 (sheet j k page) (Printed progress) ∷ AtPrinter 1 (sheet j k page) Handed ∷ []

abbrev pub next_of : List (Event (List ℕ)) → Next (List ℕ)
next_of h = next_page (now small first_base h) 1

abbrev pub free_of : List (Event (List ℕ)) → ℕ
free_of h = free_pages (now small first_base h)

-- two jobs of one sender: the pages of the first leave, and then that of the second
abbrev pub two_jobs : List (Event (List ℕ))
two_jobs = short_job 2 1 ++ received 1 1

pub record TwoJobs : Type 0 where
  pub first : next_of two_jobs ≡ Hands (sheet 1 0 hello)
  pub then_rest : next_of (printed 1 0 hello Going ++ two_jobs) ≡ Hands (sheet 1 1 rld)
  pub then_second : next_of (printed 1 1 rld Done ++ (printed 1 0 hello Going ++ two_jobs)) ≡ Hands (sheet 2 0 again)
  pub at_last : next_of (printed 2 0 again Done ++ (printed 1 1 rld Done ++ (printed 1 0 hello Going ++ two_jobs))) ≡ Nothing
  pub free : map free_of (two_jobs ∷ (printed 1 0 hello Going ++ two_jobs) ∷ []) ≡ 1 ∷ 2 ∷ []

-- an aborted job has given all back
pub record AbortedJob : Type 0 where
  pub before : free_of (OfJob 1 (Put 0 0 hello) ∷ OfJob 1 Granted ∷ OfJob 1 (Began (data_name 1) 11) ∷ Opened 1 1 1 ∷ []) ≡ 3
  pub lent : free_of (OfJob 1 Granted ∷ OfJob 1 (Put 0 0 hello) ∷ OfJob 1 Granted ∷ OfJob 1 (Began (data_name 1) 11) ∷ Opened 1 1 1 ∷ []) ≡ 2
  pub after : free_of (OfJob 1 Aborted ∷ OfJob 1 Granted ∷ OfJob 1 (Put 0 0 hello) ∷ OfJob 1 Granted ∷ OfJob 1 (Began (data_name 1) 11) ∷ Opened 1 1 1 ∷ []) ≡ 4
  pub nothing : next_of (OfJob 1 Aborted ∷ received 1 1) ≡ Nothing

-- a job of one sender that is removed while a page of it is at the printer: the next one begins only after that page is back
abbrev pub removed : List (Event (List ℕ))
removed = Removed 1 (1 ∷ []) ∷ AtPrinter 1 (sheet 1 0 hello) Handed ∷ two_jobs

pub record RemovedJob : Type 0 where
  pub busy : next_of removed ≡ Busy
  pub has_ended : has_ended removed 1 ≡ true
  pub gives_back : map free_of (two_jobs ∷ removed ∷ (AtPrinter 1 (sheet 1 0 hello) (Printed Ended) ∷ removed) ∷ []) ≡ 1 ∷ 2 ∷ 3 ∷ []
  pub not_done : is_done (AtPrinter 1 (sheet 1 0 hello) (Printed Ended) ∷ removed) 1 ≡ false
  pub then_next : next_of (AtPrinter 1 (sheet 1 0 hello) (Printed Ended) ∷ removed) ≡ Hands (sheet 2 0 again)
  -- also with a second printer's eyes: while the first job is dying, the second isn't ready
  pub said : map progress_of (now small first_base removed).jobs ≡ Ended ∷ Done ∷ []

-- a page fails: the job ends, all its pages are back, and the printer is stopped until its queue is started
abbrev pub failed : List (Event (List ℕ))
failed = AtPrinter 1 (sheet 1 0 hello) Failed ∷ AtPrinter 1 (sheet 1 0 hello) Handed ∷ received 1 1

pub record FailedPage : Type 0 where
  pub stops : next_of failed ≡ Stops
  pub free : free_of failed ≡ 4
  pub gone : length (now small first_base failed).jobs ≡ 0
  pub started : next_of (Started 1 ∷ failed) ≡ Nothing

-- a spool is closed with a page at the printer, a job that waits and a job that is being received
abbrev pub closed : List (Event (List ℕ))
closed =
    Closed ∷ OfJob 3 (Put 0 0 hello) ∷ OfJob 3 Granted ∷ OfJob 3 (Began (data_name 3) 16) ∷ Opened 3 3 1
    ∷ (short_job 2 2 ++ (AtPrinter 1 (sheet 1 0 again) Handed ∷ short_job 1 1))

pub record ClosedSpool : Type 0 where
  pub over : next_of closed ≡ Over
  pub one_out : free_of closed ≡ 3
  pub dying : map progress_of (now small first_base closed).jobs ≡ Ended ∷ []
  pub all_back : free_of (AtPrinter 1 (sheet 1 0 again) (Printed Ended) ∷ closed) ≡ 4

-- two jobs that fill the account: their reserves and one more entry are 1,425
abbrev pub one_opened : List (Event (List ℕ))
one_opened = Opened 1 1 1 ∷ []

-- a second job may be accepted where the account has so many entries
abbrev pub MayOpenSecond : ℕ → Type 0
MayOpenSecond n = May length (now (record small { account = n }) first_base one_opened) (Opened 2 1 1)

pub record FilledAccount : Type 0 where
  pub needs : (now small first_base one_opened).reserved + reserve_of small 1 + 1 ≡ 1425
  pub fits : MayOpenSecond 1425
  pub is_full : MayOpenSecond 1424 → ⊥
