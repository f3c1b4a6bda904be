-- A worked history: one job of 11 octets in pages of 8, whose control file comes after its data file, and the close.
use Rattle.std.specs.Prelude.{◌≡◌, ℕ, ◌+◌, true, false, List, [], ◌∷◌, map, drop, length}
use Rattle.lpd_values.specs.Contents.{Contents}
use Rattle.spool_history.specs.Base.{first_base}
use Rattle.spool_history.specs.Events.{Sheet, Event}
use Rattle.spool_history.specs.Events.Act.{Granted, Began, Put, FileEnded, Controlled}
use Rattle.spool_history.specs.Events.Progress.{Going, Done}
use Rattle.spool_history.specs.Events.Turn.{Handed, Printed}
use Rattle.spool_history.specs.Events.Event.{Opened, OfJob, AtPrinter, Closed}
use Rattle.config_values.specs.Config.{Config}
use Rattle.spool_history.specs.Now.{now, free_pages}
use Rattle.spool_history.specs.Legal.{IsLegal}
use Rattle.spool_history.specs.Next.{Next, next_page}
use Rattle.spool_history.specs.Next.Next.{Hands, Nothing, Busy, Over}

-- four pages of eight octets, and one queue whose jobs may hold three pages, with one printer
abbrev pub small : Config
small = record {
  pages = 4;
  page_size = 8;
  max_jobs = 8;
  account = 10000;
  queues = record { name = 108 ∷ 112 ∷ []; limit = 3; printers = 1 } ∷ [];
}

-- the name that is `df`, A and this job number
abbrev pub data_name : ℕ → List ℕ
data_name n = 100 ∷ 102 ∷ 65 ∷ 48 ∷ 48 ∷ (48 + n) ∷ []

abbrev pub control : ℕ → Contents
control n = record { host = 104 ∷ 49 ∷ []; user = 97 ∷ 110 ∷ 110 ∷ []; number = n; prints = data_name n ∷ [] }

-- `hello wo` and `rld`
abbrev pub hello : List ℕ
hello = 104 ∷ 101 ∷ 108 ∷ 108 ∷ 111 ∷ 32 ∷ 119 ∷ 111 ∷ []

abbrev pub rld : List ℕ
rld = 114 ∷ 108 ∷ 100 ∷ []

abbrev pub sheet : (job place : ℕ) → List ℕ → Sheet (List ℕ)
sheet job place page = record { job = job; place = place; file = 0; number = place; page = page }

-- the newest event first
abbrev pub one_job : List (Event (List ℕ))
one_job =
    Closed ∷ AtPrinter 1 (sheet 1 1 rld) (Printed Done) ∷ AtPrinter 1 (sheet 1 1 rld) Handed
    ∷ AtPrinter 1 (sheet 1 0 hello) (Printed Going) ∷ AtPrinter 1 (sheet 1 0 hello) Handed
    ∷ OfJob 1 (Controlled (control 1) true) ∷ OfJob 1 (FileEnded 0 false) ∷ OfJob 1 (Put 0 1 rld) ∷ OfJob 1 Granted
    ∷ OfJob 1 (Put 0 0 hello) ∷ OfJob 1 Granted ∷ OfJob 1 (Began (data_name 1) 11) ∷ Opened 1 1 1 ∷ []

-- what is free after each of the first n events, and what a printer gets next
abbrev pub free_after : Config → List (Event (List ℕ)) → ℕ → ℕ
free_after c h dropped = free_pages (now c first_base (drop dropped h))

abbrev pub next_after : Config → List (Event (List ℕ)) → ℕ → Next (List ℕ)
next_after c h dropped = next_page (now c first_base (drop dropped h)) 1

-- the free pages and the next page, event by event, the newest first
pub record OneJob : Type 0 where
  pub free : map (free_after small one_job) (0 ∷ 1 ∷ 2 ∷ 3 ∷ 4 ∷ 5 ∷ 6 ∷ 7 ∷ 8 ∷ 9 ∷ 10 ∷ 11 ∷ 12 ∷ 13 ∷ []) ≡ 4 ∷ 4 ∷ 3 ∷ 3 ∷ 2 ∷ 2 ∷ 2 ∷ 2 ∷ 2 ∷ 3 ∷ 3 ∷ 4 ∷ 4 ∷ 4 ∷ []
  pub next : map (next_after small one_job) (0 ∷ 1 ∷ 2 ∷ 3 ∷ 4 ∷ 5 ∷ 6 ∷ []) ≡ Over ∷ Nothing ∷ Busy ∷ Hands (sheet 1 1 rld) ∷ Busy ∷ Hands (sheet 1 0 hello) ∷ Nothing ∷ []

-- each event of it meets its conditions
abbrev pub OneJobIsLegal : Type 0
OneJobIsLegal = IsLegal length small first_base one_job
