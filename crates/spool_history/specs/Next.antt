-- Which page a printer gets next.
use Rattle.std.specs.Prelude.{ℕ, ◌==◌, ◌&&◌, not, nat_lt, Bool, false, List, [], ◌∷◌, Option, Some, None, drop, find, if◌then◌else◌, slice_index_or}
use Rattle.std.specs.List.{list_any}
use Rattle.spool_history.specs.Events.{Sheet}
use Rattle.spool_history.specs.Acts.{Page}
use Rattle.spool_history.specs.Now.{Job, Printer, State, is_received, places}

pub data Next (C : Type 0) : Type 0 where
  Hands : Sheet C → Next C
  Nothing : Next C
  Stops : Next C
  Busy : Next C
  Over : Next C

-- the first of these pages, as this place of a job
abbrev pub hand_first : {C : Type 0} → (job place : ℕ) → List (Page C) → Next C
hand_first job place [] = Nothing
hand_first job place (x ∷ xs) = Hands (record { job = job; place = place; file = x.file; number = x.number; page = x.page })

-- the next place of a job, if there is one
abbrev pub hand_of : {C : Type 0} → Option (Job C) → Next C
hand_of None = Nothing
hand_of (Some v) = hand_first v.number v.handed (drop v.handed (places v))

-- whether the second is an earlier job of the first's sender and queue
abbrev pub is_preceded_by : {C : Type 0} → Job C → Job C → Bool
is_preceded_by w v = (v.sender == w.sender) && ((v.queue == w.queue) && nat_lt v.number w.number)

-- received and not ended, with no page handed, and all earlier jobs of its sender and queue are gone
abbrev pub is_ready : {C : Type 0} → List (Job C) → Job C → Bool
is_ready jobs w = is_received w && (not w.ended && ((w.handed == 0) && not (list_any (is_preceded_by w) jobs)))

-- the least-numbered ready job of a queue
abbrev pub first_ready : {C : Type 0} → List (Job C) → ℕ → Option (Job C)
first_ready jobs q = find (λ w. (w.queue == q) && is_ready jobs w) jobs

-- the job that the printer began, while it hasn't ended, or else the first that is ready
abbrev pub or_first : {C : Type 0} → List (Job C) → ℕ → Option (Job C) → Option (Job C)
or_first jobs q None = first_ready jobs q
or_first jobs q (Some v) = Some v

abbrev pub turn_of : {C : Type 0} → List (Job C) → ℕ → Option ℕ → Option (Job C)
turn_of jobs q None = first_ready jobs q
turn_of jobs q (Some j) = or_first jobs q (find (λ v. (v.number == j) && not v.ended) jobs)

abbrev pub with_out : {C : Type 0} → List (Job C) → Printer C → Option (Sheet C) → Next C
with_out jobs p (Some sheet) = Busy
with_out jobs p None = hand_of (turn_of jobs p.queue p.began)

-- a stopped printer gets nothing, and one at which a page is out gets no other
abbrev pub next_at : {C : Type 0} → List (Job C) → Printer C → Next C
next_at jobs p = if p.stopped then Stops else with_out jobs p p.out

abbrev pub no_printer : {C : Type 0} → Printer C
no_printer = record { queue = 0; out = None; began = None; stopped = false }

-- the printer of a number; 0 is the number of none
abbrev pub printer_at : {C : Type 0} → State C → ℕ → Printer C
printer_at v p = slice_index_or (no_printer ∷ v.printers) p no_printer

-- after the close nothing is handed
abbrev pub next_page : {C : Type 0} → State C → ℕ → Next C
next_page v p = if v.closed then Over else next_at v.jobs (printer_at v p)
