-- Where a history leaves a spool: its held jobs, its printers, and what they hold and may still need.
use Rattle.std.specs.Prelude.{ℕ, zero, suc, ◌+◌, ◌-◌, ◌==◌, ◌||◌, not, Bool, List, [], ◌∷◌, ◌++◌, Option, drop, map, filter, length, sum_by, if◌then◌else◌}
use Rattle.counts.specs.Amounts.{amount}
use Rattle.claims.specs.declared.row.Row.{Row}
use Rattle.claims.specs.Safety.{HasFinishingOrder}
use Rattle.lpd_values.specs.Contents.{Contents}
use Rattle.spool_history.specs.Base.{Base}
use Rattle.spool_history.specs.Events.{Event, Sheet}
use Rattle.config_values.specs.Config.{Config, Queue, limit_of, printer_count, queue_of, reserve_of}
use Rattle.spool_history.specs.Acts.{File, Page, all_pages, granted_by, is_lent_by, files_by, control_by, is_whole, pages_among, places_in}
use Rattle.spool_history.specs.Said.{Opening, openings, acts_of, handed_of, back_of, has_ended, out_at, began_at, is_stopped_at, is_closed}

-- what is said of a job
pub record Job (C : Type 0) : Type 0 where
  pub number : ℕ
  pub sender : ℕ
  pub queue : ℕ
  -- pages that were lent to it so far, and whether one is lent now
  pub granted : ℕ
  pub lent : Bool
  pub files : List (File C)
  pub control : Option Contents
  -- how many of its places were handed to a printer, and how many came back
  pub handed : ℕ
  pub back : ℕ
  pub ended : Bool

abbrev pub job_of : {C : Type 0} → List (Event C) → Opening → Job C
job_of h o = record {
  number = o.job;
  sender = o.sender;
  queue = o.queue;
  granted = granted_by (acts_of h o.job);
  lent = is_lent_by (acts_of h o.job);
  files = files_by (acts_of h o.job);
  control = control_by (acts_of h o.job);
  handed = length (handed_of h o.job);
  back = back_of h o.job;
  ended = has_ended h o.job;
}

-- its control file is there, each file that it prints has ended, and none is open
abbrev pub is_received : {C : Type 0} → Job C → Bool
is_received v = is_whole v.control v.files

-- its places, in print order
abbrev pub places : {C : Type 0} → Job C → List (Page C)
places v = places_in v.control v.files

-- a page of the job is out: lent to its session, or at a printer
abbrev pub has_page_out : {C : Type 0} → Job C → Bool
has_page_out v = v.lent || not (v.handed == v.back)

-- a job is held until it has ended and no page of it is out
abbrev pub is_held : {C : Type 0} → Job C → Bool
is_held v = not v.ended || has_page_out v

-- what is said of a printer: its queue, the page that is out at it, the job that it began last, and whether it is stopped
pub record Printer (C : Type 0) : Type 0 where
  pub queue : ℕ
  pub out : Option (Sheet C)
  pub began : Option ℕ
  pub stopped : Bool

abbrev pub printer_of : {C : Type 0} → Config → Base → List (Event C) → ℕ → Printer C
printer_of c b h p = record {
  queue = queue_of c p;
  out = out_at h p;
  began = began_at h p;
  stopped = is_stopped_at b h (queue_of c p) p;
}

-- the numbers from 1 to n
abbrev pub up_to : ℕ → List ℕ
up_to zero = []
up_to (suc n) = up_to n ++ suc n ∷ []

pub record State (C : Type 0) : Type 0 where
  pub config : Config
  -- the held jobs, in order of acceptance
  pub jobs : List (Job C)
  -- the last acceptance number, and the counted reserve
  pub accepted : ℕ
  pub reserved : ℕ
  pub printers : List (Printer C)
  pub closed : Bool

-- where events that came after a base leave a spool
abbrev pub now : {C : Type 0} → Config → Base → List (Event C) → State C
now c b h = record {
  config = c;
  jobs = filter is_held (map (job_of h) (openings h));
  accepted = b.accepted + length (openings h);
  reserved = b.reserved + sum_by (λ (o : Opening). reserve_of c o.queue) (openings h);
  printers = map (printer_of c b h) (up_to (printer_count c));
  closed = is_closed b h;
}

-- the pages of a job that are out: one where one is lent to its session, and one for each that is at a printer
abbrev pub pages_out : {C : Type 0} → Job C → ℕ
pages_out v = (if v.lent then 1 else 0) + (v.handed - v.back)

-- the pages of a received job of which some place hasn't come back
abbrev pub pages_kept : {C : Type 0} → Job C → List (Page C)
pages_kept v = pages_among (drop v.back (places v)) (all_pages 0 v.files)

-- the pages that a held job holds: what was lent to it; once received, those of which some place hasn't come back; once
-- ended, those that are out
abbrev pub pages_held : {C : Type 0} → Job C → ℕ
pages_held v = if v.ended then pages_out v else (if is_received v then length (pages_kept v) else v.granted)

-- the printers of its queue that it holds: one from its first page on
abbrev pub printers_held : {C : Type 0} → Job C → ℕ
printers_held v = if v.handed == 0 then 0 else 1

-- what it may still need (Habermann: its claim less what it holds)
abbrev pub pages_needed : {C : Type 0} → Config → Job C → ℕ
pages_needed c v = if v.ended || is_received v then 0 else limit_of c v.queue - v.granted

abbrev pub printers_needed : {C : Type 0} → Job C → ℕ
printers_needed v = if v.ended then 0 else (if v.handed == 0 then 1 else 0)

-- an amount for pages, and then one for each queue's printers, all but the job's own queue's 0
abbrev pub amounts : Config → ℕ → (queue printers : ℕ) → List ℕ
amounts c pages queue printers = pages ∷ map (λ (q : ℕ). if q == queue then printers else 0) (up_to (length c.queues))

abbrev pub row_of : {C : Type 0} → Config → Job C → Row
row_of c v = record {
  number = v.number;
  sender = v.sender;
  queue = v.queue;
  held = amounts c (pages_held v) v.queue (printers_held v);
  need = amounts c (pages_needed c v) v.queue (printers_needed v);
}

-- what there is of each kind
abbrev pub capacity : Config → List ℕ
capacity c = c.pages ∷ map (λ (q : Queue). q.printers) c.queues

-- what is free of each kind: what no held job holds
abbrev pub free_amount : {C : Type 0} → State C → ℕ → ℕ
free_amount v kind = amount (capacity v.config) kind - sum_by (λ (row : Row). amount row.held kind) (map (row_of v.config) v.jobs)

abbrev pub free_pages : {C : Type 0} → State C → ℕ
free_pages v = free_amount v 0

-- a finishing order of the held jobs exists
abbrev pub IsSafeNow : {C : Type 0} → State C → Type 0
IsSafeNow v = HasFinishingOrder (free_amount v) (map (row_of v.config) v.jobs)
