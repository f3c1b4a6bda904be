-- What a spool is made for. Queues have the numbers 1, 2 and so on, and printers are numbered from 1 over all queues.
use Rattle.std.specs.Prelude.{ℕ, ◌+◌, ◌-◌, ◌*◌, ◌==◌, ◌≤◌, nat_le, List, [], ◌∷◌, if◌then◌else◌, length, sum_by, slice_index_or}
use Rattle.std.specs.Str.{bytes_eq}

pub record Queue : Type 0 where
  pub name : List ℕ
  -- the pages that a job of it may hold
  pub limit : ℕ
  pub printers : ℕ

pub record Config : Type 0 where
  pub pages : ℕ
  -- octets of a page
  pub page_size : ℕ
  -- how many jobs may be held at once
  pub max_jobs : ℕ
  -- how many entries the account may have
  pub account : ℕ
  pub queues : List Queue

-- a queue has this number
abbrev pub IsQueue : Config → ℕ → Type 0
IsQueue c q = (1 ≤ q) × (q ≤ length c.queues)

abbrev pub no_queue : Queue
no_queue = record { name = []; limit = 0; printers = 0 }

-- the queue of a number; 0 is the number of none
abbrev pub queue_at : Config → ℕ → Queue
queue_at c q = slice_index_or (no_queue ∷ c.queues) q no_queue

abbrev pub limit_of : Config → ℕ → ℕ
limit_of c q = (queue_at c q).limit

-- the number of the queue of a name, where the first of these queues has the number n; 0 where there is none
abbrev pub named_from : ℕ → List Queue → List ℕ → ℕ
named_from n [] name = 0
named_from n (q ∷ qs) name = if bytes_eq q.name name then n else named_from (n + 1) qs name

abbrev pub queue_named : Config → List ℕ → ℕ
queue_named c name = named_from 1 c.queues name

-- how many printers there are
abbrev pub printer_count : Config → ℕ
printer_count c = sum_by (λ (q : Queue). q.printers) c.queues

-- a printer has this number
abbrev pub IsPrinter : Config → ℕ → Type 0
IsPrinter c p = (1 ≤ p) × (p ≤ printer_count c)

-- the number of the queue that a printer serves, where the first of these queues has the number n
abbrev pub served_from : ℕ → List Queue → ℕ → ℕ
served_from n [] p = 0
served_from n (q ∷ qs) p = if nat_le p q.printers then n else served_from (n + 1) qs (p - q.printers)

-- the number of the queue that a printer serves, or 0 where no printer has this number
abbrev pub queue_of : Config → ℕ → ℕ
queue_of c p = if p == 0 then 0 else served_from 1 c.queues p

-- what a job of a queue may add to the account: its opening, its control file, its abort, its removal, the start of a
-- printer that failed on it, 52 files that begin and end, its limit twice (granted, put) and 99 times its limit twice
-- (handed out, come back: each of 99 print lines may print all its pages), which are 200 times the limit and 109; the
-- last three entries are slack, which no event takes
abbrev pub reserve_of : Config → ℕ → ℕ
reserve_of c q = 200 * limit_of c q + 112
