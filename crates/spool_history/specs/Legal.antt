-- Which histories may be: each event meets its conditions on the events before it.
use Rattle.std.specs.Prelude.{◌≡◌, ℕ, ◌+◌, ◌-◌, ◌*◌, ◌/◌, ◌^◌, ◌==◌, ◌<◌, ◌≤◌, ◌⊎◌, min, Bool, true, false, List, [], ◌∷◌, ◌++◌, Some, None, length, Contains, if◌then◌else◌}
use Rattle.std.specs.List.Sorted.{IsStrictlyIncreasing}
use Rattle.std.specs.List.{AllByRecursion}
use Rattle.lpd_values.specs.Kept.{is_among, is_operand, is_print_list}
use Rattle.lpd_values.specs.declared.limits.TheConstants.{MAX_FILES}
use Rattle.lpd_values.specs.Contents.{Contents}
use Rattle.config_values.specs.Config.{Config, IsQueue, IsPrinter, limit_of, reserve_of}
use Rattle.spool_history.specs.Base.{Base}
use Rattle.spool_history.specs.Events.{Act, Sheet, Progress, Turn, Event}
use Rattle.spool_history.specs.Events.Act.{Granted, Began, Put, FileEnded, Controlled, Aborted}
use Rattle.spool_history.specs.Events.Progress.{Going, Done, Ended}
use Rattle.spool_history.specs.Events.Turn.{Handed, Printed, Failed}
use Rattle.spool_history.specs.Events.Event.{Opened, OfJob, AtPrinter, Removed, Started, Closed}
use Rattle.spool_history.specs.Acts.{File, names_in, is_open_in}
use Rattle.spool_history.specs.Now.{Job, Printer, State, now, is_received, places, free_pages, IsSafeNow}
use Rattle.spool_history.specs.Next.{next_page, printer_at}
use Rattle.spool_history.specs.Next.Next.{Hands}
use Rattle.spool_history.specs.Steps.{acted, after}

-- one of these jobs has this number, and P holds of it
pub record HasJob {C : Type 0} (jobs : List (Job C)) (j : ℕ) (P : Job C → Type 0) : Type 0 where
  pub job : Job C
  pub there : Contains jobs job
  pub number : job.number ≡ j
  pub is : P job

-- it is being received
abbrev pub IsReceiving : {C : Type 0} → Job C → Type 0
IsReceiving v = (v.ended ≡ false) × (is_received v ≡ false)

-- the last of these files, the one of this number, is open, and P holds of it
abbrev pub HasOpen : {C : Type 0} → List (File C) → ℕ → (File C → Type 0) → Type 0
HasOpen {C} files number P =
    (before : List (File C)) × (last : File C) × (files ≡ before ++ last ∷ []) × (length before ≡ number) × (last.ended ≡ false) × P last

-- how many pages of z octets a file takes
abbrev pub pages_for : ℕ → ℕ → ℕ
pages_for z count = (count + (z - 1)) / z

-- the job may ask for a page: a file of it is open, and no page is lent to it
abbrev pub CanAsk : {C : Type 0} → Job C → Type 0
CanAsk job = IsReceiving job × (is_open_in job.files ≡ true) × (job.lent ≡ false)

-- it holds less than its queue's limit
abbrev pub IsBelowLimit : {C : Type 0} → Config → Job C → Type 0
IsBelowLimit c job = job.granted < limit_of c job.queue

-- no file of it is open
abbrev pub HasNoOpen : {C : Type 0} → Job C → Type 0
HasNoOpen job = is_open_in job.files ≡ false

-- no file of it has this name
abbrev pub HasNoFile : {C : Type 0} → List ℕ → Job C → Type 0
HasNoFile name job = is_among name (names_in job.files) ≡ false

-- it has fewer files than it may have
abbrev pub HasFileRoom : {C : Type 0} → Job C → Type 0
HasFileRoom job = length job.files < MAX_FILES

-- with the pages of a file of so many octets it holds no more than its queue's limit
abbrev pub IsWithinLimit : {C : Type 0} → Config → ℕ → Job C → Type 0
IsWithinLimit c count job = job.granted + pages_for c.page_size count ≤ limit_of c job.queue

-- a page of so many octets is the next one of a file, where a page has z octets: full, but for the last
abbrev pub IsNextPage : {C : Type 0} → ℕ → ℕ → ℕ → File C → Type 0
IsNextPage z number size f =
    (length f.pages ≡ number) × (number * z < f.count) × (size ≡ min z (f.count - number * z))

-- a file has all its pages
abbrev pub HasPages : {C : Type 0} → ℕ → File C → Type 0
HasPages z f = length f.pages ≡ pages_for z f.count

-- what an act asks of its job; z are the octets of a page, and size tells those of one that is put
abbrev pub JobMay : {C : Type 0} → (C → ℕ) → Config → Act C → Job C → Type 0
JobMay size c Granted job = CanAsk job × IsBelowLimit c job
JobMay size c (Began name count) job =
    IsReceiving job × HasNoOpen job × HasNoFile name job × HasFileRoom job × IsWithinLimit c count job
JobMay size c (Put file number page) job =
    IsReceiving job × (job.lent ≡ true) × HasOpen job.files file (IsNextPage c.page_size number (size page))
JobMay size c (FileEnded file whole) job =
    IsReceiving job × (job.lent ≡ false) × HasOpen job.files file (HasPages c.page_size)
    × (whole ≡ is_received (acted (FileEnded file whole) job))
JobMay size c (Controlled control whole) job =
    IsReceiving job × (job.control ≡ None) × (whole ≡ is_received (acted (Controlled control whole) job))
JobMay size c Aborted job = IsReceiving job ⊎ ((job.ended ≡ true) × (job.lent ≡ true))

-- what a control file may hold: a number of three digits, a host and a user, and 1 to 99 names of data files
pub record IsControl (control : Contents) : Type 0 where
  pub number : control.number ≤ 999
  pub host : is_operand control.host ≡ true
  pub user : is_operand control.user ≡ true
  pub prints : is_print_list control.prints ≡ true

-- a page is free, and the state is safe with one page more held and one less needed by this job
abbrev pub MayGrant : {C : Type 0} → State C → ℕ → Type 0
MayGrant v j = (0 < free_pages v) × IsSafeNow (after (OfJob j Granted) v)

-- what an act asks beside what it asks of its job
abbrev pub ActMay : {C : Type 0} → State C → ℕ → Act C → Type 0
ActMay v j Granted = MayGrant v j
ActMay v j (Began name count) = 0 < count
ActMay v j (Controlled control whole) = IsControl control
ActMay v j _ = Unit {0}

-- whether an act of a job's session meets its conditions
abbrev pub MayAct : {C : Type 0} → (C → ℕ) → State C → ℕ → Act C → Type 0
MayAct size v j act = HasJob v.jobs j (JobMay size v.config act) × ActMay v j act

-- the account has room for a job of a queue
abbrev pub HasRoom : {C : Type 0} → State C → ℕ → Type 0
HasRoom v q = v.reserved + reserve_of v.config q + 1 ≤ v.config.account

-- a job is accepted: the spool is open, the queue is known, and neither the table nor the account is full
abbrev pub MayOpen : {C : Type 0} → State C → (job queue : ℕ) → Type 0
MayOpen v j q =
    (v.closed ≡ false) × IsQueue v.config q × (length v.jobs < v.config.max_jobs) × HasRoom v q × (j ≡ v.accepted + 1) × (j < 2 ^ 64)

-- what is said of a job when a page of it was printed: Done for its last place, where it hadn't ended
abbrev pub progress_of : {C : Type 0} → Job C → Progress
progress_of v = if v.ended then Ended else (if v.back + 1 == length (places v) then Done else Going)

abbrev pub MayTurn : {C : Type 0} → State C → ℕ → Sheet C → Turn → Type 0
MayTurn v p sheet Handed = next_page v p ≡ Hands sheet
MayTurn v p sheet (Printed progress) =
    ((printer_at v p).out ≡ Some sheet) × HasJob v.jobs sheet.job (λ job. progress ≡ progress_of job)
MayTurn v p sheet Failed = (printer_at v p).out ≡ Some sheet

-- a received job of this queue that hasn't ended
abbrev pub MayBeRemoved : {C : Type 0} → ℕ → Job C → Type 0
MayBeRemoved q job = (job.queue ≡ q) × (is_received job ≡ true) × (job.ended ≡ false)

-- a printer of this queue is stopped
abbrev pub IsStoppedFor : {C : Type 0} → ℕ → Printer C → Type 0
IsStoppedFor q printer = (printer.queue ≡ q) × (printer.stopped ≡ true)

-- whether an event meets its conditions
abbrev pub May : {C : Type 0} → (C → ℕ) → State C → Event C → Type 0
May size v (Opened j sender q) = MayOpen v j q
May size v (OfJob j act) = MayAct size v j act
May size v (AtPrinter p sheet turn) = IsPrinter v.config p × MayTurn v p sheet turn
May size v (Removed q jobs) =
    (v.closed ≡ false) × IsQueue v.config q × (0 < length jobs) × IsStrictlyIncreasing jobs
    × AllByRecursion (λ j. HasJob v.jobs j (MayBeRemoved q)) jobs
May size v (Started q) =
    (v.closed ≡ false) × IsQueue v.config q × (p : ℕ) × IsPrinter v.config p × IsStoppedFor q (printer_at v p)
May size v Closed = v.closed ≡ false

-- each event meets its conditions on those before it, from a base on; size tells the octets of a page
abbrev pub IsLegal : {C : Type 0} → (C → ℕ) → Config → Base → List (Event C) → Type 0
IsLegal size c b [] = Unit {0}
IsLegal size c b (e ∷ h) = May size (now c b h) e × IsLegal size c b h

-- from a base the list is legal, and leaves the spool here
pub record IsLeftBy {C : Type 0} (size : C → ℕ) (b : Base) (h : List (Event C)) (v : State C) : Type 0 where
  pub legal : IsLegal size v.config b h
  pub here : v ≡ now v.config b h
