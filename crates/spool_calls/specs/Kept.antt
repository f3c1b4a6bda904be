-- What a core keeps of where a history leaves its spool.
use Rattle.std.specs.Prelude.{◌≡◌, ℕ, zero, suc, ◌-◌, ◌*◌, ◌==◌, ◌&&◌, not, Bool, false, List, [], ◌∷◌, Option, Some, None, map, drop, length, slice_get, if◌then◌else◌}
use Rattle.std.specs.List.{list_any}
use Rattle.page_pool.specs.Page.{Page, Pages}
use Rattle.page_chain.specs.declared.place.Place.{Place}
use Rattle.page_chain.specs.Changes.{is_same_place}
use Rattle.claims.specs.Claims.{Claims}
use Rattle.account.specs.declared.entry.Sheet.{Sheet}
use Rattle.held_jobs.specs.declared.file.DataFile.{DataFile}
use Rattle.held_jobs.specs.declared.phase.Phase.{Phase}
use Rattle.held_jobs.specs.declared.phase.Phase.TheVariants.{Receiving, Received, Ended}
use Rattle.held_jobs.specs.Jobs.{Facts}
use Rattle.held_jobs.specs.Books.{Books}
use Rattle.held_jobs.specs.Shown.{Shelf, ShownJob, see_job}
use Rattle.held_jobs.specs.Shown as S
use Rattle.config_values.specs.Config.{Config}
use Rattle.spool_history.specs.Base.{Base}
use Rattle.spool_history.specs.Events as E
use Rattle.spool_history.specs.Events.{Event}
use Rattle.spool_history.specs.Acts as A
use Rattle.spool_history.specs.Acts.{is_open_in}
use Rattle.spool_history.specs.Now as N
use Rattle.spool_history.specs.Now.{State, is_received, places, now, free_pages}
use Rattle.spool_history.specs.Legal.{IsLegal}
use Rattle.spool_laws.specs.Sums.{chained}
use Rattle.spool_history.specs.Claimed.{IsTableOf}
use Rattle.spool_calls.specs.declared.handed.HandedPage.{HandedPage}
use Rattle.spool_calls.specs.declared.printer.Printer.{Printer}
use Rattle.spool_calls.specs.Looks.{Detail, What, see, size, outline_in, outline_of}

-- how far a job is
abbrev pub phase_of : {C : Type 0} → N.Job C → Phase
phase_of v = if v.ended then Ended else (if is_received v then Received else Receiving)

-- of a data file the name, the length, how many of its octets are still to come, and how many pages have come
abbrev pub size_of : {C : Type 0} → ℕ → A.File C → DataFile
size_of page_size f = record { name = f.name; count = f.count; left = f.count - length f.pages * page_size; pages = length f.pages }

abbrev pub facts_of : {C : Type 0} → Config → N.Job C → Facts
facts_of {C} c v = record {
  number = v.number;
  sender = v.sender;
  queue = v.queue;
  phase = phase_of v;
  granted = v.granted;
  lent = v.lent;
  files = map {A = A.File C} {B = DataFile} (size_of c.page_size) v.files;
  control = v.control;
  handed = v.handed;
  back = v.back;
}

-- the place of a page: the number of its file, and its own in that
abbrev pub place_of : {C : Type 0} → A.Page C → Place
place_of x = record { file = x.file; number = x.number }

-- the places of a job, in print order
abbrev pub spots : {C : Type 0} → N.Job C → List Place
spots {C} v = map {A = A.Page C} {B = Place} place_of (places v)

-- the place that was handed out last, where so many were
abbrev pub last_of : List Place → ℕ → Option Place
last_of spots zero = None
last_of spots (suc n) = slice_get spots n

abbrev pub is_at : Option Place → Place → Bool
is_at None place = false
is_at (Some other) place = is_same_place place other

-- the page of a place is in its chain: some place of it hasn't come back, and it isn't at a printer
abbrev pub is_there : List Place → (handed back : ℕ) → Place → Bool
is_there spots handed back place =
    list_any (is_same_place place) (drop back spots) && not (not (handed == back) && is_at (slice_get spots back) place)

-- a file is printed
abbrev pub is_printed : List Place → ℕ → Bool
is_printed spots file = list_any (λ (place : Place). place.file == file) spots

-- pages of a file, the first of which has this number, where only those are there of which the test says so
abbrev pub shelved : {C : Type 0} → (Place → Bool) → (file number : ℕ) → List C → List (Option C)
shelved there file n [] = []
shelved there file n (page ∷ pages) =
    (if there (record { file = file; number = n }) then Some page else None) ∷ shelved there file (suc n) pages

-- the files, the first of which has this number: of one that is printed the pages that are there, of all others none
abbrev pub shelved_files : {C : Type 0} → (ℕ → Bool) → (Place → Bool) → ℕ → List (A.File C) → List (S.File C)
shelved_files printed there n [] = []
shelved_files printed there n (f ∷ fs) =
    record { name = f.name; pages = if printed n then shelved there n 0 f.pages else [] } ∷ shelved_files printed there (suc n) fs

abbrev pub whole_file : {C : Type 0} → A.File C → S.File C
whole_file {C} f = record { name = f.name; pages = map {A = C} {B = Option C} (λ page. Some page) f.pages }

-- what a job has in its chain: all its files while it is being received; then the pages of those that are printed, as long as
-- some place of them is still to come; and nothing once it has ended
abbrev pub shelf_of : {C : Type 0} → Phase → List (A.File C) → (handed back : ℕ) → List Place → Shelf C
shelf_of {C} Receiving files handed back spots =
    record { files = map {A = A.File C} {B = S.File C} whole_file files; is_open = is_open_in files; places = []; last = None }
shelf_of Received files handed back spots = record {
  files = shelved_files (is_printed spots) (is_there spots handed back) 0 files;
  is_open = false;
  places = drop handed spots;
  last = last_of spots handed;
}
shelf_of Ended files handed back spots = record { files = []; is_open = false; places = []; last = None }

-- what is kept of a job
abbrev pub shown_job : {C : Type 0} → Config → N.Job C → ShownJob C
shown_job c v = record { facts = facts_of c v; shelf = shelf_of (phase_of v) v.files v.handed v.back (spots v) }

-- of a page at a printer its length and digest are kept
abbrev pub kept_sheet : (d : Detail) → E.Sheet (What d) → Sheet
kept_sheet d s = record { job = s.job; place = s.place; file = s.file; number = s.number; page = outline_in d s.page }

-- and so of one that goes to a printer
abbrev pub sheet_out : HandedPage → Sheet
sheet_out p = record { job = p.job; place = p.place; file = p.file; number = p.number; page = outline_of p.page.octets }

abbrev pub kept_out : (d : Detail) → Option (E.Sheet (What d)) → Option Sheet
kept_out d None = None
kept_out d (Some s) = Some (kept_sheet d s)

abbrev pub kept_printer : (d : Detail) → N.Printer (What d) → Printer
kept_printer d p = record { queue = p.queue; out = kept_out d p.out; began = p.began; stopped = p.stopped }

-- what is seen of a core
pub record Kept : Type 0 where
  pub config : Config
  pub pool : Pages
  pub book : Books
  pub table : Claims
  pub accepted : ℕ
  pub reserved : ℕ
  pub printers : List Printer
  pub closed : Bool

-- what is said of a page of a chain
abbrev pub look : (d : Detail) → Page → What d
look d page = see d page.octets

-- the book has these jobs, with the pages that are said to be there, and the room that the configuration gives
pub record IsBookOf (d : Detail) (v : State (What d)) (b : Books) : Type 0 where
  pub jobs : map (see_job (look d)) b.jobs ≡ map (shown_job v.config) v.jobs
  pub stored : b.stored ≡ chained v
  pub max_jobs : b.max_jobs ≡ v.config.max_jobs
  pub pages : b.pages ≡ v.config.pages
  pub page_size : b.page_size ≡ v.config.page_size

-- it is what a core keeps of this state
pub record IsKeptOf (d : Detail) (v : State (What d)) (k : Kept) : Type 0 where
  pub book : IsBookOf d v k.book
  pub table : IsTableOf k.table v
  pub pool : k.pool ≡ record { page_size = v.config.page_size; pages = v.config.pages; free = free_pages v }
  pub accepted : k.accepted ≡ v.accepted
  pub reserved : k.reserved ≡ v.reserved
  pub printers : k.printers ≡ map (kept_printer d) v.printers
  pub closed : k.closed ≡ v.closed

-- where a history from a base leaves the spool of this core
abbrev pub left_by : (d : Detail) → Base → List (Event (What d)) → Kept → State (What d)
left_by d b h k = now k.config b h

-- the history is legal, and leaves the core here
pub record Leaves (d : Detail) (b : Base) (h : List (Event (What d))) (k : Kept) : Type 0 where
  pub legal : IsLegal (size d) k.config b h
  pub kept : IsKeptOf d (left_by d b h k) k
