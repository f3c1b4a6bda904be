-- What each call of a core answers after a history, and which history it leaves.
use Rattle.std.specs.Prelude.{◌≡◌, ◌≢◌, ℕ, ◌+◌, ◌⊎◌, Bool, true, false, List, [], ◌∷◌, Option, Some, None, Result, Ok, Err, map}
use Rattle.page_pool.specs.Page.{Page}
use Rattle.control_file.specs.View.{contents}
use Rattle.lpd_values.specs.Contents.{Contents}
use Rattle.lpd_values.specs.declared.refusal.Refusal.{Refusal}
use Rattle.account.specs.Seen.{progress_seen}
use Rattle.account.specs.declared.entry.Progress.{Progress}
use Rattle.config_values.specs.Config.{IsQueue, queue_named}
use Rattle.spool_history.specs.Base.{Base}
use Rattle.spool_history.specs.Events as E
use Rattle.spool_history.specs.Events.{Event, Sheet}
use Rattle.spool_history.specs.Events.Act.{Granted, Began, Put, FileEnded, Controlled, Aborted}
use Rattle.spool_history.specs.Events.Turn.{Handed, Printed, Failed}
use Rattle.spool_history.specs.Events.Event.{Opened, OfJob, AtPrinter, Removed, Started}
use Rattle.spool_history.specs.Now.{Job, State}
use Rattle.spool_history.specs.Next.{next_page, printer_at}
use Rattle.spool_history.specs.Next as N
use Rattle.spool_history.specs.Choice.{chosen}
use Rattle.spool_history.specs.Texts.{removal_text, state_text}
use Rattle.spool_history.specs.Rotated.{rotated}
use Rattle.spool_history.specs.Legal.{HasJob, JobMay, MayGrant, MayOpen, May, progress_of}
use Rattle.spool_history.specs.Refusals.{OrMemory, RefusesControl, RefusesFile, RefusesJob, RefusesPage, RefusesQueue, RefusesState, RefusesUnless, TakesJobs}
use Rattle.spool_calls.specs.declared.answers.Asked.{Asked}
use Rattle.spool_calls.specs.declared.answers.Asked.TheVariants as asked
use Rattle.spool_calls.specs.declared.answers.Receipt.{Receipt}
use Rattle.spool_calls.specs.declared.answers.Receipt.TheVariants as receipt
use Rattle.spool_calls.specs.declared.answers.Next.{Next}
use Rattle.spool_calls.specs.declared.answers.Next.TheVariants as next
use Rattle.spool_calls.specs.declared.answers.ReturnedControl.{ReturnedControl}
use Rattle.spool_calls.specs.declared.answers.ReturnedPage.{ReturnedPage}
use Rattle.spool_calls.specs.declared.answers.ReturnedTicket.{ReturnedTicket}
use Rattle.spool_calls.specs.declared.answers.Foreign.{Foreign}
use Rattle.spool_calls.specs.declared.handed.HandedPage.{HandedPage}
use Rattle.spool_calls.specs.Looks.{Detail, What, see, size, outline_in, outline_of}
use Rattle.spool_calls.specs.Kept.{Kept, Leaves, left_by}

-- an answer is right where P holds of it after each history that leads to where the core was: with the octets of each page,
-- or with their length and digest alone
abbrev pub IsRight : Kept → ((d : Detail) → Base → List (Event (What d)) → Type 0) → Type 0
IsRight old P = (d : Detail) (b : Base) (h : List (Event (What d))) → Leaves d b h old → P d b h

-- a page of this size is given exactly where one is lent
abbrev pub IsLent : Bool → ℕ → Option Page → Type 0
IsLent lent page_size None = lent ≡ false
IsLent lent page_size (Some page) = (lent ≡ true) × (page.page_size ≡ page_size)

-- what may be done with a job of a spool
module _ (d : Detail) (v : State (What d)) where
  -- a page may be lent to it, where one is free and the state stays safe
  abbrev pub MayAsk : (job : ℕ) → Type 0
  MayAsk job = HasJob v.jobs job (JobMay (size d) v.config Granted)

  -- the page may be put into this file of it, as its page of this number
  abbrev pub MayTake : (job : ℕ) → Page → (file number : ℕ) → Type 0
  MayTake job page file number =
      HasJob v.jobs job (JobMay (size d) v.config (Put file number (see d page.octets))) × (page.page_size ≡ v.config.page_size)

  -- the page is the next one of its open file
  abbrev pub MayPut : (job : ℕ) → Page → Type 0
  MayPut job page = (file : ℕ) × (number : ℕ) × MayTake job page file number

  -- its open file has all its octets
  abbrev pub MayEnd : (job : ℕ) → Type 0
  MayEnd job = (file : ℕ) × (whole : Bool) × HasJob v.jobs job (JobMay (size d) v.config (FileEnded file whole))

  -- it may be aborted with this page: it is being received, or has ended while a page is lent to it
  abbrev pub CanAbort : Option Page → Job (What d) → Type 0
  CanAbort ticket w = JobMay (size d) v.config Aborted w × IsLent w.lent v.config.page_size ticket

  abbrev pub MayAbort : (job : ℕ) → Option Page → Type 0
  MayAbort job ticket = HasJob v.jobs job (CanAbort ticket)

-- whether the job is whole by that
abbrev pub is_whole : Receipt → Bool
is_whole receipt.Stored = false
is_whole receipt.Received = true

module _ (d : Detail) (b : Base) (h : List (Event (What d))) (old : Kept) where
  -- where the history left the spool
  abbrev pub before : State (What d)
  before = left_by d b h old

  -- the number of the queue of a name
  abbrev pub queue : List ℕ → ℕ
  queue name = queue_named old.config name

  -- whether a session may send jobs to a queue
  abbrev pub Admits : List ℕ → Result (Unit {0}) Refusal → Type 0
  Admits name (Ok done) = TakesJobs before (queue name)
  Admits name (Err n) = RefusesQueue before (queue name) n

  -- a job was accepted for the queue of a number
  abbrev pub OpensFor : (sender q : ℕ) → Kept → Result ℕ Refusal → Type 0
  OpensFor sender q new (Ok job) = MayOpen before job q × Leaves d b (Opened job sender q ∷ h) new
  OpensFor sender q new (Err n) = OrMemory (MayOpen before (before.accepted + 1) q) (RefusesJob before q) n × (new ≡ old)

  -- and for that of a name
  abbrev pub Opens : (sender : ℕ) → List ℕ → Kept → Result ℕ Refusal → Type 0
  Opens sender name = OpensFor sender (queue name)

  -- a page was lent, or can't be now
  abbrev pub Asks : ℕ → Kept → Result Asked Refusal → Type 0
  Asks job new (Ok (asked.Page ticket)) =
      MayAsk d before job × MayGrant before job × Leaves d b (OfJob job Granted ∷ h) new
      × (ticket.octets ≡ []) × (ticket.page_size ≡ old.config.page_size)
  Asks job new (Ok asked.Later) = MayAsk d before job × (MayGrant before job → ⊥) × (new ≡ old)
  Asks job new (Err n) = RefusesPage before job n × (new ≡ old)

  -- a data file began
  abbrev pub Begins : ℕ → List ℕ → ℕ → Kept → Result (Unit {0}) Refusal → Type 0
  Begins job name count new (Ok done) =
      HasJob before.jobs job (JobMay (size d) old.config (Began name count)) × Leaves d b (OfJob job (Began name count) ∷ h) new
  Begins job name count new (Err n) = RefusesFile before job name count n × (new ≡ old)

  -- a page was put as this one of this file
  abbrev pub PutsAs : ℕ → Page → Kept → (file number : ℕ) → Type 0
  PutsAs job page new file number =
      MayTake d before job page file number × Leaves d b (OfJob job (Put file number (see d page.octets)) ∷ h) new

  -- a page was put
  abbrev pub Puts : ℕ → Page → Kept → Result (Unit {0}) ReturnedPage → Type 0
  Puts job page new (Ok done) = (file : ℕ) × (number : ℕ) × PutsAs job page new file number
  Puts job page new (Err back) = (MayPut d before job page → ⊥) × (new ≡ old) × (back.page ≡ page)

  -- the file of this number ended
  abbrev pub EndsFile : ℕ → Kept → Receipt → (file : ℕ) → Type 0
  EndsFile job new got file =
      HasJob before.jobs job (JobMay (size d) old.config (FileEnded file (is_whole got)))
      × Leaves d b (OfJob job (FileEnded file (is_whole got)) ∷ h) new

  -- the open file ended
  abbrev pub Ends : ℕ → Kept → Result Receipt Refusal → Type 0
  Ends job new (Ok got) = (file : ℕ) × EndsFile job new got file
  Ends job new (Err n) = RefusesUnless (MayEnd d before job) n × (new ≡ old)

  -- the control file came
  abbrev pub Controls : ℕ → Contents → Kept → Result Receipt ReturnedControl → Type 0
  Controls job control new (Ok got) =
      HasJob before.jobs job (JobMay (size d) old.config (Controlled control (is_whole got)))
      × Leaves d b (OfJob job (Controlled control (is_whole got)) ∷ h) new
  Controls job control new (Err back) =
      RefusesControl before job back.refusal × (new ≡ old) × (contents back.control ≡ control)

  -- a job was aborted, or gave back the page that was lent to it
  abbrev pub Aborts : ℕ → Option Page → Kept → Result (Unit {0}) ReturnedTicket → Type 0
  Aborts job ticket new (Ok done) = MayAbort d before job ticket × Leaves d b (OfJob job Aborted ∷ h) new
  Aborts job ticket new (Err back) = (MayAbort d before job ticket → ⊥) × (new ≡ old) × (back.ticket ≡ ticket)

  -- the page as a printer was given it
  abbrev pub sheet_of : HandedPage → Sheet (What d)
  sheet_of p = record { job = p.job; place = p.place; file = p.file; number = p.number; page = see d p.page.octets }

  -- a printer gets exactly what is next for it
  abbrev pub Hands : ℕ → Kept → Next → Type 0
  Hands printer new (next.Handed page) =
      (next_page before printer ≡ N.Next.Hands (sheet_of page)) × Leaves d b (AtPrinter printer (sheet_of page) Handed ∷ h) new
      × (page.page.page_size ≡ old.config.page_size)
  Hands printer new next.Nothing = (next_page before printer ≡ N.Next.Nothing) × (new ≡ old)
  Hands printer new next.Stopped = (next_page before printer ≡ N.Next.Stops) × (new ≡ old)
  Hands printer new next.Busy = (next_page before printer ≡ N.Next.Busy) × (new ≡ old)
  Hands printer new next.Closed = (next_page before printer ≡ N.Next.Over) × (new ≡ old)

  -- the page is the one that is out at the printer, by its job, place, length, digest and page size
  abbrev pub IsOut : ℕ → HandedPage → Sheet (What d) → Type 0
  IsOut printer page sheet =
      ((printer_at before printer).out ≡ Some sheet) × (page.job ≡ sheet.job) × (page.place ≡ sheet.place)
      × (outline_of page.page.octets ≡ outline_in d sheet.page) × (page.page.page_size ≡ old.config.page_size)

  -- what came back is what was handed, as far as the history tells it: with the length and the digest alone that is always so
  abbrev pub CameBack : HandedPage → Sheet (What d) → Type 0
  CameBack page sheet = see d page.page.octets ≡ sheet.page

  -- a page was printed
  abbrev pub Prints : ℕ → HandedPage → Kept → Result Progress Foreign → Type 0
  Prints printer page new (Ok said) =
      (sheet : Sheet (What d)) × IsOut printer page sheet
      × HasJob before.jobs sheet.job (λ v. progress_seen said ≡ progress_of v)
      × (CameBack page sheet → Leaves d b (AtPrinter printer sheet (Printed (progress_seen said)) ∷ h) new)
  Prints printer page new (Err back) = ((sheet : Sheet (What d)) → IsOut printer page sheet → ⊥) × (new ≡ old) × (back.page ≡ page)

  -- a page failed
  abbrev pub Fails : ℕ → HandedPage → Kept → Result (Unit {0}) Foreign → Type 0
  Fails printer page new (Ok done) =
      (sheet : Sheet (What d)) × IsOut printer page sheet × Leaves d b (AtPrinter printer sheet Failed ∷ h) new
  Fails printer page new (Err back) = ((sheet : Sheet (What d)) → IsOut printer page sheet → ⊥) × (new ≡ old) × (back.page ≡ page)

  -- the stopped printers of a queue were started, if one was stopped
  abbrev pub Starts : List ℕ → Kept → Result (Unit {0}) Refusal → Type 0
  Starts name new (Ok done) =
      TakesJobs before (queue name)
      × ((May (size d) before (Started (queue name)) × Leaves d b (Started (queue name) ∷ h) new)
      ⊎ ((May (size d) before (Started (queue name)) → ⊥) × (new ≡ old)))
  Starts name new (Err n) = RefusesQueue before (queue name) n × (new ≡ old)

  -- the numbers of the jobs that a removal chooses
  abbrev pub removed_by : ℕ → List ℕ → List (List ℕ) → List ℕ
  removed_by q agent list = map (λ (v : Job (What d)). v.number) (chosen before q agent list)

  -- jobs were removed, if any was chosen
  abbrev pub Removes : List ℕ → List ℕ → List (List ℕ) → Kept → Result (List ℕ) Refusal → Type 0
  Removes name agent list new (Ok text) =
      TakesJobs before (queue name) × (text ≡ removal_text before (queue name) agent list)
      × (((removed_by (queue name) agent list ≡ []) × (new ≡ old))
      ⊎ ((removed_by (queue name) agent list ≢ [])
      × Leaves d b (Removed (queue name) (removed_by (queue name) agent list) ∷ h) new))
  Removes name agent list new (Err n) =
      OrMemory (TakesJobs before (queue name)) (RefusesQueue before (queue name)) n × (new ≡ old)

  -- the state of a queue, also of a closed spool
  abbrev pub Tells : List ℕ → List (List ℕ) → Bool → Result (List ℕ) Refusal → Type 0
  Tells name list long (Ok text) = IsQueue old.config (queue name) × (text ≡ state_text before (queue name) list long)
  Tells name list long (Err n) = OrMemory (IsQueue old.config (queue name)) (RefusesState before (queue name)) n

  -- the spool is closed; a second close changes nothing
  abbrev pub Closes : Kept → Type 0
  Closes new =
      ((before.closed ≡ false) × Leaves d b (E.Event.Closed ∷ h) new) ⊎ ((before.closed ≡ true) × (new ≡ old))

  -- the history is put away, and the next begins from the base after it
  abbrev pub Rotates : Kept → Type 0
  Rotates new = Leaves d (rotated before) [] new
