-- By which entry each call grows the account, and by none where it answers so.
use Rattle.std.specs.Prelude.{◌≡◌, ◌≢◌, ℕ, ◌⊎◌, true, false, List, [], ◌∷◌, Result, Ok, Err}
use Rattle.page_pool.specs.Page.{Page}
use Rattle.lpd_values.specs.Contents.{Contents}
use Rattle.lpd_values.specs.declared.refusal.Refusal.{Refusal}
use Rattle.control_file.specs.View.{contents}
use Rattle.account.specs.Seen.{progress_seen}
use Rattle.account.specs.declared.entry.Outline.{Outline}
use Rattle.account.specs.declared.entry.Progress.{Progress}
use Rattle.config_values.specs.Config.{queue_named}
use Rattle.spool_history.specs.Events as E
use Rattle.spool_history.specs.Events.{Event, Sheet}
use Rattle.spool_history.specs.Events.Act.{Granted, Began, Put, FileEnded, Controlled, Aborted}
use Rattle.spool_history.specs.Events.Turn.{Handed, Printed, Failed}
use Rattle.spool_history.specs.Events.Event.{Opened, OfJob, AtPrinter, Removed, Started}
use Rattle.spool_history.specs.Now.{State}
use Rattle.spool_history.specs.Legal.{HasJob, JobMay, May}
use Rattle.spool_history.specs.Refusals.{MayControl, OrMemory, RefusesControl}
use Rattle.spool_calls.specs.declared.answers.Asked.{Asked}
use Rattle.spool_calls.specs.declared.answers.Asked.TheVariants as asked
use Rattle.spool_calls.specs.declared.answers.Receipt.{Receipt}
use Rattle.spool_calls.specs.declared.answers.Next.{Next}
use Rattle.spool_calls.specs.declared.answers.Next.TheVariants as next
use Rattle.spool_calls.specs.declared.answers.Foreign.{Foreign}
use Rattle.spool_calls.specs.declared.answers.ReturnedControl.{ReturnedControl}
use Rattle.spool_calls.specs.declared.answers.ReturnedPage.{ReturnedPage}
use Rattle.spool_calls.specs.declared.answers.ReturnedTicket.{ReturnedTicket}
use Rattle.spool_calls.specs.declared.handed.HandedPage.{HandedPage}
use Rattle.spool_calls.specs.Looks.{What, outline_of, size}
use Rattle.spool_calls.specs.Looks.Detail.{Outlines}
use Rattle.spool_calls.specs.Kept.{Kept}
use Rattle.spool_calls.specs.Calls as calls
use Rattle.spool_calls.specs.Calls.{is_whole}
use Rattle.spool_core.specs.Removal as removal
use Rattle.spool_core.specs.declared.removing.Unremoved.{Unremoved}
use Rattle.locked_spool.specs.Held.{Held}

module _ (old new : Held) where
  -- the account grew by this entry alone; the core is where the event leads
  abbrev pub Writes : Event Outline → Type 0
  Writes e = new ≡ record old { core = new.core; events = e ∷ old.events }

  -- where the account leaves the spool
  abbrev pub here : State (What Outlines)
  here = calls.before Outlines old.base old.events old.core

  -- the number of the queue of a name
  abbrev pub queue : List ℕ → ℕ
  queue name = queue_named old.core.config name

  abbrev pub WritesOpened : (sender : ℕ) → List ℕ → Result ℕ Refusal → Type 0
  WritesOpened sender name (Ok job) = Writes (Opened job sender (queue name))
  WritesOpened sender name (Err refusal) = new ≡ old

  abbrev pub WritesGranted : (job : ℕ) → Result Asked Refusal → Type 0
  WritesGranted job (Ok (asked.Page ticket)) = Writes (OfJob job Granted)
  WritesGranted job (Ok asked.Later) = new ≡ old
  WritesGranted job (Err refusal) = new ≡ old

  abbrev pub WritesBegan : (job : ℕ) → List ℕ → (count : ℕ) → Result (Unit {0}) Refusal → Type 0
  WritesBegan job name count (Ok done) = Writes (OfJob job (Began name count))
  WritesBegan job name count (Err refusal) = new ≡ old

  -- the page stands in the entry by its length and digest, at the one place where it may be put
  abbrev pub WritesPut : (job : ℕ) → Page → Result (Unit {0}) ReturnedPage → Type 0
  WritesPut job page (Ok done) =
      (file : ℕ) × (number : ℕ) × calls.MayTake Outlines here job page file number
      × Writes (OfJob job (Put file number (outline_of page.octets)))
  WritesPut job page (Err back) = new ≡ old

  abbrev pub WritesFileEnded : (job : ℕ) → Result Receipt Refusal → Type 0
  WritesFileEnded job (Ok got) =
      (file : ℕ) × HasJob here.jobs job (JobMay (size Outlines) old.core.config (FileEnded file (is_whole got)))
      × Writes (OfJob job (FileEnded file (is_whole got)))
  WritesFileEnded job (Err refusal) = new ≡ old

  abbrev pub WritesControlled : (job : ℕ) → Contents → Result Receipt ReturnedControl → Type 0
  WritesControlled job control (Ok got) =
      Writes (OfJob job (Controlled control (is_whole got)))
  WritesControlled job control (Err back) = new ≡ old

  abbrev pub WritesAborted : (job : ℕ) → Result (Unit {0}) ReturnedTicket → Type 0
  WritesAborted job (Ok done) = Writes (OfJob job Aborted)
  WritesAborted job (Err back) = new ≡ old

  -- the page that is handed has the length and the digest of its entry
  abbrev pub WritesHanded : (printer : ℕ) → Next → Type 0
  WritesHanded printer (next.Handed page) =
      Writes (AtPrinter printer (calls.sheet_of Outlines old.base old.events old.core page) Handed)
  WritesHanded printer _ = new ≡ old

  -- the page that came back is the one that was handed last, by its length and digest
  abbrev pub WritesPrinted : (printer : ℕ) → HandedPage → Result Progress Foreign → Type 0
  WritesPrinted printer page (Ok said) =
      (sheet : Sheet Outline) × calls.IsOut Outlines old.base old.events old.core printer page sheet
      × Writes (AtPrinter printer sheet (Printed (progress_seen said)))
  WritesPrinted printer page (Err back) = new ≡ old

  abbrev pub WritesFailed : (printer : ℕ) → HandedPage → Result (Unit {0}) Foreign → Type 0
  WritesFailed printer page (Ok done) =
      (sheet : Sheet Outline) × calls.IsOut Outlines old.base old.events old.core printer page sheet
      × Writes (AtPrinter printer sheet Failed)
  WritesFailed printer page (Err back) = new ≡ old

  -- one entry where a printer of the queue was stopped, and none where none was
  abbrev pub WritesStarted : List ℕ → Result (Unit {0}) Refusal → Type 0
  WritesStarted name (Ok done) =
      (May (size Outlines) here (Started (queue name)) × Writes (Started (queue name)))
      ⊎ ((May (size Outlines) here (Started (queue name)) → ⊥) × (new ≡ old))
  WritesStarted name (Err refusal) = new ≡ old

  -- the numbers of the jobs that a removal takes
  abbrev pub chosen : (queue : ℕ) → List ℕ → List (List ℕ) → List ℕ
  chosen = calls.removed_by Outlines old.base old.events old.core

  -- one entry with the chosen jobs, and none where none was chosen
  abbrev pub WritesRemoved : List ℕ → List ℕ → List (List ℕ) → Result (List ℕ) Refusal → Type 0
  WritesRemoved name agent list (Ok text) =
      ((chosen (queue name) agent list ≡ []) × (new ≡ old))
      ⊎ ((chosen (queue name) agent list ≢ []) × Writes (Removed (queue name) (chosen (queue name) agent list)))
  WritesRemoved name agent list (Err refusal) = new ≡ old

  -- one entry with these jobs, and none where there are none
  abbrev pub WritesTheseRemoved : List ℕ → Result ℕ Unremoved → Type 0
  WritesTheseRemoved numbers (Ok q) = ((numbers ≡ []) × (new ≡ old)) ⊎ ((numbers ≢ []) × Writes (Removed q numbers))
  WritesTheseRemoved numbers (Err e) = new ≡ old

  -- one entry for the first close, and none for a later one
  abbrev pub WritesClosed : Type 0
  WritesClosed = ((here.closed ≡ false) × Writes E.Event.Closed) ⊎ ((here.closed ≡ true) × (new ≡ old))

-- the control file came; memory may be refused for the account's copy where nothing else is
abbrev pub Controls : (old : Kept) → (job : ℕ) → Contents → (new : Kept) → Result Receipt ReturnedControl → Type 0
Controls old job control new (Ok got) = calls.IsRight old (λ d b h. calls.Controls d b h old job control new (Ok got))
Controls old job control new (Err back) =
    calls.IsRight old (λ d b h.
    OrMemory (MayControl (calls.before d b h old) job) (RefusesControl (calls.before d b h old) job) back.refusal
    × (new ≡ old) × (contents back.control ≡ control))

-- jobs were removed by their numbers; memory may be refused for the account's copy of these where nothing else is the cause
abbrev pub RemovesThese : (old : Kept) → List ℕ → List ℕ → (new : Kept) → Result ℕ Unremoved → Type 0
RemovesThese old name numbers new (Ok q) =
    calls.IsRight old (λ d b h. removal.RemovesThese d b h old name numbers new (Ok q))
RemovesThese old name numbers new (Err e) =
    calls.IsRight old (λ d b h. removal.FindsOrMemory d b h old name numbers e × (new ≡ old))
