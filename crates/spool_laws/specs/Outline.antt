-- The outline of a history: each page is replaced by what a function says of it, as octets by their length and digest.
use Rattle.std.specs.Prelude.{◌≡◌, ℕ, List, map}
use Rattle.spool_history.specs.Events.{Act, Sheet, Event}
use Rattle.spool_history.specs.Events.Act.{Granted, Began, Put, FileEnded, Controlled, Aborted}
use Rattle.spool_history.specs.Events.Event.{Opened, OfJob, AtPrinter, Removed, Started, Closed}
use Rattle.config_values.specs.Config.{Config}
use Rattle.spool_history.specs.Base.{Base}
use Rattle.spool_history.specs.Legal.{IsLegal}

-- of an act: only a page that was put changes
abbrev pub outline_act : {A B : Type 0} → (A → B) → Act A → Act B
outline_act f Granted = Granted
outline_act f (Began name count) = Began name count
outline_act f (Put file number page) = Put file number (f page)
outline_act f (FileEnded file whole) = FileEnded file whole
outline_act f (Controlled control whole) = Controlled control whole
outline_act f Aborted = Aborted

-- of a page at a printer: where it stands stays as it is
abbrev pub outline_sheet : {A B : Type 0} → (A → B) → Sheet A → Sheet B
outline_sheet f s = record { job = s.job; place = s.place; file = s.file; number = s.number; page = f s.page }

-- of an event
abbrev pub outline_event : {A B : Type 0} → (A → B) → Event A → Event B
outline_event f (Opened job sender queue) = Opened job sender queue
outline_event f (OfJob job act) = OfJob job (outline_act f act)
outline_event f (AtPrinter printer sheet turn) = AtPrinter printer (outline_sheet f sheet) turn
outline_event f (Removed queue jobs) = Removed queue jobs
outline_event f (Started queue) = Started queue
outline_event f Closed = Closed

-- of a history: that of each event, in the same order
abbrev pub outline : {A B : Type 0} → (A → B) → List (Event A) → List (Event B)
outline f h = map (outline_event f) h

-- the outline of a legal history is legal, where what is said of a page gives its octets as the page does
abbrev pub OutlineIsLegal : Type 0 → Type 0 → Type 0
OutlineIsLegal A B =
    (f : A → B) (size : A → ℕ) (short : B → ℕ) → ((page : A) → short (f page) ≡ size page)
    → (c : Config) (b : Base) (h : List (Event A)) → IsLegal size c b h → IsLegal short c b (outline f h)
