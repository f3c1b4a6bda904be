-- How pages leave: what holds of each page that is handed to a printer.
use Rattle.std.specs.Prelude.{◌≡◌, ◌↔◌, ℕ, ◌+◌, ◌<◌, true, false, List, [], ◌∷◌, length, take, Contains}
use Rattle.spool_history.specs.Events.{Sheet, Progress, Event}
use Rattle.spool_history.specs.Events.Progress.{Done, Ended}
use Rattle.spool_history.specs.Events.Turn.{Handed, Printed}
use Rattle.spool_history.specs.Events.Event.{AtPrinter}
use Rattle.spool_history.specs.Said.{Opening, openings, handed_of, has_ended, is_closed, is_done}
use Rattle.config_values.specs.Config.{Config}
use Rattle.spool_history.specs.Base.{Base}
use Rattle.spool_history.specs.Now.{is_held, job_of}
use Rattle.spool_history.specs.Legal.{IsLegal}
use Rattle.spool_history.specs.Joined.{LeavesJoined}
pub use Rattle.spool_history.specs.Joined.{places_of, sheets}

-- of each page that is handed, P holds of the events before it and of the page
abbrev pub EachHanded : {C : Type 0} → (List (Event C) → Sheet C → Type 0) → List (Event C) → Type 0
EachHanded P [] = Unit {0}
EachHanded P (AtPrinter printer sheet Handed ∷ h) = P h sheet × EachHanded P h
EachHanded P (_ ∷ h) = EachHanded P h

-- the spool was not closed
abbrev pub IsOpen : {C : Type 0} → Base → List (Event C) → Sheet C → Type 0
IsOpen b h sheet = is_closed b h ≡ false

-- the job of the page had not ended
abbrev pub HasNotEnded : {C : Type 0} → List (Event C) → Sheet C → Type 0
HasNotEnded h sheet = has_ended h sheet.job ≡ false

-- nothing is handed after the close
abbrev pub NothingAfterTheClose : Type 0 → Type 0
NothingAfterTheClose C =
    (size : C → ℕ) (c : Config) (b : Base) (h : List (Event C)) → IsLegal size c b h
    → EachHanded (IsOpen b) h

-- nothing of a job is handed after its end
abbrev pub NothingAfterTheEnd : Type 0 → Type 0
NothingAfterTheEnd C =
    (size : C → ℕ) (c : Config) (b : Base) (h : List (Event C)) → IsLegal size c b h
    → EachHanded HasNotEnded h

-- of each page that is printed, P holds of the events before it, of the page and of what is said of its job
abbrev pub EachPrinted : {C : Type 0} → (List (Event C) → Sheet C → Progress → Type 0) → List (Event C) → Type 0
EachPrinted P [] = Unit {0}
EachPrinted P (AtPrinter printer sheet (Printed progress) ∷ h) = P h sheet progress × EachPrinted P h
EachPrinted P (_ ∷ h) = EachPrinted P h

-- the page is the last place of its job
abbrev pub IsLastPlace : {C : Type 0} → List (Event C) → Sheet C → Type 0
IsLastPlace h sheet = sheet.place + 1 ≡ length (places_of h sheet.job)

-- "done" is said for the last place of a job that had not ended, and "ended" where it had
pub record SaysWhatIs {C : Type 0} (h : List (Event C)) (sheet : Sheet C) (progress : Progress) : Type 0 where
  pub done : (progress ≡ Done) ↔ ((has_ended h sheet.job ≡ false) × IsLastPlace h sheet)
  pub ended : (progress ≡ Ended) ↔ (has_ended h sheet.job ≡ true)

abbrev pub DoneForTheLastPlace : Type 0 → Type 0
DoneForTheLastPlace C =
    (size : C → ℕ) (c : Config) (b : Base) (h : List (Event C)) → IsLegal size c b h
    → EachPrinted SaysWhatIs h

-- what was handed of a job are its first places, in order, each once and as it was put
abbrev pub FirstPlacesInOrder : Type 0 → Type 0
FirstPlacesInOrder C =
    (size : C → ℕ) (c : Config) (b : Base) (h : List (Event C)) → IsLegal size c b h → (j : ℕ)
    → handed_of h j ≡ sheets j 0 (take (length (handed_of h j)) (places_of h j))

-- and all of them, where the job is done
abbrev pub AllPlacesOfDone : Type 0 → Type 0
AllPlacesOfDone C =
    (size : C → ℕ) (c : Config) (b : Base) (h : List (Event C)) → IsLegal size c b h → (j : ℕ)
    → is_done h j ≡ true → handed_of h j ≡ sheets j 0 (places_of h j)

-- each earlier job of the same sender and queue was gone: it had ended, and no page of it was out
abbrev pub EarlierAreGone : {C : Type 0} → List (Event C) → Sheet C → Type 0
EarlierAreGone h sheet = (earlier later : Opening) → Contains (openings h) earlier → Contains (openings h) later → later.job ≡ sheet.job
    → earlier.job < later.job → earlier.sender ≡ later.sender → earlier.queue ≡ later.queue → is_held (job_of h earlier) ≡ false

abbrev pub InOrderOfAcceptance : Type 0 → Type 0
InOrderOfAcceptance C =
    (size : C → ℕ) (c : Config) (b : Base) (h : List (Event C)) → IsLegal size c b h
    → EachHanded EarlierAreGone h

-- what was handed of the jobs of one sender in one queue is the join, by rising number, of the first places of each: all of
-- them of a job that is done, none of one that wasn't received or that stands behind a held one
abbrev pub JobsLeaveJoined : Type 0 → Type 0
JobsLeaveJoined C =
    (size : C → ℕ) (c : Config) (b : Base) (h : List (Event C)) → IsLegal size c b h
    → LeavesJoined h

-- the job of the page was accepted
abbrev pub WasAccepted : {C : Type 0} → List (Event C) → Sheet C → Type 0
WasAccepted h sheet = (o : Opening) × Contains (openings h) o × (o.job ≡ sheet.job)

-- and nothing was handed but of these jobs
abbrev pub AcceptedAlone : Type 0 → Type 0
AcceptedAlone C =
    (size : C → ℕ) (c : Config) (b : Base) (h : List (Event C)) → IsLegal size c b h
    → EachHanded WasAccepted h
