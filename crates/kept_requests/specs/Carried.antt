-- What a request comes to that is carried out and kept.
use Rattle.std.specs.Prelude.{◌≡◌, ◌⊎◌, ℕ, Bool, List, Option}
use Rattle.lpd_values.specs.declared.refusal.Refusal.TheVariants.{NotOpen}
use Rattle.page_pool.specs.Page.{Page}
use Rattle.receiver.specs.Script.{Request, AbortJob}
use Rattle.spool_requests.specs.declared.answer.Answer.{Answer}
use Rattle.spool_requests.specs.declared.answer.Answer.TheVariants.{Refused}
use Rattle.request_session.specs.Carried.{Carrying, Ending}
use Rattle.kept_jobs.specs.Folder.{GoesOn, OldOrNone, OrNone, SamePassed}
use Rattle.job_streams.specs.Stream.{Coming}
use Rattle.job_hand.specs.Hand.{Follows, Leaving, LeavesAt, MayLeave, Telling}
use Rattle.kept_requests.specs.Work.{PassesOn, told, with_last, work_after}
use Rattle.kept_requests.specs.declared.keeping.Keeping.{Keeping}

-- the job that can't be kept was aborted, and the request refused
pub record Aborts {Q : Type 0} (carries : Carrying Q) (old : Q) (sender job : ℕ) (answer : Answer) (new : Q) : Type 0 where
  pub aborted : Answer
  pub carried : carries old sender job AbortJob aborted new
  pub refused : answer ≡ Refused NotOpen

-- The spool below was asked and answered so; or the job, which can't be kept, was aborted.
abbrev pub Asks : {Q : Type 0} → Carrying Q → Q → (sender job : ℕ) → Request → Answer → Q → Type 0
Asks carries old sender job r answer new = carries old sender job r answer new ⊎ Aborts carries old sender job answer new

module _ {Q F : Type 0} (carries : Carrying Q) (beside : Q → Bool) (seen : Telling F) (may_leave : Leaving F) (moment : F → ℕ)
    (left_since : F → ℕ → Option (List ℕ) → Type 0) (may_lack : F → List ℕ → Type 0) where
  -- What was asked, and which job the hand follows then. A job that is whole by the request, where that isn't refused, is
  -- kept with the octets that have come of it, and left if it goes beside the spool once the request was carried out, or else passed
  -- on; and a crash, after it or at a moment of it, leaves no job but one that is whole by the request, or what it might have left
  -- before, and those that were passed on or left as whole as before.
  pub record Carries (old : Keeping Q F) (sender job : ℕ) (r : Request) (answer : Answer) (new : Keeping Q F) : Type 0 where
    pub asked : Asks carries old.inner sender job r answer new.inner
    pub follows :
        (work : Option Coming) → Follows seen may_leave old.hand work →
        Follows seen may_leave new.hand (work_after sender r answer work)
    pub passes :
        (work : Option Coming) → Follows seen may_leave old.hand work →
        PassesOn (told (beside new.inner) job) r answer work (seen old.hand.folder) (seen new.hand.folder)
    pub leaves :
        (work : Option Coming) → Follows seen may_leave old.hand work →
        MayLeave seen may_leave old.hand.folder new.hand.folder (with_last r work)
    pub moments :
        (work : Option Coming) → Follows seen may_leave old.hand work →
        GoesOn moment left_since may_lack old.hand.folder new.hand.folder (LeavesAt seen may_leave old.hand.folder (with_last r work))

-- at the end of a session nothing is passed on or left in the folder, and a crash may leave nothing more
pub record Ends {Q F : Type 0} (ends : Ending Q) (seen : Telling F) (may_leave : Leaving F) (moment : F → ℕ)
    (left_since : F → ℕ → Option (List ℕ) → Type 0) (may_lack : F → List ℕ → Type 0) (old : Keeping Q F) (job : ℕ)
    (page : Option Page) (new : Keeping Q F) : Type 0 where
  pub below : ends old.inner job page new.inner
  pub passed : SamePassed (seen old.hand.folder) (seen new.hand.folder)
  pub leaves : OrNone (may_leave old.hand.folder) (may_leave new.hand.folder)
  pub moments : GoesOn moment left_since may_lack old.hand.folder new.hand.folder (OldOrNone (may_leave old.hand.folder))
