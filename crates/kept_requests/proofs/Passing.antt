-- What is passed on, from one call to the next.
use Rattle.std.proofs.Common.{◌≡◌, ◌≤◌, arith, ⊎_elim, ℕ, List, ◌∷◌, Bool, true, false, Option, None, Some, Result, Ok, Err, refl, sym, subst, inl, inr, true≢false}
use Rattle.std.specs.Prelude.{is_ok}
use Rattle.lpd_values.specs.declared.refusal.Refusal.{Refusal}
use Rattle.lpd_values.specs.declared.refusal.Refusal.TheVariants.{NotOpen}
use Rattle.lpd_values.specs.Contents.{Contents}
use Rattle.receiver.specs.Script.{Request, Queue, Open, BeginFile, AskPage, Filled, EndFile, Control, AbortJob, StartPrinters, QueueState, RemoveJobs}
use Rattle.spool_calls.specs.declared.answers.Receipt.{Receipt}
use Rattle.spool_calls.specs.declared.answers.Receipt.TheVariants as receipt
use Rattle.spool_calls.specs.declared.answers.ReturnedControl.{ReturnedControl}
use Rattle.spool_requests.specs.Follows.{controlled_by, kept_by}
use Rattle.spool_requests.specs.declared.answer.Answer.{Answer}
use Rattle.spool_requests.specs.declared.answer.Answer.TheVariants.{Refused}
use Rattle.request_session.specs.Carried.{Carrying}
use Rattle.kept_jobs.specs.Folder.{GoesOn, IsSeen, Leads, OldOrNone, OrNone, SamePassed, Seen}
use Rattle.job_streams.specs.Stream.{Coming, is_whole, stream}
use Rattle.job_streams.specs.Coming.{with_control, with_end}
use Rattle.job_hand.specs.declared.cause.Cause.{Cause}
use Rattle.job_hand.specs.declared.hand.HandStage.TheVariants as stage
use Rattle.job_hand.specs.Hand.{Follows, IsOfWhole, Leaving, LeavesAt, MayLeave, Settles, SettlesAs, Telling, at_job, settled}
use Rattle.job_hand.proofs.Standing.{follows_broken}
use Rattle.kept_requests.specs.Work.{PassesOn, told, with_last, work_after}
use Rattle.kept_requests.specs.Carried.{Carries}
use Rattle.kept_requests.specs.declared.keeping.Keeping.{Keeping}

pub same_refl : (o : Option Seen) → SamePassed o o
same_refl None = refl
same_refl (Some s) = (s, refl, refl)

-- nothing is passed on and then this
pub leads_after : (P : List (Option ℕ × List ℕ) → List (Option ℕ × List ℕ) → Type 0) (a b c : Option Seen) → SamePassed a b → Leads (λ old new. P old.passed new.passed) b c → Leads (λ old new. P old.passed new.passed) a c
leads_after P None b c first then = subst (λ o. Leads (λ old new. P old.passed new.passed) o c) first then
leads_after P (Some s) b c first then =
    let last = subst (λ o. Leads (λ old new. P old.passed new.passed) o c) first.1 then in
    (last.0, last.1, subst (λ xs. P xs last.0.passed) first.2 last.2)

pub same_then : (a b c : Option Seen) → SamePassed a b → SamePassed b c → SamePassed a c
same_then a b c first then = leads_after (λ old new. new ≡ old) a b c first then

settles_as_after : (whole : Bool) (number : Option ℕ) (job : Coming) (a b c : Option Seen) → SamePassed a b → SettlesAs whole number job b c → SettlesAs whole number job a c
settles_as_after true number job a b c first then = (then.0, leads_after (λ old new. new ≡ (number, stream job) ∷ old) a b c first then.1)
settles_as_after false number job a b c first then = same_then a b c first then

pub settles_after : (number : Option ℕ) (work : Option Coming) (a b c : Option Seen) → SamePassed a b → Settles number work b c → Settles number work a c
settles_after number None a b c first then = same_then a b c first then
settles_after number (Some job) a b c first then = settles_as_after (is_whole job) number job a b c first then

-- what was told later was told before
told_back : (P : Type 0) (a b : Option Seen) → SamePassed a b → IsSeen (λ s. P) b → IsSeen (λ s. P) a
told_back P None b same h = tt
told_back P (Some s) b same h = subst (IsSeen (λ s. P)) same.1 h

-- where a request is refused nothing is passed on
pub refused_passes : (number : Option ℕ) (r : Request) (n : Refusal) (work : Option Coming) (old new : Option Seen) → SamePassed old new → PassesOn number r (Refused n) work old new
refused_passes number (Queue queue) n work old new h = h
refused_passes number (Open queue) n work old new h = h
refused_passes number (BeginFile name count) n work old new h = h
refused_passes number AskPage n work old new h = h
refused_passes number (Filled page) n work old new h = h
refused_passes number EndFile n work old new h = h
refused_passes number (Control said) n work old new h = h
refused_passes number AbortJob n work old new h = h
refused_passes number (StartPrinters queue) n work old new h = h
refused_passes number (QueueState queue list long) n work old new h = h
refused_passes number (RemoveJobs queue agent list) n work old new h = h

-- a control file that is accepted settles its job
pub control_accepted : (result : Result Receipt ReturnedControl) (said : Contents) (work : Option Coming) (sender : ℕ) (P : Option Coming → Type 0) → true ≡ is_ok result → P (settled (at_job (with_control said) work)) → P (work_after sender (Control said) (controlled_by result) work)
control_accepted (Ok receipt.Stored) said work sender P ok h = h
control_accepted (Ok receipt.Received) said work sender P ok h = h
control_accepted (Err back) said work sender P ok h = absurd (true≢false ok)

pub control_passes : (result : Result Receipt ReturnedControl) (said : Contents) (number : Option ℕ) (work : Option Coming) (old new : Option Seen) → true ≡ is_ok result → Settles number (at_job (with_control said) work) old new → PassesOn number (Control said) (controlled_by result) work old new
control_passes (Ok receipt.Stored) said number work old new ok h = h
control_passes (Ok receipt.Received) said number work old new ok h = h
control_passes (Err back) said number work old new ok h = absurd (true≢false ok)

pub control_refused : (result : Result Receipt ReturnedControl) (said : Contents) (number : Option ℕ) (work : Option Coming) (old new : Option Seen) → false ≡ is_ok result → SamePassed old new → PassesOn number (Control said) (controlled_by result) work old new
control_refused (Ok receipt.Stored) said number work old new not_ok h = absurd (true≢false (sym not_ok))
control_refused (Ok receipt.Received) said number work old new not_ok h = absurd (true≢false (sym not_ok))
control_refused (Err back) said number work old new not_ok h = h

-- so does the end of a data file
pub end_accepted : (result : Result Receipt Refusal) (work : Option Coming) (sender : ℕ) (P : Option Coming → Type 0) → true ≡ is_ok result → P (settled (at_job with_end work)) → P (work_after sender EndFile (kept_by result) work)
end_accepted (Ok receipt.Stored) work sender P ok h = h
end_accepted (Ok receipt.Received) work sender P ok h = h
end_accepted (Err n) work sender P ok h = absurd (true≢false ok)

pub end_passes : (result : Result Receipt Refusal) (number : Option ℕ) (work : Option Coming) (old new : Option Seen) → true ≡ is_ok result → Settles number (at_job with_end work) old new → PassesOn number EndFile (kept_by result) work old new
end_passes (Ok receipt.Stored) number work old new ok h = h
end_passes (Ok receipt.Received) number work old new ok h = h
end_passes (Err n) number work old new ok h = absurd (true≢false ok)

pub end_refused : (result : Result Receipt Refusal) (number : Option ℕ) (work : Option Coming) (old new : Option Seen) → false ≡ is_ok result → SamePassed old new → PassesOn number EndFile (kept_by result) work old new
end_refused (Ok receipt.Stored) number work old new not_ok h = absurd (true≢false (sym not_ok))
end_refused (Ok receipt.Received) number work old new not_ok h = absurd (true≢false (sym not_ok))
end_refused (Err n) number work old new not_ok h = h

-- a crash leaves what it might have left before, or nothing
pub or_none_leaves : {F : Type 0} (seen : Telling F) (may_leave : Leaving F) (a b : F) (job : Option Coming) → OrNone (may_leave a) (may_leave b) → MayLeave seen may_leave a b job
or_none_leaves seen may_leave a b job or kept there = inl (or kept there)

-- a crash leaves what it might have left before the hand goes on to a whole job, or that
pub file_leaves : {F : Type 0} (seen : Telling F) (may_leave : Leaving F) (a b c d : F) (job : Option Coming) → OrNone (may_leave a) (may_leave b) → SamePassed (seen a) (seen b) →
    MayLeave seen may_leave b c job → OrNone (may_leave c) (may_leave d) → MayLeave seen may_leave a d job
file_leaves seen may_leave a b c d job first same middle last kept there =
    ⊎_elim
    (λ left. ⊎_elim
    (λ was. ⊎_elim (λ old. inl (first kept old)) (λ none. inl (inr none)) was)
    (λ whole. inr (told_back (IsOfWhole job kept) (seen a) (seen b) same whole))
    (middle kept left))
    (λ none. inl (inr none))
    (last kept there)

pub later_then : (a b c : ℕ) → a ≤ b → b ≤ c → a ≤ c
later_then a b c one other = omega arith

-- time goes on, in two steps
module _ {F : Type 0} (moment : F → ℕ) (left_since : F → ℕ → Option (List ℕ) → Type 0) (may_lack : F → List ℕ → Type 0) where
  abbrev pub Goes : (old new : F) → (Option (List ℕ) → Type 0) → Type 0
  Goes = GoesOn moment left_since may_lack

  pub goes_then : (P Q R : Option (List ℕ) → Type 0) (a b c : F) → ((kept : Option (List ℕ)) → P kept → R kept) → ((kept : Option (List ℕ)) → Q kept → R kept) → Goes a b P → Goes b c Q → Goes a c R
  goes_then P Q R a b c first second one other = record {
    time = record {
      later = later_then (moment a) (moment b) (moment c) one.time.later other.time.later;
      nothing_else = λ t kept le since.
          ⊎_elim (λ was. ⊎_elim (λ old. inl old) (λ left. inr (first kept left)) (one.time.nothing_else t kept le was)) (λ now. inr (second kept now)) (other.time.nothing_else t kept (later_then t (moment a) (moment b) le one.time.later) since);
      keeps = λ t kept le past. other.time.keeps t kept (later_then t (moment a) (moment b) le one.time.later) (one.time.keeps t kept le past);
    };
    lacks = λ octets lack. one.lacks octets (other.lacks octets lack);
  }

  -- what is left before, or nothing, is that or the whole of a job
  pub or_none_moments : (seen : Telling F) (may_leave : Leaving F) (a b : F) (job : Option Coming) → Goes a b (OldOrNone (may_leave a)) → Goes a b (LeavesAt seen may_leave a job)
  or_none_moments seen may_leave a b job goes = record {
    time = record {
      later = goes.time.later;
      nothing_else = λ t kept le since. ⊎_elim (λ was. inl was) (λ left. inr (inl left)) (goes.time.nothing_else t kept le since);
      keeps = goes.time.keeps;
    };
    lacks = goes.lacks;
  }

  -- the same of a whole job whose hand goes on before it and after it
  pub file_moments : (seen : Telling F) (may_leave : Leaving F) (a b c d : F) (job : Option Coming) → OrNone (may_leave a) (may_leave b) → SamePassed (seen a) (seen b) → MayLeave seen may_leave b c job →
      Goes a b (OldOrNone (may_leave a)) → Goes b c (LeavesAt seen may_leave b job) → Goes c d (OldOrNone (may_leave c)) → Goes a d (LeavesAt seen may_leave a job)
  file_moments seen may_leave a b c d job first same middle one two three =
      let back : (kept : Option (List ℕ)) → LeavesAt seen may_leave b job kept → LeavesAt seen may_leave a job kept = λ kept left.
      ⊎_elim
      (λ was. ⊎_elim (λ old. inl (first kept old)) (λ none. inl (inr none)) was)
      (λ whole. inr (told_back (IsOfWhole job kept) (seen a) (seen b) same whole))
      left in
      goes_then (LeavesAt seen may_leave a job) (OldOrNone (may_leave c)) (LeavesAt seen may_leave a job) a c d (λ kept left. left)
      (λ kept left. ⊎_elim (λ now. back kept (middle kept now)) (λ none. inl (inr none)) left)
      (goes_then (OldOrNone (may_leave a)) (LeavesAt seen may_leave b job) (LeavesAt seen may_leave a job) a b c (λ kept left. inl left) back one two)
      three

-- the job was given up
pub given_up : {Q F : Type 0} (carries : Carrying Q) (beside : Q → Bool) (seen : Telling F) (may_leave : Leaving F) (moment : F → ℕ) (left_since : F → ℕ → Option (List ℕ) → Type 0) (may_lack : F → List ℕ → Type 0) (old new : Keeping Q F) (sender job : ℕ) (r : Request) (aborted : Answer) (cause : Cause) →
    carries old.inner sender job AbortJob aborted new.inner → new.hand.stage ≡ stage.Broken cause → SamePassed (seen old.hand.folder) (seen new.hand.folder) →
    ((work : Option Coming) → Follows seen may_leave old.hand work → MayLeave seen may_leave old.hand.folder new.hand.folder (with_last r work)) →
    ((work : Option Coming) → Follows seen may_leave old.hand work → GoesOn moment left_since may_lack old.hand.folder new.hand.folder (LeavesAt seen may_leave old.hand.folder (with_last r work))) →
    Carries carries beside seen may_leave moment left_since may_lack old sender job r (Refused NotOpen) new
given_up carries beside seen may_leave moment left_since may_lack old new sender job r aborted cause carried broken passed leaves moments = record {
  asked = inr (record { aborted = aborted; carried = carried; refused = refl });
  follows = λ work h. follows_broken seen may_leave new.hand _ cause broken;
  passes = λ work h. refused_passes (told (beside new.inner) job) r NotOpen work _ _ passed;
  leaves = leaves;
  moments = moments;
}
