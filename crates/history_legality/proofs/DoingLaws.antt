-- The last of some files, and one of some jobs.
use Rattle.std.proofs.Common.{◌≡◌, ℕ, zero, suc, ◌<◌, ◌↔◌, Bool, true, false, List, [], ◌∷◌, ◌++◌, length, get_or, refl, sym, ◌∙◌, ap, subst, arith, map, not, ◌||◌, ◌&&◌}
use Rattle.std.specs.Prelude.{IsTrue, Some}
use Rattle.std.specs.List.{list_all}
use Rattle.lpd_values.specs.Kept.{is_among}
use Rattle.lpd_values.specs.Contents.{Contents}
use Rattle.std.proofs.lemmas.List.{map-append, length-map, same_from_push}
use Rattle.spool_history.specs.Acts as A
use Rattle.spool_history.specs.Now.{Job}
use Rattle.spool_history.specs.Legal.{HasJob, HasOpen}
use Rattle.account.specs.declared.entry.Outline.{Outline}
use Rattle.history_reader.specs.declared.state.File.{File}
use Rattle.history_reader.specs.Seen.{file_seen, job_seen}
use Rattle.history_reader.specs.declared.state.Job as R

seen_last : (fs before : List File) (last : File) → fs ≡ before ++ last ∷ [] → map file_seen fs ≡ map file_seen before ++ file_seen last ∷ []
seen_last fs before last e = ap (λ (r : List File). map file_seen r) e ∙ map-append file_seen before (last ∷ [])

-- a test of the last one tells whether it is open
pub open_if : (fs before : List File) (last : File) (n : ℕ) (P : A.File Outline → Type 0) (b : Bool) → fs ≡ before ++ last ∷ [] → length before ≡ n → last.ended ≡ false
    → IsTrue b ↔ P (file_seen last) → IsTrue b ↔ HasOpen (map file_seen fs) n P
open_if fs before last n P b e l d k = (
  λ t. (map file_seen before, file_seen last, seen_last fs before last e, length-map before file_seen ∙ l, d, k.0 t),
  λ h. k.1 (subst P (sym (same_from_push (map file_seen before) h.0 (file_seen last) h.1 (sym (seen_last fs before last e) ∙ h.2)).1) h.5),
)

pub open_but_last : (before : List (A.File Outline)) (last : A.File Outline) → A.is_open_in (A.at_last (λ f. record f { ended = true }) (before ++ last ∷ [])) ≡ A.is_open_in before
open_but_last [] last = refl
open_but_last (x ∷ []) last = refl
open_but_last (x ∷ y ∷ ys) last = ap (λ (b : Bool). not x.ended || b) (open_but_last (y ∷ ys) last)

pub names_last : (files : List (A.File Outline)) → A.names_in (A.at_last (λ f. record f { ended = true }) files) ≡ A.names_in files
names_last [] = refl
names_last (x ∷ []) = refl
names_last (x ∷ y ∷ ys) = ap (λ (r : List (List ℕ)). x.name ∷ r) (names_last (y ∷ ys))

pub open_before : (fs before : List File) (last : File) → fs ≡ before ++ last ∷ [] → A.is_open_in (map file_seen before) ≡ A.is_open_in (A.at_last (λ f. record f { ended = true }) (map file_seen fs))
open_before fs before last e =
    sym (ap (λ (r : List (A.File Outline)). A.is_open_in (A.at_last (λ f. record f { ended = true }) r)) (seen_last fs before last e) ∙ open_but_last (map file_seen before) (file_seen last))

pub whole_by_end : (all : Bool) (control : Contents) (files : List (A.File Outline)) → A.is_open_in (A.at_last (λ f. record f { ended = true }) files) ≡ false
    → all ≡ list_all (λ name. is_among name (A.names_in files)) control.prints → all ≡ A.is_whole (Some control) (A.at_last (λ f. record f { ended = true }) files)
whole_by_end all control files closed e =
    e
    ∙ sym (ap (λ (b : Bool). not b && list_all (λ name. is_among name (A.names_in (A.at_last (λ f. record f { ended = true }) files))) control.prints) closed
    ∙ ap (λ (r : List (List ℕ)). list_all (λ name. is_among name r) control.prints) (names_last files))

-- one of some jobs

pub one_of : {C : Type 0} (job : Job C) (jobs : List (Job C)) (j : ℕ) (P : Job C → Type 0) → (job.number ≡ j → P job → ⊥) → HasJob (job ∷ jobs) j P → HasJob jobs j P
one_of {C = C} job jobs j P fails h = from h.there.0 h.there.1 h.there.2
  where
    from : (k : ℕ) → k < length (job ∷ jobs) → get_or (job ∷ jobs) k h.job ≡ h.job → HasJob jobs j P
    from zero l e = absurd (fails (ap (λ (x : Job C). x.number) e ∙ h.number) (subst P (sym e) h.is))
    from (suc k) l e = record { job = h.job; there = (k, omega arith, e); number = h.number; is = h.is }

-- of jobs of which the first is such a one
pub of_first : (jobs rest : List R.Job) (job : R.Job) (j : ℕ) (P : Job Outline → Type 0) → jobs ≡ job ∷ rest → job.number ≡ j → P (job_seen job) → IsTrue true ↔ HasJob (map job_seen jobs) j P
of_first jobs rest job j P split n p =
    (λ _. subst (λ (r : List R.Job). HasJob (map job_seen r) j P) (sym split) record { job = job_seen job; there = (0, omega arith, refl); number = n; is = p }, λ _. refl)

-- and of which it is not: whether one of the rest is
pub of_rest : (jobs rest : List R.Job) (job : R.Job) (j : ℕ) (P : Job Outline → Type 0) → jobs ≡ job ∷ rest → (job.number ≡ j → P (job_seen job) → ⊥)
    → HasJob (map job_seen rest) j P ↔ HasJob (map job_seen jobs) j P
of_rest jobs rest job j P split fails = (
  λ e. subst (λ (r : List R.Job). HasJob (map job_seen r) j P) (sym split) record { job = e.job; there = (suc e.there.0, omega (arith, e.there.1), e.there.2); number = e.number; is = e.is },
  λ h. one_of (job_seen job) (map job_seen rest) j P fails (subst (λ (r : List R.Job). HasJob (map job_seen r) j P) split h),
)
