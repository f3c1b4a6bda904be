-- What a job holds: no more pages than were lent to it.
use Rattle.std.proofs.Common.{inl, inr, ◌≡◌, ℕ, ◌+◌, ◌≤◌, Bool, true, false, List, [], ◌∷◌, ◌++◌, length, refl, ap, subst, arith, length-append}
use Rattle.std.specs.Prelude.{◌&&◌, not, cond, nat_le}
use Rattle.lpd_values.specs.Contents.{Contents}
use Rattle.lpd_values.specs.Kept.{is_print_list}
use Rattle.lpd_values.specs.declared.limits.TheConstants.{MAX_PRINTS}
use Rattle.lpd_values.specs.Told.{prints_in}
use Rattle.std.proofs.lemmas.Bool.{and_parts, leb-true}
use Rattle.spool_history.specs.Base.{Base}
use Rattle.spool_history.specs.Events.{Act, Event}
use Rattle.spool_history.specs.Events.Act.{Granted, Began, Put, FileEnded, Controlled, Aborted}
use Rattle.spool_history.specs.Events.Event.{OfJob}
use Rattle.config_values.specs.Config.{Config}
use Rattle.spool_history.specs.Acts.{File, granted_by, is_lent_by, files_by, control_by, at_last, new_file, is_open_in}
use Rattle.spool_history.specs.Said.{acts_of}
use Rattle.spool_history.specs.Now.{now}
use Rattle.spool_history.specs.Legal.{IsLegal, May}
use Rattle.spool_laws.proofs.Known.{has_at, test, clash, or_true}
use Rattle.spool_laws.proofs.Copies.{pages_in}

pub pages_push : {C : Type 0} (fs : List (File C)) (name : List ℕ) (count : ℕ) → pages_in (fs ++ new_file name count ∷ []) ≡ pages_in fs
pages_push [] name count = omega arith
pages_push (f ∷ fs) name count = let ih = pages_push fs name count in omega arith

pages_put : {C : Type 0} (fs : List (File C)) (page : C) → pages_in (at_last (λ f. record f { pages = f.pages ++ page ∷ [] }) fs) ≤ pages_in fs + 1
pages_put [] page = omega arith
pages_put (f ∷ []) page = let e = length-append f.pages (page ∷ []) in omega arith
pages_put (f ∷ g ∷ fs) page = let ih = pages_put (g ∷ fs) page in omega arith

pub pages_ended : {C : Type 0} (fs : List (File C)) → pages_in (at_last (λ f. record f { ended = true }) fs) ≡ pages_in fs
pages_ended [] = refl
pages_ended (f ∷ []) = refl
pages_ended (f ∷ g ∷ fs) = ap (λ (n : ℕ). length f.pages + n) (pages_ended (g ∷ fs))

pub open_push : {C : Type 0} (fs : List (File C)) (name : List ℕ) (count : ℕ) → is_open_in (fs ++ new_file name count ∷ []) ≡ true
open_push [] name count = refl
open_push (f ∷ fs) name count = rw (open_push fs name count) (or_true (not f.ended))

-- of a job's acts: a page is lent only while a file is open, its files have no more pages than were lent, and its print
-- list has 99 names at most
pub record Keeps {C : Type 0} (acts : List (Act C)) : Type 0 where
  pub lent : is_lent_by acts ≡ true → is_open_in (files_by acts) ≡ true
  pub count : pages_in (files_by acts) + cond (is_lent_by acts) 1 0 ≤ granted_by acts
  pub prints : length (prints_in (control_by acts)) ≤ 99

less_lent : (b : Bool) (n m : ℕ) → n + cond b 1 0 ≤ m → n ≤ m
less_lent true n m le = omega arith
less_lent false n m le = omega arith

few : (names : List (List ℕ)) → is_print_list names ≡ true → length names ≤ 99
few names is =
    let parts = and_parts (nat_le 1 (length names) && nat_le (length names) MAX_PRINTS) _ is in
    omega (arith, leb-true (length names) MAX_PRINTS (and_parts (nat_le 1 (length names)) (nat_le (length names) MAX_PRINTS) parts.0).1)

keeps_granted : {C : Type 0} (acts : List (Act C)) → Keeps acts → is_open_in (files_by acts) ≡ true → Keeps (Granted ∷ acts)
keeps_granted acts k open' = record { lent = λ e. open'; count = (let n = less_lent (is_lent_by acts) (pages_in (files_by acts)) (granted_by acts) k.count in omega arith); prints = k.prints }

keeps_began : {C : Type 0} (acts : List (Act C)) (name : List ℕ) (count : ℕ) → Keeps acts → Keeps (Began name count ∷ acts)
keeps_began acts name count k = record { lent = λ e. open_push (files_by acts) name count; count = (let n = k.count in let p = pages_push (files_by acts) name count in omega arith); prints = k.prints }

keeps_put : {C : Type 0} (acts : List (Act C)) (file number : ℕ) (page : C) → Keeps acts → is_lent_by acts ≡ true → Keeps (Put file number page ∷ acts)
keeps_put acts file number page k lent = record { lent = λ e. absurd (clash false e refl); count = (let n : pages_in (files_by acts) + 1 ≤ granted_by acts = rw lent at k.count in let p = pages_put (files_by acts) page in omega arith); prints = k.prints }

keeps_ended : {C : Type 0} (acts : List (Act C)) (file : ℕ) (whole : Bool) → Keeps acts → is_lent_by acts ≡ false → Keeps (FileEnded file whole ∷ acts)
keeps_ended acts file whole k lent = record { lent = λ e. absurd (clash (is_lent_by acts) e lent); count = (let n = k.count in let p = pages_ended (files_by acts) in omega arith); prints = k.prints }

keeps_controlled : {C : Type 0} (acts : List (Act C)) (control : Contents) (whole : Bool) → Keeps acts → is_print_list control.prints ≡ true → Keeps (Controlled control whole ∷ acts)
keeps_controlled acts control whole k is = record { lent = k.lent; count = k.count; prints = few control.prints is }

keeps_aborted : {C : Type 0} (acts : List (Act C)) → Keeps acts → Keeps (Aborted ∷ acts)
keeps_aborted acts k = record { lent = λ e. absurd (clash false e refl); count = (let n = less_lent (is_lent_by acts) (pages_in (files_by acts)) (granted_by acts) k.count in omega arith); prints = k.prints }

keeps_act : {C : Type 0} (h : List (Event C)) (k : ℕ) (act : Act C) → ((j : ℕ) → Keeps (acts_of h j)) → Keeps (act ∷ acts_of h k) → (j : ℕ) → Keeps (acts_of (OfJob k act ∷ h) j)
keeps_act {C} h k act f new j = elim (test k j) [
  | inl s ↦ rw s.1 (subst (λ (i : ℕ). Keeps (act ∷ acts_of h i)) s.0 new)
  | inr s ↦ rw s.1 (f j)
]

keeps_step : {C : Type 0} (size : C → ℕ) (c : Config) (base : Base) (h : List (Event C)) (e : Event C) → May size (now c base h) e → ((j : ℕ) → Keeps (acts_of h j)) → (j : ℕ) → Keeps (acts_of (e ∷ h) j)
keeps_step size c base h (OfJob k Granted) m f = keeps_act h k Granted f (keeps_granted (acts_of h k) (f k) (has_at c base h k _ m.0).is.0.1)
keeps_step size c base h (OfJob k (Began name count)) m f = keeps_act h k (Began name count) f (keeps_began (acts_of h k) name count (f k))
keeps_step size c base h (OfJob k (Put file number page)) m f = keeps_act h k (Put file number page) f (keeps_put (acts_of h k) file number page (f k) (has_at c base h k _ m.0).is.1)
keeps_step size c base h (OfJob k (FileEnded file whole)) m f = keeps_act h k (FileEnded file whole) f (keeps_ended (acts_of h k) file whole (f k) (has_at c base h k _ m.0).is.1)
keeps_step size c base h (OfJob k (Controlled control whole)) m f = keeps_act h k (Controlled control whole) f (keeps_controlled (acts_of h k) control whole (f k) m.1.prints)
keeps_step size c base h (OfJob k Aborted) m f = keeps_act h k Aborted f (keeps_aborted (acts_of h k) (f k))
keeps_step size c base h _ m f = f

pub keeps : {C : Type 0} (size : C → ℕ) (c : Config) (base : Base) (h : List (Event C)) → IsLegal size c base h → (j : ℕ) → Keeps (acts_of h j)
keeps size c base [] l = λ j. record { lent = λ e. absurd (clash false e refl); count = omega arith; prints = omega arith }
keeps size c base (e ∷ h) l = keeps_step size c base h e l.0 (keeps size c base h l.1)

-- the files of a job have no more pages than were lent to it
pub files_within : {C : Type 0} (size : C → ℕ) (c : Config) (base : Base) (h : List (Event C)) → IsLegal size c base h → (j : ℕ) → pages_in (files_by (acts_of h j)) ≤ granted_by (acts_of h j)
files_within size c base h l j = less_lent (is_lent_by (acts_of h j)) (pages_in (files_by (acts_of h j))) (granted_by (acts_of h j)) (keeps size c base h l j).count
