-- An open file is the last one.
use Rattle.std.proofs.Common.{inl, inr, ◌≡◌, ℕ, Bool, true, false, List, [], ◌∷◌, ◌++◌, refl, sym, ap, subst}
use Rattle.std.specs.Prelude.{◌||◌, not}
use Rattle.std.proofs.lemmas.Bool.{or_parts}
use Rattle.spool_history.specs.Events.{Act, Event}
use Rattle.spool_history.specs.Events.Act.{Granted, Began, Put, FileEnded, Controlled, Aborted}
use Rattle.spool_history.specs.Events.Event.{Opened, OfJob, AtPrinter, Removed, Started, Closed}
use Rattle.spool_history.specs.Base.{Base}
use Rattle.config_values.specs.Config.{Config}
use Rattle.spool_history.specs.Acts.{File, new_file, at_last, files_by, is_open_in}
use Rattle.spool_history.specs.Said.{acts_of}
use Rattle.spool_history.specs.Now.{Job, now}
use Rattle.spool_history.specs.Legal.{IsLegal, May}
use Rattle.spool_laws.proofs.Known.{Has, has_at, known, test, clash}

-- all files but the last have ended
abbrev pub LastOpen : {C : Type 0} → List (File C) → Type 0
LastOpen [] = Unit {0}
LastOpen (f ∷ []) = Unit {0}
LastOpen (f ∷ g ∷ fs) = (f.ended ≡ true) × LastOpen (g ∷ fs)

not_false : (b : Bool) → not b ≡ false → b ≡ true
not_false true e = refl
not_false false e = absurd (clash true refl e)

open_push : {C : Type 0} (fs : List (File C)) (x : File C) → is_open_in fs ≡ false → LastOpen (fs ++ x ∷ [])
open_push [] x e = tt
open_push (f ∷ []) x e = (not_false f.ended (or_parts (not f.ended) false e).0, tt)
open_push (f ∷ g ∷ fs) x e = let o = or_parts (not f.ended) (is_open_in (g ∷ fs)) e in (not_false f.ended o.0, open_push (g ∷ fs) x o.1)

last_changed : {C : Type 0} (k : File C → File C) (fs : List (File C)) → LastOpen fs → LastOpen (at_last k fs)
last_changed k [] l = tt
last_changed k (f ∷ []) l = tt
last_changed k (f ∷ g ∷ []) l = (l.0, tt)
last_changed k (f ∷ g ∷ x ∷ fs) l = (l.0, last_changed k (g ∷ x ∷ fs) l.1)

opens_act : {C : Type 0} (h : List (Event C)) (k : ℕ) (act : Act C) → ((j : ℕ) → LastOpen (files_by (acts_of h j))) → LastOpen (files_by (act ∷ acts_of h k)) → (j : ℕ) → LastOpen (files_by (acts_of (OfJob k act ∷ h) j))
opens_act {C} h k act f new j = elim (test k j) [
  | inl s ↦ rw s.1 (subst (λ (i : ℕ). LastOpen (files_by (act ∷ acts_of h i))) s.0 new)
  | inr s ↦ rw s.1 (f j)
]

opens_step : {C : Type 0} (size : C → ℕ) (c : Config) (base : Base) (h : List (Event C)) (e : Event C) → May size (now c base h) e → ((j : ℕ) → LastOpen (files_by (acts_of h j))) → (j : ℕ) → LastOpen (files_by (acts_of (e ∷ h) j))
opens_step size c base h (Opened k s q) m f = f
opens_step size c base h (OfJob k Granted) m f = opens_act h k Granted f (f k)
opens_step size c base h (OfJob k (Began name count)) m f = opens_act h k (Began name count) f (open_push (files_by (acts_of h k)) (new_file name count) (has_at c base h k _ m.0).is.1)
opens_step {C} size c base h (OfJob k (Put file number page)) m f = opens_act h k (Put file number page) f (last_changed (λ (x : File C). record x { pages = x.pages ++ page ∷ [] }) (files_by (acts_of h k)) (f k))
opens_step {C} size c base h (OfJob k (FileEnded file whole)) m f = opens_act h k (FileEnded file whole) f (last_changed (λ (x : File C). record x { ended = true }) (files_by (acts_of h k)) (f k))
opens_step size c base h (OfJob k (Controlled control whole)) m f = opens_act h k (Controlled control whole) f (f k)
opens_step size c base h (OfJob k Aborted) m f = opens_act h k Aborted f (f k)
opens_step size c base h (AtPrinter p sheet turn) m f = f
opens_step size c base h (Removed q jobs) m f = f
opens_step size c base h (Started q) m f = f
opens_step size c base h Closed m f = f

-- of a job's files none but the last is open
pub opens : {C : Type 0} (size : C → ℕ) (c : Config) (base : Base) (h : List (Event C)) → IsLegal size c base h → (j : ℕ) → LastOpen (files_by (acts_of h j))
opens size c base [] l = λ j. tt
opens size c base (e ∷ h) l = opens_step size c base h e l.0 (opens size c base h l.1)

-- the same of each held job
pub job_opens : {C : Type 0} (size : C → ℕ) (c : Config) (base : Base) (h : List (Event C)) (x : Job C) → IsLegal size c base h → Has x (now c base h).jobs → LastOpen x.files
job_opens {C} size c base h x l has = (let k = known c base h x has in subst (λ (v : Job C). LastOpen v.files) (sym k.is) (opens size c base h l k.opening.job))

-- the last of these files
pub record LastOf {C : Type 0} (fs : List (File C)) : Type 0 where
  pub before : List (File C)
  pub last : File C
  pub is : fs ≡ before ++ last ∷ []
  pub open' : last.ended ≡ false

open_by : {C : Type 0} (f : File C) (b : Bool) → f.ended ≡ b → (not f.ended || false) ≡ true → f.ended ≡ false
open_by f true e o = absurd (clash (not f.ended || false) o (rw e refl))
open_by f false e o = e

-- an open file is there, and so it is the last
pub last_of : {C : Type 0} (fs : List (File C)) → LastOpen fs → is_open_in fs ≡ true → LastOf fs
last_of [] l e = absurd (clash false e refl)
last_of (f ∷ []) l e = record { before = []; last = f; is = refl; open' = open_by f f.ended refl e }
last_of {C} (f ∷ g ∷ fs) l e =
    let rest : is_open_in (g ∷ fs) ≡ true = rw l.0 at e in
    let r = last_of (g ∷ fs) l.1 rest in
    record { before = f ∷ r.before; last = r.last; is = ap (λ (xs : List (File C)). f ∷ xs) r.is; open' = r.open' }
