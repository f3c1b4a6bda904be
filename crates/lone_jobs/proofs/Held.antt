-- A spool that holds one job.
use Rattle.std.proofs.Common.{◌≡◌, ℕ, zero, suc, ◌+◌, ◌-◌, ◌<◌, Bool, true, false, List, [], ◌∷◌, ◌++◌, length, map, Option, None, refl, sym, ap, subst, ◌∙◌, inl, inr, arith}
use Rattle.std.specs.Prelude.{filter, sum_by}
use Rattle.std.proofs.lemmas.List.{append-nil}
use Rattle.counts.specs.Amounts.{amount, Fits}
use Rattle.claims.specs.declared.row.Row.{Row}
use Rattle.claims.specs.Safety.{HasFinishingOrder, IsOrderOf, CanFinish}
use Rattle.config_values.specs.Config.{Config, limit_of}
use Rattle.lpd_values.specs.Contents.{Contents}
use Rattle.spool_history.specs.Base.{first_base}
use Rattle.spool_history.specs.Events.{Act, Event}
use Rattle.spool_history.specs.Events.Act.{Granted}
use Rattle.spool_history.specs.Events.Event.{Opened, OfJob}
use Rattle.spool_history.specs.Acts.{File}
use Rattle.spool_history.specs.Now.{Job, State, now, is_held, row_of, capacity, IsSafeNow}
use Rattle.spool_history.specs.Steps.{acted, after, change, new_job}
use Rattle.spool_history.specs.Legal.{HasJob, IsLegal, May, MayGrant}
use Rattle.spool_laws.proofs.Known.{Has, has_contained, test}
use Rattle.spool_laws.proofs.Moves.{moved}

abbrev pub History : Type 0
History = List (Event (List ℕ))

abbrev pub Held : Type 0
Held = Job (List ℕ)

-- a job that is received, of which no page was handed to a printer
abbrev pub held_job : (j sender queue granted : ℕ) (lent : Bool) → List (File (List ℕ)) → Option Contents → Held
held_job j sender queue granted lent files control = record {
  number = j;
  sender = sender;
  queue = queue;
  granted = granted;
  lent = lent;
  files = files;
  control = control;
  handed = 0;
  back = 0;
  ended = false;
}

pub has_only : (jobs : List Held) (w : Held) (P : Held → Type 0) → jobs ≡ w ∷ [] → P w → HasJob jobs w.number P
has_only jobs w P e p = subst (λ (l : List Held). HasJob l w.number P) (sym e) (record { job = w; there = (0, omega arith, refl); number = refl; is = p })

pub only_has : (jobs : List Held) (w : Held) (j : ℕ) (P : Held → Type 0) → jobs ≡ w ∷ [] → HasJob jobs j P → P w
only_has jobs w j P e m =
    elim (subst (λ (l : List Held). Has m.job l) e (has_contained m.job jobs m.there)) [
      | inl same ↦ subst P (sym same) m.is
      | inr none ↦ absurd none
    ]

-- what a change of its job leaves of the one held job
changed_here : (w : Held) (act : Act (List ℕ)) → change (OfJob w.number act) w ≡ acted act w
changed_here w act = elim (test w.number w.number) [ inl s ↦ rw s.1 refl | inr s ↦ absurd (s.0 refl) ]

still_held : (w : Held) → w.ended ≡ false → filter is_held (w ∷ []) ≡ w ∷ []
still_held w e = rw e refl

pub act_leaves : (w : Held) (act : Act (List ℕ)) → (acted act w).ended ≡ false → filter is_held (map (change (OfJob w.number act)) (w ∷ [])) ++ [] ≡ acted act w ∷ []
act_leaves w act e =
    append-nil (filter is_held (change (OfJob w.number act) w ∷ []))
    ∙ (ap (λ (x : Held). filter is_held (x ∷ [])) (changed_here w act) ∙ still_held (acted act w) e)

module _ (c : Config) (h : History) (l : IsLegal length c first_base h) where
  pub act_jobs : (w : Held) (act : Act (List ℕ)) → (now c first_base h).jobs ≡ w ∷ [] → (acted act w).ended ≡ false → May length (now c first_base h) (OfJob w.number act)
      → (now c first_base (OfJob w.number act ∷ h)).jobs ≡ acted act w ∷ []
  act_jobs w act one e m =
      ap (λ (v : State (List ℕ)). v.jobs) (moved length c first_base h (OfJob w.number act) l m)
      ∙ (ap (λ (jobs : List Held). filter is_held (map (change (OfJob w.number act)) jobs) ++ []) one ∙ act_leaves w act e)

  pub open_jobs : (j sender queue : ℕ) → (now c first_base h).jobs ≡ [] → May length (now c first_base h) (Opened j sender queue)
      → (now c first_base (Opened j sender queue ∷ h)).jobs ≡ held_job j sender queue 0 false [] None ∷ []
  open_jobs j sender queue none m =
      ap (λ (v : State (List ℕ)). v.jobs) (moved length c first_base h (Opened j sender queue) l m)
      ∙ ap (λ (jobs : List Held). filter is_held (map (change (Opened j sender queue)) jobs) ++ new_job j sender queue ∷ []) none

-- the one row of a finishing order needs no more than is free
not_longer : (r x : Row) (before after : List Row) → ◌≡◌ {A = List Row} (r ∷ []) (before ++ x ∷ after) → r ≡ x
not_longer r x [] after e = cc
not_longer r x (b ∷ []) after e = absurd (let rest : ◌≡◌ {A = List Row} [] (x ∷ after) = cc in cc)
not_longer r x (b ∷ d ∷ bs) after e = absurd (let rest : ◌≡◌ {A = List Row} [] (d ∷ bs ++ x ∷ after) = cc in cc)

no_row_left : (r : Row) → ◌≡◌ {A = List Row} (r ∷ []) [] → ⊥
no_row_left r e = cc

fits_in : (free : ℕ → ℕ) (r : Row) (order : List Row) → IsOrderOf (r ∷ []) order → CanFinish free order → Fits r.need free
fits_in free r [] o f = absurd (no_row_left r o)
fits_in free r (x ∷ order) o f = subst (λ (y : Row). Fits y.need free) (sym (not_longer r x o.0 o.1 o.2)) f.0

pub one_fits : (free : ℕ → ℕ) (r : Row) → HasFinishingOrder free (r ∷ []) → Fits r.need free
one_fits free r s = fits_in free r s.0 s.1.each_once s.1.fits

pub fits_one : (free : ℕ → ℕ) (r : Row) → Fits r.need free → HasFinishingOrder free (r ∷ [])
fits_one free r f = (r ∷ [], record { each_once = ([], [], refl, refl); in_line = (tt, tt); fits = (f, tt) })

-- what is free where these jobs are held
abbrev pub free_with : Config → List Held → ℕ → ℕ
free_with c jobs kind = amount (capacity c) kind - sum_by (λ (row : Row). amount row.held kind) (map (row_of c) jobs)

abbrev pub IsSafeWith : Config → List Held → Type 0
IsSafeWith c jobs = HasFinishingOrder (free_with c jobs) (map (row_of c) jobs)

module _ (c : Config) (j sender q g : ℕ) (files : List (File (List ℕ))) where
  abbrev w : Held
  w = held_job j sender q g false files None

  abbrev w' : Held
  w' = held_job j sender q (g + 1) true files None

  fits_after : g < limit_of c q → Fits (row_of c w).need (free_with c (w ∷ [])) → Fits (row_of c w').need (free_with c (w' ∷ []))
  fits_after below f zero = (let e = f 0 in omega (arith, e))
  fits_after below f (suc kind) = f (suc kind)

  some_free : g < limit_of c q → Fits (row_of c w).need (free_with c (w ∷ [])) → 0 < free_with c (w ∷ []) 0
  some_free below f = (let e = f 0 in omega (arith, e))

  -- a page may be granted to the one held job while it has fewer than its queue's limit
  pub may_grant : (v : State (List ℕ)) → v.config ≡ c → v.jobs ≡ w ∷ [] → g < limit_of c q → IsSafeNow v → MayGrant v j
  may_grant v same one below safe =
      let safe' : IsSafeWith c (w ∷ []) = subst (λ (jobs : List Held). IsSafeWith c jobs) one (subst (λ (k : Config). IsSafeWith k v.jobs) same safe) in
      let f : Fits (row_of c w).need (free_with c (w ∷ [])) = one_fits (free_with c (w ∷ [])) (row_of c w) safe' in
      let left : (after (OfJob j Granted) v).jobs ≡ w' ∷ [] = ap (λ (jobs : List Held). filter is_held (map (change (OfJob j Granted)) jobs) ++ []) one ∙ act_leaves w Granted refl in
      let then : IsSafeWith c (w' ∷ []) = fits_one (free_with c (w' ∷ [])) (row_of c w') (fits_after below f) in (
        subst (λ (k : Config). 0 < free_with k v.jobs 0) (sym same) (subst (λ (jobs : List Held). 0 < free_with c jobs 0) (sym one) (some_free below f)),
        subst (λ (k : Config). IsSafeWith k (after (OfJob j Granted) v).jobs) (sym same) (subst (λ (jobs : List Held). IsSafeWith c jobs) (sym left) then),
      )
