-- How often each thing may be told of a job.
use Rattle.std.proofs.Common.{inl, inr, ◌≡◌, ◌==◌, ℕ, ◌+◌, ◌<◌, ◌≤◌, true, false, List, [], ◌∷◌, length, refl, sym, ◌∙◌, ap, subst, arith}
use Rattle.std.specs.Prelude.{◌&&◌, if◌then◌else◌}
use Rattle.std.specs.List.{list_any, AllByRecursion}
use Rattle.spool_history.specs.Base.{Base}
use Rattle.spool_history.specs.Events.{Act, Event, Sheet, Turn}
use Rattle.spool_history.specs.Events.Act.{Granted, Began, Put, FileEnded, Controlled, Aborted}
use Rattle.spool_history.specs.Events.Turn.{Handed, Printed, Failed}
use Rattle.spool_history.specs.Events.Event.{Opened, OfJob, AtPrinter, Removed}
use Rattle.config_values.specs.Config.{Config, limit_of, reserve_of}
use Rattle.spool_history.specs.Acts.{granted_by, files_by}
use Rattle.spool_history.specs.Said.{Opening, openings, acts_of, ends_by_turn, is_failed, is_handed, back_of, has_ended}
use Rattle.spool_history.specs.Now.{Job, now}
use Rattle.spool_history.specs.Legal.{HasJob, IsLegal, May}
use Rattle.spool_laws.proofs.Known.{Has, At, has_at, has_last, test, clash}
use Rattle.spool_laws.proofs.Facts.{Facts, facts, last, is_out, turn_of_page, handed_at, handed_same, acts_other, acts_here, ended_aborted, back_one}
use Rattle.spool_laws.proofs.Whole.{still_ended}
use Rattle.spool_laws.proofs.Counts.{none_by, Fits, fits_none, fits_later, fits_granted, fits_began, fits_put, fits_ended, fits_controlled, fits_aborted, all_counted, began_files, count_le}
use Rattle.spool_laws.proofs.Sound.{sound}
use Rattle.std.proofs.lemmas.Bool.{cases_Bool}

-- how often a page of a job failed, and how often the job was removed
abbrev pub failed_of : {C : Type 0} → List (Event C) → ℕ → ℕ
failed_of [] j = 0
failed_of (AtPrinter p sheet turn ∷ h) j = if (sheet.job == j) && is_failed turn then failed_of h j + 1 else failed_of h j
failed_of (_ ∷ h) j = failed_of h j

abbrev pub removed_of : {C : Type 0} → List (Event C) → ℕ → ℕ
removed_of [] j = 0
removed_of (Removed q jobs ∷ h) j = if list_any (λ k. k == j) jobs then removed_of h j + 1 else removed_of h j
removed_of (_ ∷ h) j = removed_of h j

pub record Told {C : Type 0} (h : List (Event C)) (j : ℕ) : Type 0 where
  pub acts : Fits (acts_of h j) (has_ended h j)
  pub failed : failed_of h j ≤ 1
  pub after : 0 < failed_of h j → (has_ended h j ≡ true) × (handed_at h j ≡ back_of h j)
  pub removed : removed_of h j ≤ 1
  pub gone : 0 < removed_of h j → has_ended h j ≡ true

told_act : {C : Type 0} (h : List (Event C)) (k : ℕ) (act : Act C) → Fits (act ∷ acts_of h k) (has_ended (OfJob k act ∷ h) k) → ((j : ℕ) → Told h j) → (j : ℕ) → Told (OfJob k act ∷ h) j
told_act {C} h k act fits t j =
    let u = t j in
    record {
      acts = elim (test k j) [
        | inl s ↦
            let here : Fits (acts_of (OfJob k act ∷ h) k) (has_ended (OfJob k act ∷ h) k) = subst (λ (a : List (Act C)). Fits a (has_ended (OfJob k act ∷ h) k)) (sym (acts_here h k act)) fits in
            subst (λ (i : ℕ). Fits (acts_of (OfJob k act ∷ h) i) (has_ended (OfJob k act ∷ h) i)) s.0 here
        | inr s ↦ subst (λ (a : List (Act C)). Fits a (has_ended (OfJob k act ∷ h) j)) (sym (acts_other h k act j s.0)) (fits_later (acts_of h j) (has_ended h j) (has_ended (OfJob k act ∷ h) j) (still_ended h (OfJob k act) j) u.acts)
      ];
      failed = u.failed;
      after = λ p. (still_ended h (OfJob k act) j (u.after p).0, (u.after p).1);
      removed = u.removed;
      gone = λ p. still_ended h (OfJob k act) j (u.gone p);
    }

pub failed_one : {C : Type 0} (h : List (Event C)) (p : ℕ) (sheet : Sheet C) (j : ℕ) → sheet.job ≡ j → failed_of (AtPrinter p sheet Failed ∷ h) j ≡ failed_of h j + 1
failed_one h p sheet j e = elim (test sheet.job j) [ inl s ↦ rw s.1 refl | inr s ↦ absurd (s.0 e) ]

-- a page that fails ends its job
ends_by_failure : (turn : Turn) → is_failed turn ≡ true → ends_by_turn turn ≡ true
ends_by_failure Failed f = refl
ends_by_failure _ f = absurd (clash false f refl)

-- a turn of a printer at a page: none of its job failed before, and if this one does, no other is out
told_turn : {C : Type 0} (h : List (Event C)) (p : ℕ) (sheet : Sheet C) (turn : Turn) (j : ℕ) → (sheet.job ≡ j → failed_of h j ≡ 0)
    → (sheet.job ≡ j → is_failed turn ≡ true → handed_at (AtPrinter p sheet turn ∷ h) j ≡ back_of (AtPrinter p sheet turn ∷ h) j) → Told h j → Told (AtPrinter p sheet turn ∷ h) j
told_turn h p sheet turn j none out u = elim (test sheet.job j) [
  | inl s ↦
      record {
        acts = fits_later (acts_of h j) (has_ended h j) (has_ended (AtPrinter p sheet turn ∷ h) j) (still_ended h (AtPrinter p sheet turn) j) u.acts;
        failed = elim (cases_Bool (is_failed turn)) [ inl f ↦ rw (s.1, f) (omega arith) | inr f ↦ rw (s.1, f) (omega arith) ];
        after = λ q. elim (cases_Bool (is_failed turn)) [
          | inl f ↦ (rw (s.1, ends_by_failure turn f) refl, out s.0 f)
          | inr f ↦ absurd (let more : 0 < failed_of h j = rw (s.1, f) at q in omega arith)
        ];
        removed = u.removed;
        gone = λ q. still_ended h (AtPrinter p sheet turn) j (u.gone q);
      }
  | inr s ↦ record { acts = rw s.1 u.acts; failed = rw s.1 u.failed; after = rw s.1 u.after; removed = u.removed; gone = rw s.1 u.gone }
]

-- and where the page comes back
told_back : {C : Type 0} (h : List (Event C)) (p : ℕ) (sheet : Sheet C) (turn : Turn) → is_handed turn ≡ false → handed_at h sheet.job ≡ back_of h sheet.job + 1 → ((j : ℕ) → Told h j) → (j : ℕ)
    → Told (AtPrinter p sheet turn ∷ h) j
told_back h p sheet turn is out t j =
    let here : sheet.job ≡ j → handed_at h j ≡ back_of h j + 1 = λ same. subst (λ (i : ℕ). handed_at h i ≡ back_of h i + 1) same out in
    told_turn h p sheet turn j (λ same. none_by (failed_of h j) (λ q. omega (arith, ((t j).after q).1, here same)))
    (λ same f. ap length (handed_same h p sheet turn j is) ∙ (here same ∙ sym (back_one h p sheet turn j is same))) (t j)

named_going : {C : Type 0} (c : Config) (base : Base) (h : List (Event C)) (P : Job C → Type 0) (j : ℕ) (jobs : List ℕ) → ((v : Job C) → P v → v.ended ≡ false) → AllByRecursion (λ k. HasJob (now c base h).jobs k P) jobs → list_any (λ (k : ℕ). k == j) jobs ≡ true → has_ended h j ≡ false
named_going c base h P j [] going all e = absurd cc
named_going {C} c base h P j (k ∷ ks) going all e = elim (test k j) [
  | inl s ↦ (let a = has_at c base h k P all.0 in subst (λ (i : ℕ). has_ended h i ≡ false) s.0 (going _ a.is))
  | inr s ↦ named_going c base h P j ks going all.1 (rw s.1 at e)
]

told_removed : {C : Type 0} (h : List (Event C)) (q : ℕ) (jobs : List ℕ) (j : ℕ) → (list_any (λ (k : ℕ). k == j) jobs ≡ true → has_ended h j ≡ false) → Told h j → Told (Removed q jobs ∷ h) j
told_removed h q jobs j going u = record {
  acts = fits_later (acts_of h j) (has_ended h j) (has_ended (Removed q jobs ∷ h) j) (still_ended h (Removed q jobs) j) u.acts;
  failed = u.failed;
  after = λ p. (still_ended h (Removed q jobs) j (u.after p).0, (u.after p).1);
  removed = elim (cases_Bool (list_any (λ (k : ℕ). k == j) jobs)) [
    | inl e ↦ rw e (omega (arith, none_by (removed_of h j) (λ p. clash (has_ended h j) (u.gone p) (going e))))
    | inr e ↦ rw e u.removed
  ];
  gone = elim (cases_Bool (list_any (λ (k : ℕ). k == j) jobs)) [ inl e ↦ rw e (λ p. refl) | inr e ↦ rw e (λ p. u.gone p) ];
}

told_step : {C : Type 0} (size : C → ℕ) (c : Config) (base : Base) (h : List (Event C)) (e : Event C) → IsLegal size c base h → May size (now c base h) e → ((j : ℕ) → Told h j) → (j : ℕ) → Told (e ∷ h) j
told_step size c base h (OfJob k Granted) l m t =
    let a = has_at c base h k _ m.0 in
    told_act h k Granted (fits_granted (acts_of h k) (has_ended h k) _ (t k).acts a.is.0.0.0 a.is.0.2) t
told_step size c base h (OfJob k (Began name count)) l m t =
    let a = has_at c base h k _ m.0 in
    told_act h k (Began name count) (fits_began (acts_of h k) name count (has_ended h k) _ (t k).acts a.is.0.0 a.is.3) t
told_step size c base h (OfJob k (Put file number page)) l m t =
    let a = has_at c base h k _ m.0 in
    told_act h k (Put file number page) (fits_put (acts_of h k) file number page (has_ended h k) _ (t k).acts a.is.0.0 a.is.1) t
told_step size c base h (OfJob k (FileEnded file whole)) l m t =
    let a = has_at c base h k _ m.0 in
    let o = a.is.2 in
    told_act h k (FileEnded file whole) (fits_ended (acts_of h k) file whole o.0 o.1 (has_ended h k) _ (t k).acts a.is.0.0 o.2 o.4) t
told_step size c base h (OfJob k (Controlled control whole)) l m t =
    let a = has_at c base h k _ m.0 in
    told_act h k (Controlled control whole) (fits_controlled (acts_of h k) control whole (has_ended h k) _ (t k).acts a.is.0.0 a.is.1) t
told_step size c base h (OfJob k Aborted) l m t =
    told_act h k Aborted (fits_aborted (acts_of h k) (has_ended h k) _ (t k).acts (elim (has_at c base h k _ m.0).is [ inl x ↦ inl x.0 | inr x ↦ inr x.1 ]) (ended_aborted h k)) t
told_step size c base h (AtPrinter p sheet Handed) l m t = λ j.
    (let going = (turn_of_page c base h p sheet m.0.0 m.0.1 m.1).at.is.goes_on in
    told_turn h p sheet Handed j (λ same. none_by (failed_of h j) (λ q. clash (has_ended h j) ((t j).after q).0 (subst (λ (i : ℕ). has_ended h i ≡ false) same going)))
    (λ same f. absurd (clash false f refl)) (t j))
told_step size c base h (AtPrinter p sheet (Printed x)) l m t = told_back h p sheet (Printed x) refl ((facts size c base h l).out p sheet (is_out c base h p sheet m.0 m.1.0)).1 t
told_step size c base h (AtPrinter p sheet Failed) l m t = told_back h p sheet Failed refl ((facts size c base h l).out p sheet (is_out c base h p sheet m.0 m.1)).1 t
told_step size c base h (Removed q jobs) l m t = λ j. told_removed h q jobs j (named_going c base h _ j jobs (λ v x. x.2) m.4) (t j)
told_step size c base h e l m t = λ j. (
    let u = t j in
    record {
      acts = fits_later (acts_of h j) (has_ended h j) (has_ended (e ∷ h) j) (still_ended h e j) u.acts;
      failed = u.failed;
      after = λ p. (still_ended h e j (u.after p).0, (u.after p).1);
      removed = u.removed;
      gone = λ p. still_ended h e j (u.gone p);
    })

pub told : {C : Type 0} (size : C → ℕ) (c : Config) (base : Base) (h : List (Event C)) → IsLegal size c base h → (j : ℕ) → Told h j
told size c base [] l j = record { acts = fits_none false; failed = omega arith; after = λ p. absurd (omega arith); removed = omega arith; gone = λ p. absurd (omega arith) }
told size c base (e ∷ h) l j = told_step size c base h e l.1 l.0 (told size c base h l.1) j

-- pages within the limit

abbrev pub Within : {C : Type 0} → Config → Base → List (Event C) → Type 0
Within c base h = (o : Opening) → Has o (openings h) → granted_by (acts_of h o.job) ≤ limit_of c o.queue

within_act : {C : Type 0} (c : Config) (base : Base) (h : List (Event C)) (k : ℕ) (act : Act C) → ((o : Opening) → Has o (openings h) → k ≡ o.job → granted_by (act ∷ acts_of h o.job) ≤ limit_of c o.queue) → Within c base h → Within c base (OfJob k act ∷ h)
within_act c base h k act here w o has = elim (test k o.job) [ inl s ↦ rw s.1 (here o has s.0) | inr s ↦ rw s.1 (w o has) ]

within_granted : {C : Type 0} (c : Config) (base : Base) (h : List (Event C)) (k : ℕ) (P : Job C → Type 0) → Facts base h → (a : At h k P) → granted_by (acts_of h k) < limit_of c a.queue → Within c base h → Within c base (OfJob k Granted ∷ h)
within_granted c base h k P f a lt = within_act c base h k Granted (λ o has same.
    let e : record { job = k; sender = a.sender; queue = a.queue } ≡ o = f.once (record { job = k; sender = a.sender; queue = a.queue }) o a.there has same in
    let b : granted_by (acts_of h o.job) < limit_of c o.queue = subst (λ (x : Opening). granted_by (acts_of h x.job) < limit_of c x.queue) e lt in
    omega arith)

within_opened : {C : Type 0} (c : Config) (base : Base) (h : List (Event C)) (k s q : ℕ) → Facts base h → k ≡ last base h + 1 → Within c base h → Within c base (Opened k s q ∷ h)
within_opened {C} c base h k s q f is w o has =
    elim (has_last o (openings h) (record { job = k; sender = s; queue = q }) has) [
      | inl t ↦ let old = w o t in omega arith
      | inr e ↦
          let j : k ≡ o.job = ap (λ (y : Opening). y.job) e in
          let z : granted_by (acts_of h o.job) ≡ 0 = ap granted_by (f.fresh o.job (inr (omega arith))).acts in
          omega arith
    ]

within_step : {C : Type 0} (size : C → ℕ) (c : Config) (base : Base) (h : List (Event C)) (e : Event C) → IsLegal size c base h → May size (now c base h) e → Within c base h → Within c base (e ∷ h)
within_step size c base h (Opened k s q) l m w = within_opened c base h k s q (facts size c base h l) m.4 w
within_step size c base h (OfJob k Granted) l m w = let a = has_at c base h k _ m.0 in within_granted c base h k _ (facts size c base h l) a a.is.1 w
within_step size c base h (OfJob k act) l m w = within_act c base h k act (λ o has e. w o has) w
within_step size c base h _ l m w = w

pub within : {C : Type 0} (size : C → ℕ) (c : Config) (base : Base) (h : List (Event C)) → IsLegal size c base h → Within c base h
within size c base [] l = λ o has. absurd has
within size c base (e ∷ h) l = within_step size c base h e l.1 l.0 (within size c base h l.1)

-- all that is told of a job, its opening and the rest, is within its reserve
abbrev pub used : {C : Type 0} → List (Event C) → ℕ → ℕ
used h j = 1 + length (acts_of h j) + (handed_at h j + (back_of h j + (failed_of h j + removed_of h j)))

pub reserved : {C : Type 0} (size : C → ℕ) (c : Config) (base : Base) (h : List (Event C)) → IsLegal size c base h → (o : Opening) → Has o (openings h) → used h o.job ≤ reserve_of c o.queue
reserved size c base h l o has =
    let a = acts_of h o.job in
    let t = told size c base h l o.job in
    let s = sound size c base h l o in
    let w = within size c base h l o has in
    let b = count_le (files_by a) in
    omega (arith, all_counted a, t.acts.puts, t.acts.files, t.acts.ended, t.acts.control, t.acts.aborted, t.failed, t.removed, began_files a, s.back, s.handed, s.many)
