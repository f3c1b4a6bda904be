-- Each page is in a chain, lent, at a printer or free.
use Rattle.std.proofs.Common.{inl, inr, ◌≡◌, ◌≢◌, ℕ, suc, ◌+◌, ◌-◌, ◌≤◌, Bool, true, false, List, [], ◌∷◌, ◌++◌, length, map, refl, sym, ◌∙◌, ap, subst, arith}
use Rattle.std.specs.Prelude.{not, cond, sum_by, Option, Some, is_some}
use Rattle.std.proofs.lemmas.List.{length_push}
use Rattle.std.proofs.lemmas.List.Sums.{sum_by-cons}
use Rattle.std.proofs.lemmas.Bool.{or_parts}
use Rattle.spool_history.specs.Base.{Base}
use Rattle.spool_history.specs.Events.{Act, Event, Sheet, Turn}
use Rattle.spool_history.specs.Events.Act.{Granted, Began, Put, FileEnded, Controlled, Aborted}
use Rattle.spool_history.specs.Events.Turn.{Handed, Printed, Failed}
use Rattle.spool_history.specs.Events.Event.{Opened, OfJob, AtPrinter}
use Rattle.config_values.specs.Config.{Config, printer_count}
use Rattle.spool_history.specs.Acts.{File, at_last, granted_by, is_lent_by, files_by}
use Rattle.spool_history.specs.Said.{Opening, openings, acts_of, is_handed, back_of, has_ended, ends, out_at}
use Rattle.spool_history.specs.Now.{Job, Printer, now, job_of, is_held, is_received, has_page_out, pages_held, free_pages, printer_of, up_to}
use Rattle.spool_history.specs.Legal.{IsLegal, May}
use Rattle.spool_laws.specs.Sums.{chained_of, chained, lent, at_printers}
use Rattle.spool_laws.proofs.Known.{Has, has_at, known, test, clash}
use Rattle.spool_laws.proofs.Facts.{Facts, Unknown, ended_aborted, facts, last, Turn', turn_of_page, handed_number, handed_at, handed_same, is_out, count_one, count_more, back_same, back_more, back_one, out_here, out_there}
use Rattle.spool_laws.proofs.Counts.{with_page, last_push}
use Rattle.spool_laws.proofs.Copies.{pages_in}
use Rattle.spool_laws.proofs.Held.{pages_push, pages_ended}
use Rattle.spool_laws.proofs.Adding.{sum_same, sum_parts, sum_filter, sum_map, up_none, up_once}
use Rattle.spool_laws.proofs.Reserve.{no_events}
use Rattle.spool_laws.proofs.Sound.{Sound, sound, out_kept}
use Rattle.spool_laws.proofs.Sums.{numbers, sum_opened, pages_add_up}

abbrev pub one_for : Bool → ℕ
one_for b = cond b 1 0

-- until a job ends, what was lent to it is in its files, or still lent

abbrev Filled : {C : Type 0} → List (Act C) → Type 0
Filled a = pages_in (files_by a) + one_for (is_lent_by a) ≡ granted_by a

abbrev FilledAt : {C : Type 0} → List (Event C) → ℕ → Type 0
FilledAt h j = has_ended h j ≡ false → Filled (acts_of h j)

ended_before : {C : Type 0} (h : List (Event C)) (e : Event C) (j : ℕ) → has_ended (e ∷ h) j ≡ false → has_ended h j ≡ false
ended_before h e j goes_on = (or_parts (ends j e) (has_ended h j) goes_on).1

filled_act : {C : Type 0} (h : List (Event C)) (k : ℕ) (act : Act C) → (has_ended (OfJob k act ∷ h) k ≡ false → Filled (acts_of h k) → Filled (act ∷ acts_of h k)) → ((j : ℕ) → FilledAt h j) → (j : ℕ) → FilledAt (OfJob k act ∷ h) j
filled_act {C} h k act more f j goes_on =
    let old : Filled (acts_of h j) = f j (ended_before h (OfJob k act) j goes_on) in
    elim (test k j) [
      | inl s ↦
          let new : Filled (act ∷ acts_of h j) = subst (λ (i : ℕ). has_ended (OfJob k act ∷ h) i ≡ false → Filled (acts_of h i) → Filled (act ∷ acts_of h i)) s.0 more goes_on old in
          rw s.1 new
      | inr s ↦ rw s.1 old
    ]

pages_last : {C : Type 0} (before : List (File C)) (last : File C) → pages_in (before ++ last ∷ []) ≡ pages_in before + length last.pages
pages_last [] last = omega arith
pages_last (f ∷ fs) last = let ih = pages_last fs last in omega arith

filled_put : {C : Type 0} (a : List (Act C)) (file number : ℕ) (page : C) (before : List (File C)) (last : File C) → files_by a ≡ before ++ last ∷ [] → is_lent_by a ≡ true → Filled a → Filled (Put file number page ∷ a)
filled_put {C} a file number page before last e was f =
    let one : one_for (is_lent_by a) ≡ 1 = rw was refl in
    let now' : files_by (Put file number page ∷ a) ≡ before ++ with_page page last ∷ [] = ap (λ (l : List (File C)). at_last (with_page page) l) e ∙ last_push (with_page page) before last in
    omega (arith, ap pages_in now' ∙ pages_last before (with_page page last), ap pages_in e ∙ pages_last before last, length_push last.pages page)

filled_step : {C : Type 0} (size : C → ℕ) (c : Config) (base : Base) (h : List (Event C)) (e : Event C) → May size (now c base h) e → ((j : ℕ) → FilledAt h j) → (j : ℕ) → FilledAt (e ∷ h) j
filled_step size c base h (OfJob k Granted) m f = filled_act h k Granted (λ g old. (let z : one_for (is_lent_by (acts_of h k)) ≡ 0 = rw (has_at c base h k _ m.0).is.0.2 refl in omega arith)) f
filled_step size c base h (OfJob k (Began name count)) m f = filled_act h k (Began name count) (λ g old. (let p = pages_push (files_by (acts_of h k)) name count in omega arith)) f
filled_step size c base h (OfJob k (Put file number page)) m f =
    let a = (has_at c base h k _ m.0).is in
    let o = a.2 in
    filled_act h k (Put file number page) (λ g old. filled_put (acts_of h k) file number page o.0 o.1 o.2 a.1 old) f
filled_step size c base h (OfJob k (FileEnded file whole)) m f = filled_act h k (FileEnded file whole) (λ g old. (let p = pages_ended (files_by (acts_of h k)) in omega arith)) f
filled_step size c base h (OfJob k (Controlled control whole)) m f = filled_act h k (Controlled control whole) (λ g old. old) f
filled_step size c base h (OfJob k Aborted) m f = filled_act h k Aborted (λ g old. absurd (clash (has_ended (OfJob k Aborted ∷ h) k) (ended_aborted h k) g)) f
filled_step size c base h e m f = λ j g. f j (ended_before h e j g)

filled : {C : Type 0} (size : C → ℕ) (c : Config) (base : Base) (h : List (Event C)) → IsLegal size c base h → (j : ℕ) → FilledAt h j
filled size c base [] l j = λ goes_on. refl
filled size c base (e ∷ h) l j = filled_step size c base h e l.0 (filled size c base h l.1) j

-- what a held job holds

pub record Apart {C : Type 0} (v : Job C) : Type 0 where
  pub sound : Sound v
  pub filled : v.ended ≡ false → pages_in v.files + one_for v.lent ≡ v.granted

pub pages_sum : {C : Type 0} (fs : List (File C)) → sum_by (λ (f : File C). length f.pages) fs ≡ pages_in fs
pages_sum [] = refl
pages_sum {C} (f ∷ fs) = let ih = pages_sum fs in let k = sum_by-cons (λ (g : File C). length g.pages) f fs in omega arith

apart_by : {C : Type 0} (v : Job C) (e r l : Bool) → v.ended ≡ e → is_received v ≡ r → v.lent ≡ l → Apart v → pages_held v ≡ chained_of v + (one_for v.lent + (v.handed - v.back))
apart_by v true r l ended received is_lent a = rw ended (omega arith)
apart_by v false true true ended received is_lent a = absurd (clash (is_received v) received (a.sound.lent is_lent))
apart_by v false true false ended received is_lent a = rw (ended, received, is_lent) (omega (arith, out_kept v a.sound))
apart_by v false false l ended received is_lent a = rw (ended, received) (omega (arith, a.sound.begun received, a.filled ended, pages_sum v.files))

pub apart : {C : Type 0} (size : C → ℕ) (c : Config) (base : Base) (h : List (Event C)) → IsLegal size c base h → (o : Opening) → Apart (job_of h o)
apart size c base h l o = record { sound = sound size c base h l o; filled = filled size c base h l o.job }

pub held_apart : {C : Type 0} (size : C → ℕ) (c : Config) (base : Base) (h : List (Event C)) → IsLegal size c base h → (v : Job C) → Has v (now c base h).jobs → pages_held v ≡ chained_of v + (one_for v.lent + (v.handed - v.back))
held_apart {C} size c base h l v has =
    let k = known c base h v has in
    apart_by v v.ended (is_received v) v.lent refl refl refl (subst (λ (u : Job C). Apart u) (sym k.is) (apart size c base h l k.opening))

-- the pages of all jobs that are at printers

abbrev outs : {C : Type 0} → List (Event C) → ℕ → ℕ
outs h j = handed_at h j - back_of h j

abbrev out_of : {C : Type 0} → List (Event C) → ℕ → ℕ
out_of h p = one_for (is_some (out_at h p))

out_if_held : {C : Type 0} (v : Job C) (b : Bool) → is_held v ≡ b → cond (is_held v) (v.handed - v.back) 0 ≡ v.handed - v.back
out_if_held v true e = rw e refl
out_if_held v false e = elim (test v.handed v.back) [
  | inl s ↦ (let same : v.handed ≡ v.back = s.0 in rw e (omega arith))
  | inr s ↦ absurd (clash false (sym (or_parts v.lent true (rw s.1 at (or_parts (not v.ended) (has_page_out v) e).1)).1) refl)
]

outs_unknown : {C : Type 0} (h : List (Event C)) (j : ℕ) → Unknown h j → outs h j ≡ 0
outs_unknown h j u = (let d = ap length u.handed in omega arith)

outs_of_jobs : {C : Type 0} (size : C → ℕ) (c : Config) (base : Base) (h : List (Event C)) → IsLegal size c base h → sum_by (λ (v : Job C). v.handed - v.back) (now c base h).jobs ≡ sum_by (outs h) (up_to (last base h))
outs_of_jobs {C} size c base h l =
    sum_filter (λ (v : Job C). v.handed - v.back) is_held (map (job_of h) (openings h))
    ∙ (sum_map (λ (v : Job C). cond (is_held v) (v.handed - v.back) 0) (job_of h) (openings h)
    ∙ (sum_same (λ (o : Opening). cond (is_held (job_of h o)) ((job_of h o).handed - (job_of h o).back) 0) (λ (o : Opening). outs h o.job) (openings h) (λ o. out_if_held (job_of h o) (is_held (job_of h o)) refl)
    ∙ numbers size c base h l (outs h) (λ j is. outs_unknown h j ((facts size c base h l).fresh j is))))

-- they are as many as the printers at which one is

abbrev Balanced : {C : Type 0} → Config → Base → List (Event C) → Type 0
Balanced c base h = sum_by (outs h) (up_to (last base h)) ≡ sum_by (out_of h) (up_to (printer_count c))

balanced_opened : {C : Type 0} (c : Config) (base : Base) (h : List (Event C)) (k s q : ℕ) → Facts base h → Balanced c base h → Balanced c base (Opened k s q ∷ h)
balanced_opened c base h k s q f b = sum_opened base h k s q (outs h) (outs_unknown h (suc (last base h)) (f.fresh (suc (last base h)) (inr (omega arith)))) ∙ b

out_other : {C : Type 0} (h : List (Event C)) (p : ℕ) (sheet : Sheet C) (turn : Turn) (q : ℕ) → q ≢ p → out_of (AtPrinter p sheet turn ∷ h) q ≡ out_of h q
out_other {C} h p sheet turn q ne = ap (λ (o : Option (Sheet C)). one_for (is_some o)) (out_there h p sheet turn q (λ e. ne (sym e)))

handed_out : {C : Type 0} (h : List (Event C)) (p : ℕ) (sheet : Sheet C) → out_at (AtPrinter p sheet Handed ∷ h) p ≡ Some sheet
handed_out h p sheet = elim (test p p) [ inl s ↦ rw s.1 refl | inr s ↦ absurd (s.0 refl) ]

balanced_handed : {C : Type 0} (c : Config) (base : Base) (h : List (Event C)) (p : ℕ) (sheet : Sheet C) → Facts base h → 1 ≤ p → p ≤ printer_count c → Turn' h p sheet → Balanced c base h → Balanced c base (AtPrinter p sheet Handed ∷ h)
balanced_handed {C} c base h p sheet f one le t b =
    let e : Event C = AtPrinter p sheet Handed in
    let o : Opening = record { job = sheet.job; sender = t.at.sender; queue = t.at.queue } in
    let number = f.numbers o t.at.there in
    let n = count_one h p sheet sheet.job refl in
    let d = back_same h p sheet sheet.job in
    let jobs = up_once (outs h) (outs (e ∷ h)) sheet.job (last base h) (omega arith) number.1 (λ j ne. omega (arith, count_more h p sheet j (λ s. ne (sym s)), back_same h p sheet j)) (omega arith) in
    let was : out_of h p ≡ 0 = ap (λ (x : Option (Sheet C)). one_for (is_some x)) t.idle in
    let is : out_of (e ∷ h) p ≡ 1 = ap (λ (x : Option (Sheet C)). one_for (is_some x)) (handed_out h p sheet) in
    omega (arith, up_once (out_of h) (out_of (e ∷ h)) p (printer_count c) one le (λ q ne. out_other h p sheet Handed q ne) (omega arith))

balanced_back : {C : Type 0} (c : Config) (base : Base) (h : List (Event C)) (p : ℕ) (sheet : Sheet C) (turn : Turn) → is_handed turn ≡ false → Facts base h → 1 ≤ p → p ≤ printer_count c → out_at h p ≡ Some sheet → Balanced c base h → Balanced c base (AtPrinter p sheet turn ∷ h)
balanced_back {C} c base h p sheet turn back f one le out b =
    let e : Event C = AtPrinter p sheet turn in
    let x = (f.out p sheet out).1 in
    let number = handed_number h sheet.job f (omega arith) in
    let n = ap length (handed_same h p sheet turn sheet.job back) in
    let d = back_one h p sheet turn sheet.job back refl in
    let jobs = up_once (outs (e ∷ h)) (outs h) sheet.job (last base h) (omega arith) number.1
    (λ j ne. omega (arith, ap length (handed_same h p sheet turn j back), back_more h p sheet turn j (λ s. ne (sym s)))) (omega arith) in
    let was : out_of h p ≡ 1 = ap (λ (x : Option (Sheet C)). one_for (is_some x)) out in
    let is : out_of (e ∷ h) p ≡ 0 = ap (λ (x : Option (Sheet C)). one_for (is_some x)) (out_here h p sheet turn p back refl) in
    omega (arith, up_once (out_of (e ∷ h)) (out_of h) p (printer_count c) one le (λ q ne. sym (out_other h p sheet turn q ne)) (omega arith))

balanced : {C : Type 0} (size : C → ℕ) (c : Config) (base : Base) (h : List (Event C)) → IsLegal size c base h → Balanced c base h
balanced {C} size c base [] l = up_none (outs (no_events C)) (last base (no_events C)) (λ j. refl) ∙ sym (up_none (out_of (no_events C)) (printer_count c) (λ p. refl))
balanced size c base (Opened k s q ∷ h) l = balanced_opened c base h k s q (facts size c base h l.1) (balanced size c base h l.1)
balanced size c base (AtPrinter p sheet Handed ∷ h) l =
    balanced_handed c base h p sheet (facts size c base h l.1) l.0.0.0 l.0.0.1 (turn_of_page c base h p sheet l.0.0.0 l.0.0.1 l.0.1) (balanced size c base h l.1)
balanced size c base (AtPrinter p sheet (Printed x) ∷ h) l = balanced_back c base h p sheet (Printed x) refl (facts size c base h l.1) l.0.0.0 l.0.0.1 (is_out c base h p sheet l.0.0 l.0.1.0) (balanced size c base h l.1)
balanced size c base (AtPrinter p sheet Failed ∷ h) l = balanced_back c base h p sheet Failed refl (facts size c base h l.1) l.0.0.0 l.0.0.1 (is_out c base h p sheet l.0.0 l.0.1) (balanced size c base h l.1)
balanced size c base (_ ∷ h) l = balanced size c base h l.1

pub each_has_a_place : {C : Type 0} (size : C → ℕ) (c : Config) (base : Base) (h : List (Event C)) → IsLegal size c base h
    → chained (now c base h) + lent (now c base h) + at_printers (now c base h) + free_pages (now c base h) ≡ c.pages
each_has_a_place {C} size c base h l =
    let jobs = (now c base h).jobs in
    let parts = sum_parts (λ (v : Job C). pages_held v) (λ (v : Job C). chained_of v) (λ (v : Job C). one_for v.lent) (λ (v : Job C). v.handed - v.back) jobs (held_apart size c base h l) in
    let printers : at_printers (now c base h) ≡ sum_by (out_of h) (up_to (printer_count c)) = sum_map (λ (p : Printer C). one_for (is_some p.out)) (printer_of c base h) (up_to (printer_count c)) in
    omega (arith, outs_of_jobs size c base h l, balanced size c base h l, (pages_add_up size c base h l).all)
