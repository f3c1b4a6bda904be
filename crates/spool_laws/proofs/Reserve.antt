-- The entries of a history are within the reserves of its accepted jobs, and one.
use Rattle.std.proofs.Common.{inl, inr, ◌≡◌, ◌==◌, ◌≢◌, ℕ, ◌+◌, ◌<◌, ◌≤◌, Bool, true, false, List, [], ◌∷◌, length, refl, sym, ◌∙◌, ap, arith}
use Rattle.std.specs.Prelude.{◌&&◌, cond, sum_by}
use Rattle.std.specs.List.{list_any, AllByRecursion}
use Rattle.std.proofs.lemmas.List.Sums.{sum_by_push}
use Rattle.spool_history.specs.Base.{Base, was_stopped}
use Rattle.spool_history.specs.Events.{Act, Event, Sheet, Turn}
use Rattle.spool_history.specs.Events.Turn.{Handed, Printed, Failed}
use Rattle.spool_history.specs.Events.Event.{Opened, OfJob, AtPrinter, Removed, Started, Closed}
use Rattle.config_values.specs.Config.{Config, printer_count, queue_of, reserve_of}
use Rattle.spool_history.specs.Said.{Opening, openings, is_failed, is_stopped_at, is_closed}
use Rattle.spool_history.specs.Now.{Job, Printer, now, up_to}
use Rattle.spool_history.specs.Legal.{HasJob, IsLegal, May}
use Rattle.spool_laws.specs.Reserve.{CountsStops}
use Rattle.spool_laws.proofs.Known.{Has, At, has_at, test}
use Rattle.spool_laws.proofs.Printers.{at_printer}
use Rattle.spool_laws.proofs.Facts.{facts, is_out, turn_of_page, handed_at, handed_more, handed_same, count_one, acts_here, acts_other, back_same, back_more, back_one}
use Rattle.spool_laws.proofs.Counts.{one_if, one_le}
use Rattle.spool_laws.proofs.Adding.{sum_less, sum_more, sum_same, up_less, up_one, has_left, has_up_to}
use Rattle.spool_laws.proofs.Told.{failed_of, used, failed_one, reserved}
use Rattle.std.proofs.lemmas.Bool.{cases_Bool}

-- a job of which a page was handed was accepted

abbrev pub Accepted : {C : Type 0} → List (Event C) → ℕ → Type 0
Accepted h j = (o : Opening) × Has o (openings h) × (o.job ≡ j)

accepted_step : {C : Type 0} (size : C → ℕ) (c : Config) (base : Base) (h : List (Event C)) (e : Event C) → IsLegal size c base h → May size (now c base h) e → ((j : ℕ) → 0 < handed_at h j → Accepted h j) → (j : ℕ) → 0 < handed_at (e ∷ h) j → Accepted (e ∷ h) j
accepted_step size c base h (Opened k s q) l m a j pos =
    let o = a j pos in
    (o.0, has_left o.0 (openings h) (record { job = k; sender = s; queue = q } ∷ []) o.1, o.2)
accepted_step size c base h (AtPrinter p sheet Handed) l m a j pos = elim (test sheet.job j) [
  | inl s ↦ (let t = (turn_of_page c base h p sheet m.0.0 m.0.1 m.1).at in (record { job = sheet.job; sender = t.sender; queue = t.queue }, t.there, s.0))
  | inr s ↦ a j (let n = ap length (handed_more h p sheet j s.0) in omega arith)
]
accepted_step size c base h (AtPrinter p sheet turn) l m a j pos = a j (let n = ap length (handed_same h p sheet turn j refl) in omega arith)
accepted_step size c base h _ l m a j pos = a j pos

pub accepted : {C : Type 0} (size : C → ℕ) (c : Config) (base : Base) (h : List (Event C)) → IsLegal size c base h → (j : ℕ) → 0 < handed_at h j → Accepted h j
accepted size c base [] l j pos = absurd (omega arith)
accepted size c base (e ∷ h) l j pos = accepted_step size c base h e l.1 l.0 (accepted size c base h l.1) j pos

-- what is told of one job more

more_act : {C : Type 0} (h : List (Event C)) (k : ℕ) (act : Act C) (j : ℕ) → used h j ≤ used (OfJob k act ∷ h) j
more_act h k act j = elim (test k j) [ inl s ↦ rw s.1 (omega arith) | inr s ↦ omega (arith, ap length (acts_other h k act j s.0)) ]

one_act : {C : Type 0} (h : List (Event C)) (k : ℕ) (act : Act C) → used h k + 1 ≤ used (OfJob k act ∷ h) k
one_act h k act = omega (arith, ap length (acts_here h k act))

failed_less : {C : Type 0} (h : List (Event C)) (p : ℕ) (sheet : Sheet C) (turn : Turn) (j : ℕ) → failed_of h j ≤ failed_of (AtPrinter p sheet turn ∷ h) j
failed_less h p sheet turn j = elim (cases_Bool ((sheet.job == j) && is_failed turn)) [ inl e ↦ rw e (omega arith) | inr e ↦ rw e (omega arith) ]

-- a turn of a printer tells no less of any job, and one thing more of its own
turn_used : {C : Type 0} (h : List (Event C)) (p : ℕ) (sheet : Sheet C) (turn : Turn) (j : ℕ)
    → (used h j ≤ used (AtPrinter p sheet turn ∷ h) j) × (sheet.job ≡ j → used h j + 1 ≤ used (AtPrinter p sheet turn ∷ h) j)
turn_used h p sheet Handed j =
    let b = back_same h p sheet j in
    let f = failed_less h p sheet Handed j in
    elim (test sheet.job j) [
      | inl s ↦ let n = count_one h p sheet j s.0 in (omega arith, λ e. omega arith)
      | inr s ↦ let n = ap length (handed_more h p sheet j s.0) in (omega arith, λ e. absurd (s.0 e))
    ]
turn_used h p sheet turn j =
    let n = ap length (handed_same h p sheet turn j refl) in
    let f = failed_less h p sheet turn j in
    elim (test sheet.job j) [
      | inl s ↦ let b = back_one h p sheet turn j refl s.0 in (omega arith, λ e. omega arith)
      | inr s ↦ let b = back_more h p sheet turn j s.0 in (omega arith, λ e. absurd (s.0 e))
    ]

two_failed : {C : Type 0} (h : List (Event C)) (p : ℕ) (sheet : Sheet C) (j : ℕ) → sheet.job ≡ j → used h j + 2 ≤ used (AtPrinter p sheet Failed ∷ h) j
two_failed h p sheet j e = omega (arith, ap length (handed_same h p sheet Failed j refl), failed_one h p sheet j e, back_one h p sheet Failed j refl e)

more_removed : {C : Type 0} (h : List (Event C)) (q : ℕ) (jobs : List ℕ) (j : ℕ) (b : Bool) → list_any (λ (k : ℕ). k == j) jobs ≡ b → used h j + one_if b ≤ used (Removed q jobs ∷ h) j
more_removed h q jobs j true e = rw e (omega arith)
more_removed h q jobs j false e = rw e (omega arith)

any_first : (k j : ℕ) (ks : List ℕ) → k ≡ j → list_any (λ (i : ℕ). i == j) (k ∷ ks) ≡ true
any_first k j ks e = elim (test k j) [ inl s ↦ rw s.1 refl | inr s ↦ absurd (s.0 e) ]

-- how many printers are stopped

abbrev pub stop : {C : Type 0} → Config → Base → List (Event C) → ℕ → ℕ
stop c base h p = one_if (is_stopped_at base h (queue_of c p) p)

abbrev pub stops : {C : Type 0} → Config → Base → List (Event C) → ℕ
stops c base h = sum_by (stop c base h) (up_to (printer_count c))

abbrev pub used_by : {C : Type 0} → List (Event C) → Opening → ℕ
used_by h o = used h o.job

abbrev pub all_used : {C : Type 0} → List (Event C) → List Opening → ℕ
all_used h os = sum_by (used_by h) os

stop_same : {C : Type 0} (c : Config) (base : Base) (h : List (Event C)) (r : ℕ) (sheet : Sheet C) (turn : Turn) (p : ℕ) → is_failed turn ≡ false → stop c base (AtPrinter r sheet turn ∷ h) p ≤ stop c base h p
stop_same c base h r sheet turn p e = elim (test r p) [ inl s ↦ rw (s.1, e) (omega arith) | inr s ↦ rw s.1 (omega arith) ]

stop_other : {C : Type 0} (c : Config) (base : Base) (h : List (Event C)) (r : ℕ) (sheet : Sheet C) (turn : Turn) (p : ℕ) → p ≢ r → stop c base (AtPrinter r sheet turn ∷ h) p ≤ stop c base h p
stop_other c base h r sheet turn p ne = elim (test r p) [ inl s ↦ absurd (ne (sym s.0)) | inr s ↦ rw s.1 (omega arith) ]

stop_started : {C : Type 0} (c : Config) (base : Base) (h : List (Event C)) (q p : ℕ) → stop c base (Started q ∷ h) p ≤ stop c base h p
stop_started c base h q p = elim (test q (queue_of c p)) [ inl s ↦ rw s.1 (omega arith) | inr s ↦ rw s.1 (omega arith) ]

starts_one : {C : Type 0} (c : Config) (base : Base) (h : List (Event C)) (q p : ℕ) → queue_of c p ≡ q → is_stopped_at base h (queue_of c p) p ≡ true → stop c base (Started q ∷ h) p + 1 ≤ stop c base h p
starts_one c base h q p e is = elim (test q (queue_of c p)) [ inl s ↦ rw (s.1, is) (omega arith) | inr s ↦ absurd (s.0 (sym e)) ]

-- so many entries and the stopped printers are among what is told of the jobs, the close, and so many more
abbrev pub Told' : {C : Type 0} → ℕ → ℕ → Config → Base → List (Event C) → Type 0
Told' len w c base h = len + stops c base h ≤ w + all_used h (openings h) + one_if (is_closed base h)

act_told : {C : Type 0} (len w : ℕ) (c : Config) (base : Base) (h : List (Event C)) (k : ℕ) (act : Act C) (P : Job C → Type 0) → At h k P → Told' len w c base h → Told' (len + 1) w c base (OfJob k act ∷ h)
act_told len w c base h k act P a t =
    omega (arith, sum_more (used_by h) (used_by (OfJob k act ∷ h)) 1 (record { job = k; sender = a.sender; queue = a.queue }) (openings h) a.there (λ o. more_act h k act o.job) (one_act h k act))

opened_told : {C : Type 0} (len w : ℕ) (c : Config) (base : Base) (h : List (Event C)) (k s q : ℕ) → Told' len w c base h → Told' (len + 1) w c base (Opened k s q ∷ h)
opened_told {C} len w c base h k s q t =
    let e : Event C = Opened k s q in
    let x : Opening = record { job = k; sender = s; queue = q } in
    omega (arith, sum_by_push (used_by (e ∷ h)) (openings h) x, sum_less (used_by h) (used_by (e ∷ h)) (openings h) (λ o has. omega arith))

turn_told : {C : Type 0} (len w : ℕ) (c : Config) (base : Base) (h : List (Event C)) (p : ℕ) (sheet : Sheet C) (turn : Turn) (o : Opening) → Has o (openings h) → sheet.job ≡ o.job → is_failed turn ≡ false
    → Told' len w c base h → Told' (len + 1) w c base (AtPrinter p sheet turn ∷ h)
turn_told len w c base h p sheet turn o has same is t =
    let s = sum_more (used_by h) (used_by (AtPrinter p sheet turn ∷ h)) 1 o (openings h) has (λ x. (turn_used h p sheet turn x.job).0) ((turn_used h p sheet turn o.job).1 same) in
    omega (arith, up_less (stop c base h) (stop c base (AtPrinter p sheet turn ∷ h)) (printer_count c) (λ q. stop_same c base h p sheet turn q is))

failed_told : {C : Type 0} (len w : ℕ) (c : Config) (base : Base) (h : List (Event C)) (p : ℕ) (sheet : Sheet C) (o : Opening) → Has o (openings h) → sheet.job ≡ o.job → Told' len w c base h → Told' (len + 1) w c base (AtPrinter p sheet Failed ∷ h)
failed_told len w c base h p sheet o has same t =
    let s = sum_more (used_by h) (used_by (AtPrinter p sheet Failed ∷ h)) 2 o (openings h) has (λ x. (turn_used h p sheet Failed x.job).0) (two_failed h p sheet o.job same) in
    let one = one_le (is_stopped_at base (AtPrinter p sheet Failed ∷ h) (queue_of c p) p) in
    omega (arith, up_one (stop c base h) (stop c base (AtPrinter p sheet Failed ∷ h)) p (printer_count c) (λ q ne. stop_other c base h p sheet Failed q ne) (omega arith))

removed_told : {C : Type 0} (len w : ℕ) (c : Config) (base : Base) (h : List (Event C)) (P : Job C → Type 0) (q : ℕ) (jobs : List ℕ) → 0 < length jobs → AllByRecursion (λ k. HasJob (now c base h).jobs k P) jobs → Told' len w c base h → Told' (len + 1) w c base (Removed q jobs ∷ h)
removed_told len w c base h P q [] pos all t = absurd (omega arith)
removed_told {C} len w c base h P q (k ∷ ks) pos all t =
    let a = has_at c base h k P all.0 in
    let le : (o : Opening) → used h o.job ≤ used (Removed q (k ∷ ks) ∷ h) o.job = λ o. (let m = more_removed h q (k ∷ ks) o.job (list_any (λ (i : ℕ). i == o.job) (k ∷ ks)) refl in omega arith) in
    let one : used h k + 1 ≤ used (Removed q (k ∷ ks) ∷ h) k = more_removed h q (k ∷ ks) k true (any_first k k ks refl) in
    omega (arith, sum_more (used_by h) (used_by (Removed q (k ∷ ks) ∷ h)) 1 (record { job = k; sender = a.sender; queue = a.queue }) (openings h) a.there le one)

started_told : {C : Type 0} (len w : ℕ) (c : Config) (base : Base) (h : List (Event C)) (q p : ℕ) → 1 ≤ p → p ≤ printer_count c → queue_of c p ≡ q → is_stopped_at base h (queue_of c p) p ≡ true → Told' len w c base h → Told' (len + 1) w c base (Started q ∷ h)
started_told len w c base h q p one le e is t =
    let s = sum_more (stop c base (Started q ∷ h)) (stop c base h) 1 p (up_to (printer_count c)) (has_up_to p (printer_count c) one le) (λ r. stop_started c base h q r) (starts_one c base h q p e is) in
    omega (arith, sum_less (used_by h) (used_by (Started q ∷ h)) (openings h) (λ o has. omega arith))

closed_told : {C : Type 0} (len w : ℕ) (c : Config) (base : Base) (h : List (Event C)) → is_closed base h ≡ false → Told' len w c base h → Told' (len + 1) w c base (Closed ∷ h)
closed_told len w c base h e t =
    let z : one_if (is_closed base h) ≡ 0 = ap one_if e in
    omega (arith, sum_less (used_by h) (used_by (Closed ∷ h)) (openings h) (λ o has. omega arith))

abbrev pub no_events : (C : Type 0) → List (Event C)
no_events C = []

pub told_step : {C : Type 0} (len w : ℕ) (size : C → ℕ) (c : Config) (base : Base) (h : List (Event C)) (e : Event C) → IsLegal size c base h → May size (now c base h) e → Told' len w c base h → Told' (len + 1) w c base (e ∷ h)
told_step len w size c base h (Opened k s q) l m t = opened_told len w c base h k s q t
told_step len w size c base h (OfJob k act) l m t = act_told len w c base h k act _ (has_at c base h k _ m.0) t
told_step len w size c base h (AtPrinter p sheet Handed) l m t =
    let a = (turn_of_page c base h p sheet m.0.0 m.0.1 m.1).at in
    turn_told len w c base h p sheet Handed (record { job = sheet.job; sender = a.sender; queue = a.queue }) a.there refl refl t
told_step len w size c base h (AtPrinter p sheet (Printed x)) l m t =
    let n = ((facts size c base h l).out p sheet (is_out c base h p sheet m.0 m.1.0)).1 in
    let o = accepted size c base h l sheet.job (omega arith) in
    turn_told len w c base h p sheet (Printed x) o.0 o.1 (sym o.2) refl t
told_step len w size c base h (AtPrinter p sheet Failed) l m t =
    let n = ((facts size c base h l).out p sheet (is_out c base h p sheet m.0 m.1)).1 in
    let o = accepted size c base h l sheet.job (omega arith) in
    failed_told len w c base h p sheet o.0 o.1 (sym o.2) t
told_step len w size c base h (Removed q jobs) l m t = removed_told len w c base h _ q jobs m.2 m.4 t
told_step {C} len w size c base h (Started q) l m t =
    let here = at_printer c base h m.2 m.3.0 m.3.1 in
    started_told len w c base h q m.2 m.3.0 m.3.1 (sym (ap (λ (x : Printer C). x.queue) here) ∙ m.4.0) (sym (ap (λ (x : Printer C). x.stopped) here) ∙ m.4.1) t
told_step len w size c base h Closed l m t = closed_told len w c base h m t

told_of : {C : Type 0} (size : C → ℕ) (c : Config) (base : Base) (h : List (Event C)) → CountsStops c base → IsLegal size c base h → Told' (length h) base.reserved c base h
told_of {C} size c base [] k l = (let z = sum_same (stop c base (no_events C)) (λ (p : ℕ). cond (was_stopped base p) 1 0) (up_to (printer_count c)) (λ p. one_is (was_stopped base p)) in omega arith)
  where
    one_is : (b : Bool) → one_if b ≡ cond b 1 0
    one_is true = refl
    one_is false = refl
told_of size c base (e ∷ h) k l = (let t = told_step (length h) base.reserved size c base h e l.1 l.0 (told_of size c base h k l.1) in omega arith)

pub reserve_is_enough : {C : Type 0} (size : C → ℕ) (c : Config) (base : Base) (h : List (Event C)) → CountsStops c base → IsLegal size c base h → length h ≤ (now c base h).reserved + 1
reserve_is_enough size c base h k l =
    omega (arith, told_of size c base h k l, sum_less (used_by h) (λ (o : Opening). reserve_of c o.queue) (openings h) (λ o has. reserved size c base h l o has), one_le (is_closed base h))
