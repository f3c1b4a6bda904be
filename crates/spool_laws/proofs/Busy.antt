-- Each held job that was begun has a printer of its queue, and no other job has that one.
use Rattle.std.proofs.Common.{◌⊎◌, inl, inr, ◌≡◌, ◌==◌, ◌≢◌, ℕ, ◌+◌, ◌<◌, Bool, true, false, List, [], ◌∷◌, length, map, refl, sym, ◌∙◌, ap, subst, arith}
use Rattle.std.specs.Prelude.{◌&&◌, ◌||◌, not, find, Option, Some, None, is_some}
use Rattle.std.proofs.lemmas.Bool.Decides.{nat_tests}
use Rattle.std.proofs.lemmas.Bool.{and_parts, true_from_ne_false, not-false}
use Rattle.spool_history.specs.Base.{Base}
use Rattle.spool_history.specs.Events.{Event, Sheet}
use Rattle.spool_history.specs.Events.Turn.{Handed}
use Rattle.spool_history.specs.Events.Event.{Opened, AtPrinter}
use Rattle.config_values.specs.Config.{IsPrinter, Config, queue_of}
use Rattle.spool_history.specs.Acts.{is_lent_by, control_by, Page}
use Rattle.spool_history.specs.Said.{Opening, openings, acts_of, back_of, has_ended, began_at}
use Rattle.spool_history.specs.Now.{Job, Printer, now, job_of, is_held}
use Rattle.spool_history.specs.Next.{next_page, next_at, with_out, hand_of, hand_first, turn_of, or_first, printer_at}
use Rattle.spool_history.specs.Next.Next.{Hands, Stops, Over}
use Rattle.spool_history.specs.Legal.{IsLegal, May}
use Rattle.spool_laws.proofs.Known.{Has, find_has, has_last, has_kept, known, test, clash, and_false}
use Rattle.spool_laws.proofs.Printers.{at_printer}
use Rattle.spool_laws.proofs.Turns.{given, past, idle_by}
use Rattle.spool_laws.proofs.Facts.{Facts, facts, last, began_same, turn_of_page, handed_at, received_at, handed_more, handed_same}
use Rattle.spool_laws.proofs.Moves.{steady}
use Rattle.spool_laws.proofs.Held.{Keeps, keeps}
use Rattle.spool_laws.proofs.Pigeons.{Rises, rises_push, rises_filter, rises_map}

-- a job to which a page is lent isn't received
pub lent_unreceived : {C : Type 0} (h : List (Event C)) (j : ℕ) → Keeps (acts_of h j) → is_lent_by (acts_of h j) ≡ true → received_at h j ≡ false
lent_unreceived h j k e = rw (k.lent e) (and_false (is_some (control_by (acts_of h j))))

pub record Busy {C : Type 0} (c : Config) (base : Base) (h : List (Event C)) (o : Opening) : Type 0 where
  pub at : ℕ
  pub is : IsPrinter c at
  pub began : began_at h at ≡ Some o.job
  pub queue : queue_of c at ≡ o.queue

abbrev pub AreBusy : {C : Type 0} → Config → Base → List (Event C) → Type 0
AreBusy c base h = (o : Opening) → Has o (openings h) → is_held (job_of h o) ≡ true → 0 < handed_at h o.job → Busy c base h o

held_by : {C : Type 0} (v w : Job C) → (is_held v ≡ false → is_held w ≡ false) → is_held w ≡ true → is_held v ≡ true
held_by v w st held = true_from_ne_false (is_held v) (λ gone. clash (is_held w) held (st gone))

abbrev Steady : {C : Type 0} → List (Event C) → Event C → Type 0
Steady h e = (o : Opening) → is_held (job_of h o) ≡ false → is_held (job_of (e ∷ h) o) ≡ false

busy_opened : {C : Type 0} (c : Config) (base : Base) (h : List (Event C)) (j s q : ℕ) → Facts base h → j ≡ last base h + 1 → Steady h (Opened j s q) → AreBusy c base h → AreBusy c base (Opened j s q ∷ h)
busy_opened {C} c base h j s q f new st b o has held pos = elim (has_last o (openings h) (record { job = j; sender = s; queue = q }) has) [
  | inl t ↦
      let x = b o t (held_by (job_of h o) (job_of (Opened j s q ∷ h) o) (st o) held) pos in
      record { at = x.at; is = x.is; began = x.began; queue = x.queue }
  | inr e ↦
      let m : j ≡ o.job = ap (λ (y : Opening). y.job) e in
      let z : handed_at h o.job ≡ 0 = ap length (f.fresh o.job (inr (omega arith))).handed in
      absurd (omega arith)
]

-- a printer goes on with the job that it began while that one goes on

none_found_by : {X : Type 0} (t : X → Bool) (x y : X) (ys : List X) (b : Bool) → t y ≡ b → find t (y ∷ ys) ≡ None → (y ≡ x) ⊎ Has x ys → (find t ys ≡ None → Has x ys → t x ≡ false) → t x ≡ false
none_found_by {X} t x y ys true is e has ih = (let z : ◌≡◌ {A = Option X} (Some y) None = rw is at e in absurd cc)
none_found_by {X} t x y ys false is e has ih = (let z : find t ys ≡ None = rw is at e in elim has [ inl s ↦ subst (λ (v : X). t v ≡ false) s is | inr h ↦ ih z h ])

none_found : {X : Type 0} (t : X → Bool) (x : X) (ys : List X) → find t ys ≡ None → Has x ys → t x ≡ false
none_found t x [] e has = absurd has
none_found t x (y ∷ ys) e has = none_found_by t x y ys (t y) refl e has (none_found t x ys)

first_is : {C : Type 0} (j place : ℕ) (xs : List (Page C)) (sheet : Sheet C) → hand_first j place xs ≡ Hands sheet → j ≡ sheet.job
first_is j place [] sheet e = absurd cc
first_is {C} j place (x ∷ xs) sheet e = (let s : record { job = j; place = place; file = x.file; number = x.number; page = x.page } ≡ sheet = cc in ap (λ (y : Sheet C). y.job) s)

ended_by : {C : Type 0} (jobs : List (Job C)) (q j : ℕ) (x : Job C) (sheet : Sheet C) (r : Option (Job C)) → find (λ (v : Job C). (v.number == j) && not v.ended) jobs ≡ r → hand_of (or_first jobs q r) ≡ Hands sheet → sheet.job ≢ j → Has x jobs → x.number ≡ j → x.ended ≡ true
ended_by {C} jobs q j x sheet None e h ne has n =
    let a : (x.number == j) ≡ true = grind (arith, nat_tests) in
    not-false x.ended (rw a at (none_found (λ (v : Job C). (v.number == j) && not v.ended) x jobs e has))
ended_by {C} jobs q j x sheet (Some v) e h ne has n =
    let a = (and_parts (v.number == j) (not v.ended) (find_has (λ (v : Job C). (v.number == j) && not v.ended) v jobs e).1).0 in
    let m : v.number ≡ j = grind (arith, nat_tests) in
    absurd (ne (sym (first_is v.number v.handed _ sheet h) ∙ m))

hands_by : {C : Type 0} (c : Config) (base : Base) (h : List (Event C)) (p : ℕ) (sheet : Sheet C) → next_page (now c base h) p ≡ Hands sheet → hand_of (turn_of (now c base h).jobs (printer_at (now c base h) p).queue (printer_at (now c base h) p).began) ≡ Hands sheet
hands_by c base h p sheet e =
    let v = now c base h in
    let x = printer_at v p in
    (idle_by v.jobs x x.out sheet (past x.stopped Stops (with_out v.jobs x x.out) sheet (λ d. cc) (past v.closed Over (next_at v.jobs x) sheet (λ d. cc) e).1).1).1

gone_or_out : (e l : Bool) (a b : ℕ) → e ≡ true → l ≡ false → a ≡ b → (not e || (l || not (a == b))) ≡ true → ⊥
gone_or_out e l a b e1 l1 ab held =
    let same : (a == b) ≡ true = grind (arith, nat_tests) in
    let z : false ≡ true = rw (e1, l1, same) at held in
    clash false z refl

pub unlent_by : (b r : Bool) → (b ≡ true → r ≡ false) → r ≡ true → b ≡ false
unlent_by true r f e = absurd (clash r e (f refl))
unlent_by false r f e = refl

pub received_if : {C : Type 0} {base : Base} (h : List (Event C)) (j : ℕ) → Facts base h → 0 < handed_at h j → received_at h j ≡ true
received_if h j f pos = true_from_ne_false (received_at h j) (λ e. omega (arith, f.begun j e))

pub unlent : {C : Type 0} (h : List (Event C)) (j : ℕ) → Keeps (acts_of h j) → received_at h j ≡ true → is_lent_by (acts_of h j) ≡ false
unlent h j k r = unlent_by (is_lent_by (acts_of h j)) (received_at h j) (lent_unreceived h j k) r

-- so it gets a page of no other
no_other : {C : Type 0} (c : Config) (base : Base) (h : List (Event C)) (p : ℕ) (sheet : Sheet C) (o : Opening) → Facts base h → Keeps (acts_of h o.job) → IsPrinter c p → next_page (now c base h) p ≡ Hands sheet → began_at h p ≡ Some o.job → Has o (openings h) → is_held (job_of h o) ≡ true → sheet.job ≢ o.job → ⊥
no_other {C} c base h p sheet o f k is e began has held ne =
    let b : (printer_at (now c base h) p).began ≡ Some o.job = ap (λ (x : Printer C). x.began) (at_printer c base h p is.0 is.1) ∙ began in
    let hands = subst (λ (r : Option ℕ). hand_of (turn_of (now c base h).jobs (printer_at (now c base h) p).queue r) ≡ Hands sheet) b (hands_by c base h p sheet e) in
    let ended : has_ended h o.job ≡ true = ended_by (now c base h).jobs (printer_at (now c base h) p).queue o.job (job_of h o) sheet _ refl hands ne (has_kept h o (openings h) held has) refl in
    let back = f.idle p o.job (turn_of_page c base h p sheet is.0 is.1 e).idle began in
    gone_or_out (has_ended h o.job) (is_lent_by (acts_of h o.job)) (handed_at h o.job) (back_of h o.job) ended (unlent h o.job k (received_if h o.job f (f.began p o.job began))) back held

began_still : {C : Type 0} (h : List (Event C)) (p : ℕ) (sheet : Sheet C) (q j : ℕ) → (p ≡ q → sheet.job ≡ j) → began_at h q ≡ Some j → began_at (AtPrinter p sheet Handed ∷ h) q ≡ Some j
began_still h p sheet q j same b = elim (test p q) [
  | inl s ↦ rw s.1 (ap (λ (i : ℕ). Some i) (same s.0))
  | inr s ↦ rw s.1 b
]

began_here : {C : Type 0} (h : List (Event C)) (p : ℕ) (sheet : Sheet C) (j : ℕ) → sheet.job ≡ j → began_at (AtPrinter p sheet Handed ∷ h) p ≡ Some j
began_here h p sheet j e = elim (test p p) [ inl s ↦ rw s.1 (ap (λ (i : ℕ). Some i) e) | inr s ↦ absurd (s.0 refl) ]

busy_handed : {C : Type 0} (c : Config) (base : Base) (h : List (Event C)) (p : ℕ) (sheet : Sheet C) → Facts base h → ((j : ℕ) → Keeps (acts_of h j)) → IsPrinter c p → next_page (now c base h) p ≡ Hands sheet → Steady h (AtPrinter p sheet Handed) → AreBusy c base h → AreBusy c base (AtPrinter p sheet Handed ∷ h)
busy_handed {C} c base h p sheet f k is e st b o has held' pos =
    let held = held_by (job_of h o) (job_of (AtPrinter p sheet Handed ∷ h) o) (st o) held' in
    elim (test sheet.job o.job) [
      | inl s ↦
          let g = (given (now c base h) p sheet e).1 in
          let here = at_printer c base h p is.0 is.1 in
          let n : g.job.number ≡ sheet.job = sym (ap (λ (s : Sheet C). s.job) g.gets.is) in
          elim g.turn.why [
            | inl w ↦
                let began : began_at h p ≡ Some o.job = sym (ap (λ (x : Printer C). x.began) here) ∙ (w ∙ ap (λ (i : ℕ). Some i) (n ∙ s.0)) in
                let x = b o has held (f.began p o.job began) in
                record { at = x.at; is = x.is; began = began_still h p sheet x.at o.job (λ _. s.0) x.began; queue = x.queue }
            | inr w ↦
                let a = known c base h g.job g.turn.there in
                let num : a.opening.job ≡ o.job = sym (ap (λ (v : Job C). v.number) a.is) ∙ (n ∙ s.0) in
                let same : a.opening ≡ o = f.once a.opening o a.there has num in
                let q : g.job.queue ≡ o.queue = ap (λ (v : Job C). v.queue) a.is ∙ ap (λ (y : Opening). y.queue) same in
                record { at = p; is = is; began = began_here h p sheet o.job s.0; queue = sym (ap (λ (x : Printer C). x.queue) here) ∙ (sym w.queue ∙ q) }
          ]
      | inr s ↦
          let m = ap length (handed_more h p sheet o.job s.0) in
          let x = b o has held (omega arith) in
          let other : p ≡ x.at → sheet.job ≡ o.job = λ same. absurd (no_other c base h p sheet o f (k o.job) is e (subst (λ (i : ℕ). began_at h i ≡ Some o.job) (sym same) x.began) has held s.0) in
          record { at = x.at; is = x.is; began = began_still h p sheet x.at o.job other x.began; queue = x.queue }
    ]

busy_same : {C : Type 0} (c : Config) (base : Base) (h : List (Event C)) (e : Event C) → openings (e ∷ h) ≡ openings h → ((j : ℕ) → handed_at (e ∷ h) j ≡ handed_at h j) → ((p : ℕ) → began_at (e ∷ h) p ≡ began_at h p) → Steady h e → AreBusy c base h → AreBusy c base (e ∷ h)
busy_same c base h e os hs bs st b o has held pos =
    let x = b o (subst (λ (l : List Opening). Has o l) os has) (held_by (job_of h o) (job_of (e ∷ h) o) (st o) held) (omega arith) in
    record { at = x.at; is = x.is; began = bs x.at ∙ x.began; queue = x.queue }

busy_step : {C : Type 0} (size : C → ℕ) (c : Config) (base : Base) (h : List (Event C)) (e : Event C) → IsLegal size c base h → May size (now c base h) e → AreBusy c base h → AreBusy c base (e ∷ h)
busy_step size c base h (Opened k s q) l m b = busy_opened c base h k s q (facts size c base h l) m.4 (steady size c base h (Opened k s q) l m) b
busy_step size c base h (AtPrinter p sheet Handed) l m b = busy_handed c base h p sheet (facts size c base h l) (keeps size c base h l) m.0 m.1 (steady size c base h (AtPrinter p sheet Handed) l m) b
busy_step size c base h (AtPrinter p sheet turn) l m b =
    busy_same c base h (AtPrinter p sheet turn) refl (λ j. ap length (handed_same h p sheet turn j refl)) (λ q. began_same h p sheet turn q refl) (steady size c base h (AtPrinter p sheet turn) l m) b
busy_step size c base h e l m b = busy_same c base h e refl (λ j. refl) (λ p. refl) (steady size c base h e l m) b

pub busy : {C : Type 0} (size : C → ℕ) (c : Config) (base : Base) (h : List (Event C)) → IsLegal size c base h → AreBusy c base h
busy size c base [] l = λ o has held pos. absurd has
busy size c base (e ∷ h) l = busy_step size c base h e l.1 l.0 (busy size c base h l.1)

-- the numbers of the jobs rise

pub rising_openings : {C : Type 0} (size : C → ℕ) (c : Config) (base : Base) (h : List (Event C)) → IsLegal size c base h → Rises (λ (o : Opening). o.job) (openings h)
rising_openings size c base [] l = tt
rising_openings size c base (Opened k s q ∷ h) l =
    rises_push (λ (o : Opening). o.job) (openings h) (record { job = k; sender = s; queue = q }) (rising_openings size c base h l.1)
    (λ y t. let n = (facts size c base h l.1).numbers y t in let is = l.0.4 in omega arith)
rising_openings size c base (_ ∷ h) l = rising_openings size c base h l.1

pub rising_jobs : {C : Type 0} (size : C → ℕ) (c : Config) (base : Base) (h : List (Event C)) → IsLegal size c base h → Rises (λ (v : Job C). v.number) (now c base h).jobs
rising_jobs {C} size c base h l =
    let name = λ (v : Job C). v.number in
    rises_filter name is_held (map (job_of h) (openings h)) (rises_map (job_of h) name (openings h) (rising_openings size c base h l))
