-- What is known of the job whose page a printer gets.
use Rattle.std.proofs.Common.{◌⊎◌, inl, inr, ◌≡◌, ◌==◌, ℕ, Bool, true, false, List, [], ◌∷◌, drop, refl, sym, ◌∙◌, ap, subst, arith}
use Rattle.std.specs.Prelude.{◌&&◌, not, cond, find, Option, Some, None}
use Rattle.std.specs.List.{list_any}
use Rattle.std.proofs.lemmas.Bool.Decides.{nat_tests}
use Rattle.std.proofs.lemmas.Bool.{and_parts, not-true}
use Rattle.spool_history.specs.Base.{Base}
use Rattle.spool_history.specs.Events.{Event, Sheet}
use Rattle.config_values.specs.Config.{Config}
use Rattle.spool_history.specs.Acts.{Page}
use Rattle.spool_history.specs.Now.{Job, Printer, State, now, is_received, places}
use Rattle.spool_history.specs.Next.{Next, next_page, next_at, with_out, hand_of, hand_first, turn_of, or_first, first_ready, is_ready, is_preceded_by, printer_at}
use Rattle.spool_history.specs.Next.Next.{Hands, Stops, Over}
use Rattle.spool_laws.proofs.Known.{Has, At, known, known_at, find_has}

-- the next place of a job that hasn't ended is this page
pub record Gets {C : Type 0} (sheet : Sheet C) (v : Job C) : Type 0 where
  pub goes_on : v.ended ≡ false
  pub page : Page C
  pub later : List (Page C)
  pub left : drop v.handed (places v) ≡ page ∷ later
  pub is : sheet ≡ record { job = v.number; place = v.handed; file = page.file; number = page.number; page = page.page }

-- it is received, has no page handed, and stands in its queue behind no other of its sender
pub record Begins {C : Type 0} (jobs : List (Job C)) (q : ℕ) (v : Job C) : Type 0 where
  pub queue : v.queue ≡ q
  pub received : is_received v ≡ true
  pub unhanded : v.handed ≡ 0
  pub first : list_any (is_preceded_by v) jobs ≡ false

pub record TurnOf {C : Type 0} (jobs : List (Job C)) (p : Printer C) (v : Job C) : Type 0 where
  pub there : Has v jobs
  pub goes_on : v.ended ≡ false
  pub why : (p.began ≡ Some v.number) ⊎ Begins jobs p.queue v

-- what is ready begins, and what begins is ready
pub begins_by : {C : Type 0} (jobs : List (Job C)) (q : ℕ) (x : Job C) → ((x.queue == q) && is_ready jobs x) ≡ true → Begins jobs q x × (x.ended ≡ false)
begins_by {C} jobs q x e =
    let a = and_parts (x.queue == q) (is_ready jobs x) e in
    let b = and_parts (is_received x) (not x.ended && ((x.handed == 0) && not (list_any (is_preceded_by x) jobs))) a.1 in
    let d = and_parts (not x.ended) ((x.handed == 0) && not (list_any (is_preceded_by x) jobs)) b.1 in
    let g = and_parts (x.handed == 0) (not (list_any (is_preceded_by x) jobs)) d.1 in
    let queue : x.queue ≡ q = let z = a.0 in grind (arith, nat_tests) in
    let none : x.handed ≡ 0 = let z = g.0 in grind (arith, nat_tests) in
    (record { queue = queue; received = b.0; unhanded = none; first = not-true (list_any (is_preceded_by x) jobs) g.1 }, not-true x.ended d.0)

pub ready_by : {C : Type 0} (jobs : List (Job C)) (q : ℕ) (x : Job C) → Begins jobs q x → x.ended ≡ false → ((x.queue == q) && is_ready jobs x) ≡ true
ready_by jobs q x b e =
    let a : (x.queue == q) ≡ true = let z = b.queue in grind (arith, nat_tests) in
    let d : (x.handed == 0) ≡ true = let z = b.unhanded in grind (arith, nat_tests) in
    rw (a, b.received, e, d, b.first) refl

first_by : {C : Type 0} (jobs : List (Job C)) (p : Printer C) (x : Job C) → first_ready jobs p.queue ≡ Some x → TurnOf jobs p x
first_by {C} jobs p x e =
    let f = find_has (λ (w : Job C). (w.queue == p.queue) && is_ready jobs w) x jobs e in
    let b = begins_by jobs p.queue x f.1 in
    record { there = f.0; goes_on = b.1; why = inr b.0 }

begun_by : {C : Type 0} (jobs : List (Job C)) (p : Printer C) (k : ℕ) (x : Job C) (found : Option (Job C)) → p.began ≡ Some k → find (λ (v : Job C). (v.number == k) && not v.ended) jobs ≡ found → or_first jobs p.queue found ≡ Some x → TurnOf jobs p x
begun_by jobs p k x None b e h = first_by jobs p x h
begun_by {C} jobs p k x (Some v) b e h =
    let same : v ≡ x = cc in
    let f = find_has (λ (v : Job C). (v.number == k) && not v.ended) v jobs e in
    let a = and_parts (v.number == k) (not v.ended) f.1 in
    let n : v.number ≡ k = let z = a.0 in grind (arith, nat_tests) in
    subst (λ (u : Job C). TurnOf jobs p u) same (record { there = f.0; goes_on = not-true v.ended a.1; why = inl (b ∙ ap (λ (i : ℕ). Some i) (sym n)) })

turn_by : {C : Type 0} (jobs : List (Job C)) (p : Printer C) (x : Job C) (o : Option ℕ) → p.began ≡ o → turn_of jobs p.queue o ≡ Some x → TurnOf jobs p x
turn_by jobs p x None b e = first_by jobs p x e
turn_by {C} jobs p x (Some k) b e = begun_by jobs p k x (find (λ (v : Job C). (v.number == k) && not v.ended) jobs) b refl e

-- a page is handed only past a test that gives nothing to hand
pub past : {C : Type 0} (b : Bool) (y x : Next C) (sheet : Sheet C) → (y ≡ Hands sheet → ⊥) → cond b y x ≡ Hands sheet → (b ≡ false) × (x ≡ Hands sheet)
past true y x sheet ne e = absurd (ne e)
past false y x sheet ne e = (refl, e)

pub idle_by : {C : Type 0} (jobs : List (Job C)) (p : Printer C) (o : Option (Sheet C)) (sheet : Sheet C) → with_out jobs p o ≡ Hands sheet → (o ≡ None) × (hand_of (turn_of jobs p.queue p.began) ≡ Hands sheet)
idle_by jobs p (Some x) sheet e = absurd cc
idle_by jobs p None sheet e = (refl, e)

gets_by : {C : Type 0} (x : Job C) (xs : List (Page C)) (sheet : Sheet C) → x.ended ≡ false → drop x.handed (places x) ≡ xs → hand_first x.number x.handed xs ≡ Hands sheet → Gets sheet x
gets_by x [] sheet goes_on left e = absurd cc
gets_by x (y ∷ ys) sheet goes_on left e = record { goes_on = goes_on; page = y; later = ys; left = left; is = cc }

pub record Given {C : Type 0} (jobs : List (Job C)) (p : Printer C) (sheet : Sheet C) : Type 0 where
  pub idle : p.out ≡ None
  pub job : Job C
  pub turn : TurnOf jobs p job
  pub gets : Gets sheet job

given_by : {C : Type 0} (jobs : List (Job C)) (p : Printer C) (sheet : Sheet C) (t : Option (Job C)) → p.out ≡ None → turn_of jobs p.queue p.began ≡ t → hand_of t ≡ Hands sheet → Given jobs p sheet
given_by jobs p sheet None idle is e = absurd cc
given_by jobs p sheet (Some x) idle is e =
    let t = turn_by jobs p x p.began refl is in
    record { idle = idle; job = x; turn = t; gets = gets_by x (drop x.handed (places x)) sheet t.goes_on refl e }

-- whom the next page of a printer is of
pub given : {C : Type 0} (v : State C) (p : ℕ) (sheet : Sheet C) → next_page v p ≡ Hands sheet → (v.closed ≡ false) × Given v.jobs (printer_at v p) sheet
given v p sheet e =
    let o = past v.closed Over (next_at v.jobs (printer_at v p)) sheet (λ d. cc) e in
    let i = idle_by v.jobs (printer_at v p) (printer_at v p).out sheet (past (printer_at v p).stopped Stops (with_out v.jobs (printer_at v p) (printer_at v p).out) sheet (λ d. cc) o.1).1 in
    (o.0, given_by v.jobs (printer_at v p) sheet (turn_of v.jobs (printer_at v p).queue (printer_at v p).began) i.0 refl i.1)

-- that job is an accepted one
pub given_at : {C : Type 0} (c : Config) (base : Base) (h : List (Event C)) (p : Printer C) (sheet : Sheet C) → Given (now c base h).jobs p sheet → At h sheet.job (λ v. Gets sheet v)
given_at {C} c base h p sheet g =
    known_at h g.job sheet.job (λ v. Gets sheet v) (known c base h g.job g.turn.there) (sym (ap (λ (s : Sheet C). s.job) g.gets.is)) g.gets
