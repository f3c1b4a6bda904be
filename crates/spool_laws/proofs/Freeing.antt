-- How many entries may still come after a history; and what is legal stays legal in a larger account.
use Rattle.std.proofs.Common.{inl, inr, ◌≡◌, ◌==◌, ◌≢◌, ℕ, ◌+◌, ◌≤◌, Bool, true, false, List, [], ◌∷◌, ◌++◌, length, map, refl, sym, ◌∙◌, ap, subst, arith, append_assoc, append-nil}
use Rattle.std.specs.Prelude.{cond, sum_by}
use Rattle.std.specs.List.{list_any, AllByRecursion}
use Rattle.std.proofs.lemmas.List.Sums.{sum_by-cons, sum_by-append}
use Rattle.spool_history.specs.Base.{Base}
use Rattle.spool_history.specs.Events.{Act, Event, Sheet, Turn}
use Rattle.spool_history.specs.Events.Act.{Granted, Began, Put, FileEnded, Controlled, Aborted}
use Rattle.spool_history.specs.Events.Turn.{Handed, Printed, Failed}
use Rattle.spool_history.specs.Events.Event.{Opened, OfJob, AtPrinter, Removed, Started, Closed}
use Rattle.config_values.specs.Config.{Config, printer_count, queue_of, reserve_of}
use Rattle.spool_history.specs.Said.{Opening, openings, is_stopped_at, is_closed}
use Rattle.spool_history.specs.Now.{Job, Printer, now, job_of, is_held, printer_of, up_to}
use Rattle.spool_history.specs.Legal.{HasJob, IsLegal, May}
use Rattle.spool_laws.specs.Freeing.{still_reserved, MayFree, wider}
use Rattle.spool_laws.proofs.Known.{Has, has_at, held_at, clash, test}
use Rattle.spool_laws.proofs.Facts.{facts, is_out, turn_of_page, acts_other}
use Rattle.spool_laws.proofs.Counts.{one_if, one_le}
use Rattle.spool_laws.proofs.Adding.{sum_less, sum_same, sum_map, sum_filter, has_left}
use Rattle.spool_laws.proofs.Moves.{out_held, steady}
use Rattle.spool_laws.proofs.Told.{used, reserved}
use Rattle.spool_laws.proofs.Reserve.{Told', told_step, stops, stop, used_by, all_used}

-- nothing more is told of a job that is gone

other : {C : Type 0} (h : List (Event C)) (k j : ℕ) → held_at h k ≡ true → held_at h j ≡ false → k ≢ j
other h k j held gone = λ same. clash (held_at h j) (subst (λ (i : ℕ). held_at h i ≡ true) same held) gone

used_act : {C : Type 0} (h : List (Event C)) (k : ℕ) (act : Act C) (j : ℕ) → k ≢ j → used (OfJob k act ∷ h) j ≤ used h j
used_act h k act j ne = omega (arith, ap length (acts_other h k act j ne))

used_turn : {C : Type 0} (h : List (Event C)) (p : ℕ) (sheet : Sheet C) (turn : Turn) (j : ℕ) → sheet.job ≢ j → used (AtPrinter p sheet turn ∷ h) j ≤ used h j
used_turn h p sheet turn j ne = elim (test sheet.job j) [ inl s ↦ absurd (ne s.0) | inr s ↦ rw s.1 (omega arith) ]

none_held : {C : Type 0} (c : Config) (base : Base) (h : List (Event C)) (P : Job C → Type 0) (j : ℕ) (jobs : List ℕ) → held_at h j ≡ false → AllByRecursion (λ k. HasJob (now c base h).jobs k P) jobs → list_any (λ (k : ℕ). k == j) jobs ≡ false
none_held c base h P j [] gone all = refl
none_held c base h P j (k ∷ ks) gone all = elim (test k j) [
  | inl s ↦ absurd (other h k j (has_at c base h k P all.0).held gone s.0)
  | inr s ↦ rw s.1 (none_held c base h P j ks gone all.1)
]

gone_used : {C : Type 0} (size : C → ℕ) (c : Config) (base : Base) (h : List (Event C)) (e : Event C) → IsLegal size c base h → May size (now c base h) e → (j : ℕ) → held_at h j ≡ false → used (e ∷ h) j ≤ used h j
gone_used size c base h (OfJob k act) l m j gone = used_act h k act j (other h k j (has_at c base h k _ m.0).held gone)
gone_used size c base h (AtPrinter p sheet Handed) l m j gone =
    used_turn h p sheet Handed j (other h sheet.job j (turn_of_page c base h p sheet m.0.0 m.0.1 m.1).at.held gone)
gone_used size c base h (AtPrinter p sheet (Printed x)) l m j gone =
    used_turn h p sheet (Printed x) j (other h sheet.job j (out_held h sheet.job ((facts size c base h l).out p sheet (is_out c base h p sheet m.0 m.1.0)).1) gone)
gone_used size c base h (AtPrinter p sheet Failed) l m j gone =
    used_turn h p sheet Failed j (other h sheet.job j (out_held h sheet.job ((facts size c base h l).out p sheet (is_out c base h p sheet m.0 m.1)).1) gone)
gone_used size c base h (Removed q jobs) l m j gone = rw (none_held c base h _ j jobs gone m.4) (omega arith)
gone_used size c base h _ l m j gone = omega arith

gone_later : {C : Type 0} (size : C → ℕ) (c : Config) (base : Base) (h later : List (Event C)) → IsLegal size c base (later ++ h) → (o : Opening) → is_held (job_of h o) ≡ false
    → (is_held (job_of (later ++ h) o) ≡ false) × (used (later ++ h) o.job ≤ used h o.job)
gone_later size c base h [] l o gone = (gone, omega arith)
gone_later size c base h (e ∷ later) l o gone =
    let ih = gone_later size c base h later l.1 o gone in
    let so_far = ih.1 in
    let one = gone_used size c base (later ++ h) e l.1 l.0 o.job ih.0 in
    (steady size c base (later ++ h) e l.1 l.0 o ih.0, omega arith)

-- the entries that come later are among what is told more of the jobs, the stopped printers and the close

abbrev before : {C : Type 0} → Base → List (Event C) → ℕ
before base h = all_used h (openings h) + one_if (is_closed base h)

later_told : {C : Type 0} (size : C → ℕ) (c : Config) (base : Base) (h later : List (Event C)) → IsLegal size c base (later ++ h) → Told' (length later + before base h) (stops c base h) c base (later ++ h)
later_told size c base h [] l = omega arith
later_told size c base h (e ∷ later) l =
    let t = told_step (length later + before base h) (stops c base h) size c base (later ++ h) e l.1 l.0 (later_told size c base h later l.1) in
    omega arith

openings_later : {C : Type 0} (h later : List (Event C)) → openings (later ++ h) ≡ openings h ++ openings later
openings_later h [] = sym (append-nil (openings h))
openings_later h (Opened j s q ∷ later) =
    let x : Opening = record { job = j; sender = s; queue = q } in
    ap (λ (l : List Opening). l ++ x ∷ []) (openings_later h later) ∙ append_assoc (openings h) (openings later) (x ∷ [])
openings_later h (_ ∷ later) = openings_later h later

has_right : {X : Type 0} (x : X) (xs ys : List X) → Has x ys → Has x (xs ++ ys)
has_right x [] ys has = has
has_right x (z ∷ zs) ys has = inr (has_right x zs ys has)

-- of a job that is held, what its reserve allows; of one that is gone, nothing

either_way : (b : Bool) (x y r : ℕ) → (b ≡ true → x ≤ r) → (b ≡ false → x ≤ y) → x ≤ y + cond b r 0
either_way true x y r held gone = let a = held refl in omega arith
either_way false x y r held gone = let a = gone refl in omega arith

abbrev kept : {C : Type 0} → Config → List (Event C) → Opening → ℕ
kept c h o = cond (is_held (job_of h o)) (reserve_of c o.queue) 0

each_later : {C : Type 0} (size : C → ℕ) (c : Config) (base : Base) (h later : List (Event C)) → IsLegal size c base (later ++ h) → (o : Opening) → Has o (openings h) → used (later ++ h) o.job ≤ used h o.job + kept c h o
each_later size c base h later l o has =
    let there : Has o (openings (later ++ h)) = subst (λ (os : List Opening). Has o os) (sym (openings_later h later)) (has_left o (openings h) (openings later) has) in
    either_way (is_held (job_of h o)) (used (later ++ h) o.job) (used h o.job) (reserve_of c o.queue) (λ e. reserved size c base (later ++ h) l o there) (λ e. (gone_later size c base h later l o e).1)

sum_most : {X : Type 0} (f g k : X → ℕ) (xs : List X) → ((y : X) → Has y xs → f y ≤ g y + k y) → sum_by f xs ≤ sum_by g xs + sum_by k xs
sum_most f g k [] le = omega arith
sum_most f g k (x ∷ xs) le = omega (arith, le x (inl refl), sum_most f g k xs (λ y has. le y (inr has)), sum_by-cons f x xs, sum_by-cons g x xs, sum_by-cons k x xs)

held_kept : {C : Type 0} (c : Config) (h : List (Event C)) (os : List Opening) → sum_by (λ (v : Job C). reserve_of c v.queue) (Rattle.std.specs.Prelude.filter is_held (map (job_of h) os)) ≡ sum_by (kept c h) os
held_kept {C} c h os =
    sum_filter (λ (v : Job C). reserve_of c v.queue) is_held (map (job_of h) os)
    ∙ sum_map (λ (v : Job C). cond (is_held v) (reserve_of c v.queue) 0) (job_of h) os

one_is : (b : Bool) → one_if b ≡ cond b 1 0
one_is true = refl
one_is false = refl

stops_are : {C : Type 0} (c : Config) (base : Base) (h : List (Event C)) → stops c base h ≡ sum_by (λ (x : Printer C). cond x.stopped 1 0) (map (printer_of c base h) (up_to (printer_count c)))
stops_are {C} c base h =
    sum_same (stop c base h) (λ (p : ℕ). cond (is_stopped_at base h (queue_of c p) p) 1 0) (up_to (printer_count c)) (λ p. one_is (is_stopped_at base h (queue_of c p) p))
    ∙ sym (sum_map (λ (x : Printer C). cond x.stopped 1 0) (printer_of c base h) (up_to (printer_count c)))

pub held_reserve_is_enough : {C : Type 0} (size : C → ℕ) (c : Config) (base : Base) (h : List (Event C)) (n : ℕ) → n + still_reserved (now c base h) ≤ (now c base h).reserved → MayFree size c base h n
held_reserve_is_enough {C} size c base h n le later l =
    let all = later ++ h in
    let os = openings h in
    let ns = openings later in
    let reserve : Opening → ℕ = λ (o : Opening). reserve_of c o.queue in
    let split = openings_later h later in
    let t = later_told size c base h later l in
    let uses : all_used all (openings all) ≡ all_used all os + all_used all ns = ap (sum_by (used_by all)) split ∙ sum_by-append (used_by all) os ns in
    let reserves : sum_by reserve (openings all) ≡ sum_by reserve os + sum_by reserve ns = ap (sum_by reserve) split ∙ sum_by-append reserve os ns in
    let old = sum_most (used_by all) (used_by h) (kept c h) os (λ o has. each_later size c base h later l o has) in
    let new = sum_less (used_by all) reserve ns (λ o has. reserved size c base all l o (subst (λ (xs : List Opening). Has o xs) (sym split) (has_right o os ns has))) in
    omega (arith, held_kept c h os, stops_are c base h, one_le (is_closed base all))

-- a larger account

wider_may : {C : Type 0} (size : C → ℕ) (c : Config) (base : Base) (h : List (Event C)) (n : ℕ) (e : Event C) → May size (now c base h) e → May size (now (wider n c) base h) e
wider_may size c base h n (Opened j s q) m = (m.0, m.1, m.2, (let room = m.3 in omega arith), m.4, m.5)
wider_may size c base h n (OfJob k Granted) m = m
wider_may size c base h n (OfJob k (Began name count)) m = m
wider_may size c base h n (OfJob k (Put file number page)) m = m
wider_may size c base h n (OfJob k (FileEnded file whole)) m = m
wider_may size c base h n (OfJob k (Controlled control whole)) m = m
wider_may size c base h n (OfJob k Aborted) m = m
wider_may size c base h n (AtPrinter p sheet Handed) m = m
wider_may size c base h n (AtPrinter p sheet (Printed x)) m = m
wider_may size c base h n (AtPrinter p sheet Failed) m = m
wider_may size c base h n (Removed q jobs) m = m
wider_may size c base h n (Started q) m = m
wider_may size c base h n Closed m = m

pub wider_is_legal : {C : Type 0} (size : C → ℕ) (c : Config) (base : Base) (h : List (Event C)) (n : ℕ) → IsLegal size c base h → IsLegal size (wider n c) base h
wider_is_legal size c base [] n l = tt
wider_is_legal size c base (e ∷ h) n l = (wider_may size c base h n e l.0, wider_is_legal size c base h n l.1)
