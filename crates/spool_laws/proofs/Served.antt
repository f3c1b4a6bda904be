-- How long a printer has nothing to do: an event by which no job of its queue becomes whole, ends or goes brings it nothing.
use Rattle.std.proofs.Common.{◌⊎◌, inl, inr, ◌≡◌, ◌==◌, ℕ, ◌+◌, ◌<◌, Bool, true, false, List, [], ◌∷◌, ◌++◌, drop, map, refl, sym, ◌∙◌, ap, subst, arith}
use Rattle.std.specs.Prelude.{◌&&◌, not, cond, find, Option, Some, None}
use Rattle.std.specs.List.{list_any, AllByRecursion}
use Rattle.std.proofs.lemmas.Bool.Decides.{nat_tests}
use Rattle.std.proofs.lemmas.Bool.{and_parts, not-true, cases_Bool}
use Rattle.spool_history.specs.Base.{Base}
use Rattle.spool_history.specs.Events.{Act, Event, Sheet, Turn}
use Rattle.spool_history.specs.Events.Act.{Granted, Put, FileEnded, Controlled, Aborted}
use Rattle.spool_history.specs.Events.Progress.{Going, Done, Ended}
use Rattle.spool_history.specs.Events.Turn.{Handed, Printed, Failed}
use Rattle.spool_history.specs.Events.Event.{Opened, OfJob, AtPrinter, Removed, Started, Closed}
use Rattle.config_values.specs.Config.{IsPrinter, Config, queue_of}
use Rattle.spool_history.specs.Acts.{Page}
use Rattle.spool_history.specs.Said.{openings, out_at, began_at, is_failed, is_stopped_at, is_closed}
use Rattle.spool_history.specs.Now.{Job, Printer, State, now, job_of, is_held, is_received, places}
use Rattle.spool_history.specs.Next.{Next, next_at, with_out, hand_of, hand_first, turn_of, or_first, first_ready, is_ready, is_preceded_by, printer_at}
use Rattle.spool_history.specs.Next.Next.{Hands, Nothing, Stops, Over}
use Rattle.spool_history.specs.Steps.{acted, turned, change, accepted_by, new_job}
use Rattle.spool_history.specs.Legal.{HasJob, IsLegal, JobMay, May, MayBeRemoved, progress_of}
use Rattle.spool_laws.specs.PutOff.{may_help}
use Rattle.spool_laws.specs.Served.{HasNothing, NoneMayServe, has_of, may_serve}
use Rattle.spool_laws.proofs.Known.{Has, Known, At, known, has_at, has_filtered, has_mapped, filter_has, map_has, find_has, none_of, test, clash, or_true, and_false}
use Rattle.spool_laws.proofs.Printers.{at_printer}
use Rattle.spool_laws.proofs.Turns.{Gets, Begins, begins_by, ready_by, given, given_at}
use Rattle.spool_laws.proofs.Facts.{Facts, facts, is_out}
use Rattle.spool_laws.proofs.Moves.{moved}
use Rattle.spool_laws.proofs.Busy.{busy, received_if}
use Rattle.spool_laws.proofs.StillHeld.{left}
use Rattle.spool_laws.proofs.PutOff.{Takes, takes, still_held, at_job}
use Rattle.spool_laws.proofs.Behind.{bool_cases as false_if}
use Rattle.spool_laws.proofs.Adding.{has_left}
use Rattle.spool_laws.proofs.Copies.{has_either}

-- what an event that doesn't serve a queue makes of a job of that queue: it takes something or nothing, or a page of it comes
-- back, and it goes on
abbrev Stays : {C : Type 0} → Job C → Job C → Type 0
Stays u w = Takes u w ⊎ ((w ≡ record u { back = u.back + 1 }) × (u.ended ≡ false))

has_it : {C : Type 0} (jobs : List (Job C)) (q : ℕ) (u : Job C) → Has u jobs → u.queue ≡ q → has_of jobs q u.number ≡ true
has_it [] q u has e = absurd has
has_it {C} (v ∷ vs) q u has e = elim has [
  | inl s ↦
      let a : (v.queue == q) ≡ true = (let m : v.queue ≡ q = ap (λ (x : Job C). x.queue) s ∙ e in grind (arith, nat_tests)) in
      let b : (v.number == u.number) ≡ true = (let m : v.number ≡ u.number = ap (λ (x : Job C). x.number) s in grind (arith, nat_tests)) in
      rw (a, b) refl
  | inr t ↦ rw (has_it vs q u t e) (or_true ((v.queue == q) && (v.number == u.number)))
]

-- no job of the queue has the number of such an event
not_of : {C : Type 0} (jobs : List (Job C)) (q j : ℕ) (u : Job C) → Has u jobs → u.queue ≡ q → has_of jobs q j ≡ false → j ≡ u.number → ⊥
not_of jobs q j u has e none same = clash (has_of jobs q j) (subst (λ (i : ℕ). has_of jobs q i ≡ true) (sym same) (has_it jobs q u has e)) none

-- one that names another job changes nothing
other : {C : Type 0} (new u : Job C) (k : ℕ) → (k ≡ u.number → ⊥) → cond (k == u.number) new u ≡ u
other new u k ne = elim (test k u.number) [ inl s ↦ absurd (ne s.0) | inr s ↦ rw s.1 refl ]

not_whole_by : (whole b : Bool) → (whole && b) ≡ false → b ≡ true → whole ≡ false
not_whole_by true b e f = absurd (clash b f e)
not_whole_by false b e f = refl

-- of an act that makes a job whole: it is of another queue, or doesn't make it whole
whole_act : {C : Type 0} (size : C → ℕ) (c : Config) (base : Base) (h : List (Event C)) (k : ℕ) (act : Act C) (whole : Bool) (q : ℕ) → (may_help (OfJob k act) ≡ whole) → (whole && has_of (now c base h).jobs q k) ≡ false → IsLegal size c base h → May size (now c base h) (OfJob k act)
    → (u : Job C) → Has u (now c base h).jobs → u.queue ≡ q → Takes u (change (OfJob k act) u)
whole_act {C} size c base h k act whole q is quiet l m u has e = elim (test k u.number) [
  | inl s ↦ takes size c base h (OfJob k act) (is ∙ not_whole_by whole (has_of (now c base h).jobs q k) quiet (subst (λ (i : ℕ). has_of (now c base h).jobs q i ≡ true) (sym s.0) (has_it (now c base h).jobs q u has e))) l m u has
  | inr s ↦ inl (other (acted act u) u k s.0)
]

removed_queue : {C : Type 0} (c : Config) (base : Base) (h : List (Event C)) (r : ℕ) (u : Job C) (jobs : List ℕ) → Facts base h → Known h (openings h) u → AllByRecursion (λ j. HasJob (now c base h).jobs j (MayBeRemoved r)) jobs → (u.queue ≡ r → ⊥) → list_any (λ (k : ℕ). k == u.number) jobs ≡ false
removed_queue c base h r u [] f kn all ne = refl
removed_queue c base h r u (k ∷ ks) f kn all ne = elim (test k u.number) [
  | inl s ↦ absurd (ne (at_job h k (MayBeRemoved r) u f (has_at c base h k (MayBeRemoved r) all.0) kn s.0).0)
  | inr s ↦ rw s.1 (removed_queue c base h r u ks f kn all.1 ne)
]

going_by : {C : Type 0} (v : Job C) (e : Bool) → v.ended ≡ e → Going ≡ progress_of v → v.ended ≡ false
going_by v true is p = absurd (let z : Going ≡ Ended = rw is at p in cc)
going_by v false is p = is

-- where a page is printed and its job goes on
goes_on : {C : Type 0} (h : List (Event C)) (j : ℕ) → At h j (λ (v : Job C). Going ≡ progress_of v) → At h j (λ (v : Job C). v.ended ≡ false)
goes_on {C} h j a =
    let v : Job C = job_of h (record { job = j; sender = a.sender; queue = a.queue }) in
    record { sender = a.sender; queue = a.queue; there = a.there; held = a.held; is = going_by v v.ended refl a.is }

stays : {C : Type 0} (size : C → ℕ) (c : Config) (base : Base) (h : List (Event C)) (e : Event C) (q : ℕ) → may_serve (now c base h) q e ≡ false → IsLegal size c base h → May size (now c base h) e → (u : Job C) → Has u (now c base h).jobs → u.queue ≡ q → Stays u (change e u)
stays size c base h (OfJob k (FileEnded file whole)) q quiet l m u has is = inl (whole_act size c base h k (FileEnded file whole) whole q refl quiet l m u has is)
stays size c base h (OfJob k (Controlled control whole)) q quiet l m u has is = inl (whole_act size c base h k (Controlled control whole) whole q refl quiet l m u has is)
stays size c base h (OfJob k Aborted) q quiet l m u has is = inl (inl (other (acted Aborted u) u k (not_of (now c base h).jobs q k u has is quiet)))
stays {C} size c base h (AtPrinter p sheet (Printed Going)) q quiet l m u has is = elim (test sheet.job u.number) [
  | inl s ↦
      let a = goes_on h sheet.job (has_at c base h sheet.job (λ (v : Job C). Going ≡ progress_of v) m.1.1) in
      rw s.1 (inr (refl, at_job h sheet.job (λ (v : Job C). v.ended ≡ false) u (facts size c base h l) a (known c base h u has) s.0))
  | inr s ↦ inl (inl (other _ u sheet.job s.0))
]
stays size c base h (AtPrinter p sheet Handed) q quiet l m u has is = inl (takes size c base h (AtPrinter p sheet Handed) refl l m u has)
stays size c base h (AtPrinter p sheet _) q quiet l m u has is = inl (inl (other _ u sheet.job (not_of (now c base h).jobs q sheet.job u has is quiet)))
stays size c base h (Removed r jobs) q quiet l m u has is =
    let ne : u.queue ≡ r → ⊥ = λ same. (let z : r ≡ q = sym same ∙ is in clash (r == q) (grind (arith, nat_tests)) quiet) in
    rw (removed_queue c base h r u jobs (facts size c base h l) (known c base h u has) m.4 ne) (inl (inl refl))
stays size c base h Closed q quiet l m u has is = absurd (clash true refl quiet)
stays size c base h e q quiet l m u has is = inl (takes size c base h e refl l m u has)

-- what stays of such a job
record Same {C : Type 0} (u w : Job C) : Type 0 where
  number : w.number ≡ u.number
  sender : w.sender ≡ u.sender
  queue : w.queue ≡ u.queue
  ended : w.ended ≡ u.ended
  received : is_received w ≡ true → is_received u ≡ true
  unhanded : w.handed ≡ 0 → u.handed ≡ 0
  held : is_held u ≡ true → is_held w ≡ true

same : {C : Type 0} (u w : Job C) → Stays u w → Same u w
same {C} u w s = elim s [
  | inl t ↦ elim t [
    | inl e ↦ subst (λ (x : Job C). Same u x) (sym e) record { number = refl; sender = refl; queue = refl; ended = refl; received = λ r. r; unhanded = λ z. z; held = λ k. k }
    | inr d ↦ elim d [
      | inl r ↦ record {
        number = r.number;
        sender = r.sender;
        queue = r.queue;
        ended = r.is ∙ sym r.was;
        received = λ x. absurd (clash (is_received w) x r.after);
        unhanded = λ z. sym r.handed ∙ z;
        held = still_held u w (inr (inl r));
      }
      | inr k ↦ subst (Same u) (sym k.is) record { number = refl; sender = refl; queue = refl; ended = refl; received = λ r. r; unhanded = λ z. absurd (omega arith); held = λ x. rw k.was refl }
    ]
  ]
  | inr b ↦ subst (λ (x : Job C). Same u x) (sym b.0) record { number = refl; sender = refl; queue = refl; ended = refl; received = λ r. r; unhanded = λ z. z; held = λ k. rw b.1 refl }
]

-- what no event changes

record Named {C : Type 0} (u w : Job C) : Type 0 where
  number : w.number ≡ u.number
  queue : w.queue ≡ u.queue
  ended : w.ended ≡ false → u.ended ≡ false

same_named : {C : Type 0} (u : Job C) → Named u u
same_named u = record { number = refl; queue = refl; ended = λ e. e }

acted_named : {C : Type 0} (act : Act C) (u : Job C) → Named u (acted act u)
acted_named (Put file number page) u = record { number = refl; queue = refl; ended = λ e. e }
acted_named Aborted u = record { number = refl; queue = refl; ended = λ e. absurd (clash true refl e) }
acted_named _ u = record { number = refl; queue = refl; ended = λ e. e }

turned_named : {C : Type 0} (turn : Turn) (u : Job C) → Named u (turned turn u)
turned_named (Printed Done) u = record { number = refl; queue = refl; ended = λ e. absurd (clash true refl e) }
turned_named Failed u = record { number = refl; queue = refl; ended = λ e. absurd (clash true refl e) }
turned_named _ u = record { number = refl; queue = refl; ended = λ e. e }

named_if : {C : Type 0} (u w : Job C) (b : Bool) → Named u w → Named u (cond b w u)
named_if u w true n = n
named_if u w false n = same_named u

named : {C : Type 0} (e : Event C) (u : Job C) → Named u (change e u)
named (OfJob k act) u = named_if u (acted act u) (k == u.number) (acted_named act u)
named (AtPrinter p sheet turn) u = named_if u (turned turn u) (sheet.job == u.number) (turned_named turn u)
named (Removed q jobs) u = named_if u (record u { ended = true }) (list_any (λ (k : ℕ). k == u.number) jobs) record { number = refl; queue = refl; ended = λ e. absurd (clash true refl e) }
named Closed u = record { number = refl; queue = refl; ended = λ e. absurd (clash true refl e) }
named _ u = same_named u

-- the job that is found before and after

abbrev all : {C : Type 0} → Event C → List (Job C) → List (Job C)
all e us = left (change e) us ++ accepted_by e

-- the job that is found after the event, where this one was found before, or else what is found among the new ones
abbrev found_after : {C : Type 0} → (Job C → Job C) → Option (Job C) → Option (Job C) → Option (Job C)
found_after g None new = new
found_after g (Some z) new = Some (g z)

abbrev Passes : {C : Type 0} → (Job C → Bool) → (Job C → Job C) → Option (Job C) → Type 0
Passes t g None = Unit {0}
Passes t g (Some z) = (is_held (g z) ≡ true) × (t (g z) ≡ true)

lift : {C : Type 0} (t t' : Job C → Bool) (g : Job C → Job C) (us new : List (Job C)) (o : Option (Job C)) → ((u : Job C) → Has u us → t u ≡ false → t' (g u) ≡ false) → find t us ≡ o → Passes t' g o
    → find t' (left g us ++ new) ≡ found_after g o (find t' new)
lift {C} t t' g [] new o keep f is = ap (λ (x : Option (Job C)). found_after g x (find t' new)) f
lift {C} t t' g (u ∷ us) new o keep f is = elim (cases_Bool (t u)) [
  | inl e ↦
      let first : Some u ≡ o = rw e at f in
      let a : Passes t' g (Some u) = subst (λ (x : Option (Job C)). Passes t' g x) (sym first) is in
      rw a.0 (rw a.1 (ap (λ (x : Option (Job C)). found_after g x (find t' new)) first))
  | inr e ↦
      let ih = lift t t' g us new o (λ v has. keep v (inr has)) (rw e at f) is in
      elim (cases_Bool (is_held (g u))) [ inl d ↦ rw d (rw (keep u (inl refl) e) ih) | inr d ↦ rw d ih ]
]

-- what a list has after the event

left_has : {C : Type 0} (g : Job C → Job C) (y : Job C) (us : List (Job C)) → is_held (g y) ≡ true → Has y us → Has (g y) (left g us)
left_has g y us held has = filter_has is_held (g y) (map g us) held (map_has g y us has)

abbrev Was : {C : Type 0} → (Job C → Job C) → List (Job C) → Job C → Type 0
Was {C} g us w = (u : Job C) × Has u us × (w ≡ g u)

was : {C : Type 0} (g : Job C → Job C) (w : Job C) (us : List (Job C)) → Has w (left g us) → Was g us w
was g w us has = has_mapped g w us (has_filtered is_held w (map g us) has).0

none_if : {X : Type 0} (t : X → Bool) (xs : List X) → ((x : X) → Has x xs → t x ≡ false) → list_any t xs ≡ false
none_if t [] f = refl
none_if t (x ∷ xs) f = rw (f x (inl refl)) (none_if t xs (λ y has. f y (inr has)))

-- a job that is accepted has a number above all others, and is neither received nor has a place

record New {C : Type 0} (n : ℕ) (w : Job C) : Type 0 where
  number : w.number ≡ n + 1
  received : is_received w ≡ false

new_one : {C : Type 0} (size : C → ℕ) (v : State C) (e : Event C) (w : Job C) → May size v e → Has w (accepted_by e) → New v.accepted w
new_one {C} size v (Opened j s q) w m has = elim has [
  | inl i ↦ subst (λ (x : Job C). New v.accepted x) i record { number = m.4; received = refl }
  | inr n ↦ absurd n
]
new_one size v (OfJob k act) w m has = absurd has
new_one size v _ w m has = absurd has

-- so none of these begins
new_unready : {C : Type 0} (ws : List (Job C)) (q : ℕ) (e : Event C) → find (λ (w : Job C). (w.queue == q) && is_ready ws w) (accepted_by e) ≡ None
new_unready ws q (Opened j s r) = rw (and_false (r == q)) refl
new_unready ws q _ = refl

found_new : {C : Type 0} (ws : List (Job C)) (q j s r : ℕ) (b : Bool) → hand_of (first_ready ws q) ≡ Nothing → hand_of (or_first ws q (cond b (Some (new_job j s r)) None)) ≡ Nothing
found_new ws q j s r true e = refl
found_new ws q j s r false e = e

new_bound : {C : Type 0} (ws : List (Job C)) (q j : ℕ) (e : Event C) → hand_of (first_ready ws q) ≡ Nothing → hand_of (or_first ws q (find (λ (v : Job C). (v.number == j) && not v.ended) (accepted_by e))) ≡ Nothing
new_bound ws q j (Opened k s r) n = found_new ws q k s r ((k == j) && true) n
new_bound ws q j _ n = n

-- nothing is left to hand

nothing_left : {C : Type 0} (n place : ℕ) (xs : List (Page C)) → hand_first n place xs ≡ Nothing → xs ≡ []
nothing_left n place [] e = refl
nothing_left n place (x ∷ xs) e = absurd cc

left_nothing : {C : Type 0} (n place : ℕ) (xs : List (Page C)) → xs ≡ [] → hand_first n place xs ≡ Nothing
left_nothing n place xs e = rw e refl

abbrev IsSpent : {C : Type 0} → Job C → Type 0
IsSpent v = drop v.handed (places v) ≡ []

-- of a received job that goes on, of which nothing is left to hand, a page comes back at most
abbrev Rests : {C : Type 0} → Job C → Job C → Type 0
Rests u w = (n : ℕ) × (w ≡ record u { back = n })

rests_act : {C : Type 0} (size : C → ℕ) (c : Config) (act : Act C) (u : Job C) → JobMay size c act u → is_received u ≡ true → u.ended ≡ false → ⊥
rests_act size c Granted u m r e = clash (is_received u) r m.0.0.1
rests_act size c Aborted u m r e = elim m [ inl a ↦ clash (is_received u) r a.1 | inr a ↦ clash u.ended a.0 e ]
rests_act size c _ u m r e = clash (is_received u) r m.0.1

rests : {C : Type 0} (size : C → ℕ) (c : Config) (base : Base) (h : List (Event C)) (e : Event C) (q : ℕ) → may_serve (now c base h) q e ≡ false → IsLegal size c base h → May size (now c base h) e
    → (u : Job C) → Has u (now c base h).jobs → u.queue ≡ q → is_received u ≡ true → u.ended ≡ false → IsSpent u → Rests u (change e u)
rests {C} size c base h (OfJob k act) q quiet l m u has is re en sp = elim (test k u.number) [
  | inl s ↦ absurd (rests_act size c act u (at_job h k (JobMay size c act) u (facts size c base h l) (has_at c base h k (JobMay size c act) m.0) (known c base h u has) s.0) re en)
  | inr s ↦ (u.back, other (acted act u) u k s.0)
]
rests {C} size c base h (AtPrinter p sheet Handed) q quiet l m u has is re en sp = elim (test sheet.job u.number) [
  | inl s ↦
      let g = at_job h sheet.job (λ (v : Job C). Gets sheet v) u (facts size c base h l) (given_at c base h (printer_at (now c base h) p) sheet (given (now c base h) p sheet m.1).1) (known c base h u has) s.0 in
      absurd (let z : ◌≡◌ {A = List (Page C)} [] (g.page ∷ g.later) = sym sp ∙ g.left in cc)
  | inr s ↦ (u.back, other _ u sheet.job s.0)
]
rests size c base h (AtPrinter p sheet (Printed Going)) q quiet l m u has is re en sp = elim (test sheet.job u.number) [ inl s ↦ (u.back + 1, rw s.1 refl) | inr s ↦ (u.back, other _ u sheet.job s.0) ]
rests size c base h (AtPrinter p sheet _) q quiet l m u has is re en sp = (u.back, other _ u sheet.job (not_of (now c base h).jobs q sheet.job u has is quiet))
rests size c base h (Removed r jobs) q quiet l m u has is re en sp =
    let ne : u.queue ≡ r → ⊥ = λ same. (let z : r ≡ q = sym same ∙ is in clash (r == q) (grind (arith, nat_tests)) quiet) in
    rw (removed_queue c base h r u jobs (facts size c base h l) (known c base h u has) m.4 ne) (u.back, refl)
rests size c base h Closed q quiet l m u has is re en sp = absurd (clash true refl quiet)
rests size c base h _ q quiet l m u has is re en sp = (u.back, refl)

-- and so it stays
record Rested {C : Type 0} (u w : Job C) : Type 0 where
  number : w.number ≡ u.number
  sender : w.sender ≡ u.sender
  queue : w.queue ≡ u.queue
  ended : w.ended ≡ u.ended
  received : is_received w ≡ is_received u
  handed : w.handed ≡ u.handed
  places : places w ≡ places u

rested : {C : Type 0} (u w : Job C) → Rests u w → Rested u w
rested {C} u w r = subst (λ (x : Job C). Rested u x) (sym r.1) record { number = refl; sender = refl; queue = refl; ended = refl; received = refl; handed = refl; places = refl }

spent_on : {C : Type 0} (u w : Job C) → Rested u w → IsSpent u → hand_of (Some w) ≡ Nothing
spent_on {C} u w r s = left_nothing w.number w.handed (drop w.handed (places w)) (rw (r.handed, r.places) s)

going_held : {C : Type 0} (w : Job C) → w.ended ≡ false → is_held w ≡ true
going_held w e = rw e refl

-- what begins after the event began before, and what begins and has no place begins after it

is_before : {C : Type 0} (w x u y : Job C) → w.number ≡ u.number → w.sender ≡ u.sender → w.queue ≡ u.queue → x.number ≡ y.number → x.sender ≡ y.sender → x.queue ≡ y.queue → is_preceded_by w x ≡ is_preceded_by u y
is_before w x u y a b d a' b' d' = rw (a, b, d, a', b', d') refl

before_parts : {C : Type 0} (w v : Job C) → is_preceded_by w v ≡ true → (v.queue ≡ w.queue) × (v.number < w.number)
before_parts w v e =
    (grind (arith, nat_tests), grind (arith, nat_tests))

begins_before : {C : Type 0} (size : C → ℕ) (c : Config) (base : Base) (h : List (Event C)) (e : Event C) (q : ℕ) → may_serve (now c base h) q e ≡ false → IsLegal size c base h → May size (now c base h) e
    → (u : Job C) → Has u (now c base h).jobs → Begins (all e (now c base h).jobs) q (change e u) → (change e u).ended ≡ false → Begins (now c base h).jobs q u × (u.ended ≡ false)
begins_before {C} size c base h e q quiet l m u has b goes =
    let us = (now c base h).jobs in
    let queue : u.queue ≡ q = sym (named e u).queue ∙ b.queue in
    let s = same u (change e u) (stays size c base h e q quiet l m u has queue) in
    let none : list_any (is_preceded_by u) us ≡ false = none_if (is_preceded_by u) us (λ y there. false_if (is_preceded_by u y) (λ yes.
    let t = same y (change e y) (stays size c base h e q quiet l m y there ((before_parts u y yes).0 ∙ queue)) in
    let there' : Has (change e y) (all e us) = has_left (change e y) (left (change e) us) (accepted_by e) (left_has (change e) y us (t.held (known c base h y there).held) there) in
    let no' : is_preceded_by (change e u) (change e y) ≡ false = none_of (is_preceded_by (change e u)) (change e y) (all e us) b.first there' in
    clash (is_preceded_by u y) yes (sym (is_before (change e u) (change e y) u y s.number s.sender s.queue t.number t.sender t.queue) ∙ no'))) in
    (record { queue = queue; received = s.received b.received; unhanded = s.unhanded b.unhanded; first = none }, sym s.ended ∙ goes)

begins_still : {C : Type 0} (size : C → ℕ) (c : Config) (base : Base) (h : List (Event C)) (e : Event C) (q : ℕ) → may_serve (now c base h) q e ≡ false → IsLegal size c base h → May size (now c base h) e
    → (u : Job C) → Has u (now c base h).jobs → Begins (now c base h).jobs q u → Rested u (change e u) → Begins (all e (now c base h).jobs) q (change e u)
begins_still {C} size c base h e q quiet l m u has b r =
    let us = (now c base h).jobs in
    let k = known c base h u has in
    let number : u.number ≡ k.opening.job = ap (λ (v : Job C). v.number) k.is in
    let late = ((facts size c base h l).numbers k.opening k.there).1 in
    record {
      queue = r.queue ∙ b.queue;
      received = r.received ∙ b.received;
      unhanded = r.handed ∙ b.unhanded;
      first = none_if (is_preceded_by (change e u)) (all e us) (λ w there. false_if (is_preceded_by (change e u) w) (λ yes.
          let p = before_parts (change e u) w yes in
          elim (has_either w (left (change e) us) (accepted_by e) there) [
            | inl old ↦
                let x = was (change e) w us old in
                let queue : x.0.queue ≡ q = sym (named e x.0).queue ∙ (ap (λ (v : Job C). v.queue) (sym x.2) ∙ (p.0 ∙ (r.queue ∙ b.queue))) in
                let t = same x.0 (change e x.0) (stays size c base h e q quiet l m x.0 x.1 queue) in
                let yes' : is_preceded_by (change e u) (change e x.0) ≡ true = subst (λ (v : Job C). is_preceded_by (change e u) v ≡ true) x.2 yes in
                clash (is_preceded_by u x.0) (sym (is_before (change e u) (change e x.0) u x.0 r.number r.sender r.queue t.number t.sender t.queue) ∙ yes') (none_of (is_preceded_by u) x.0 us b.first x.1)
            | inr new ↦
                let n = (new_one size (now c base h) e w m new).number in
                absurd (omega arith)
          ]));
    }

-- so where nothing begins, nothing does after the event
first_stays : {C : Type 0} (size : C → ℕ) (c : Config) (base : Base) (h : List (Event C)) (e : Event C) (q : ℕ) → may_serve (now c base h) q e ≡ false → IsLegal size c base h → May size (now c base h) e
    → hand_of (first_ready (now c base h).jobs q) ≡ Nothing → hand_of (first_ready (all e (now c base h).jobs) q) ≡ Nothing
first_stays {C} size c base h e q quiet l m n = by (first_ready us q) refl n
  where
    us : List (Job C)
    us = (now c base h).jobs

    is : List (Job C) → Job C → Bool
    is jobs w = (w.queue == q) && is_ready jobs w

    keep : (u : Job C) → Has u us → is us u ≡ false → is (all e us) (change e u) ≡ false
    keep u has f = false_if (is (all e us) (change e u)) (λ yes.
        let b = begins_by (all e us) q (change e u) yes in
        let a = begins_before size c base h e q quiet l m u has b.0 b.1 in
        clash (is us u) (ready_by us q u a.0 a.1) f)

    by : (o : Option (Job C)) → first_ready us q ≡ o → hand_of o ≡ Nothing → hand_of (first_ready (all e us) q) ≡ Nothing
    by None f z = ap hand_of (lift (is us) (is (all e us)) (change e) us (accepted_by e) None keep f tt ∙ new_unready (all e us) q e)
    by (Some u) f z =
        let has = find_has (is us) u us f in
        let b = begins_by us q u has.1 in
        let spent : IsSpent u = nothing_left u.number u.handed (drop u.handed (places u)) z in
        let r = rested u (change e u) (rests size c base h e q quiet l m u has.0 b.0.queue b.0.received b.1 spent) in
        let goes : (change e u).ended ≡ false = r.ended ∙ b.1 in
        let begins = begins_still size c base h e q quiet l m u has.0 b.0 r in
        ap hand_of (lift (is us) (is (all e us)) (change e) us (accepted_by e) (Some u) keep f
        (going_held (change e u) goes, ready_by (all e us) q (change e u) begins goes)) ∙ spent_on u (change e u) r spent

-- a printer's job is of its queue, and is received
own_job : {C : Type 0} (size : C → ℕ) (c : Config) (base : Base) (h : List (Event C)) (p j : ℕ) (u : Job C) → IsLegal size c base h → began_at h p ≡ Some j → Has u (now c base h).jobs → u.number ≡ j
    → (u.queue ≡ queue_of c p) × (is_received u ≡ true)
own_job {C} size c base h p j u l began has n =
    let f = facts size c base h l in
    let k = known c base h u has in
    let number : k.opening.job ≡ j = sym (ap (λ (v : Job C). v.number) k.is) ∙ n in
    let began' : began_at h p ≡ Some k.opening.job = began ∙ ap (λ (i : ℕ). Some i) (sym number) in
    let begun = f.began p k.opening.job began' in
    let x = busy size c base h l k.opening k.there (subst (λ (v : Job C). is_held v ≡ true) k.is k.held) begun in
    let at : x.at ≡ p = f.alone x.at p k.opening.job x.began began' in
    (ap (λ (v : Job C). v.queue) k.is ∙ (sym x.queue ∙ ap (queue_of c) at), ap (λ (v : Job C). is_received v) k.is ∙ received_if h k.opening.job f begun)

-- the turn of a printer after the event
turn_stays : {C : Type 0} (size : C → ℕ) (c : Config) (base : Base) (h : List (Event C)) (e : Event C) (p : ℕ) (o : Option ℕ) → began_at h p ≡ o → may_serve (now c base h) (queue_of c p) e ≡ false → IsLegal size c base h → May size (now c base h) e
    → hand_of (turn_of (now c base h).jobs (queue_of c p) o) ≡ Nothing → hand_of (turn_of (all e (now c base h).jobs) (queue_of c p) o) ≡ Nothing
turn_stays size c base h e p None began quiet l m n = first_stays size c base h e (queue_of c p) quiet l m n
turn_stays {C} size c base h e p (Some j) began quiet l m n = by (find is us) refl n
  where
    us : List (Job C)
    us = (now c base h).jobs

    is : Job C → Bool
    is v = (v.number == j) && not v.ended

    keep : (u : Job C) → Has u us → is u ≡ false → is (change e u) ≡ false
    keep u has f = false_if (is (change e u)) (λ yes.
        let a = and_parts ((change e u).number == j) (not (change e u).ended) yes in
        let k = named e u in
        let going : u.ended ≡ false = k.ended (not-true (change e u).ended a.1) in
        let num : (u.number == j) ≡ true = subst (λ (i : ℕ). (i == j) ≡ true) k.number a.0 in
        clash (is u) (rw (num, going) refl) f)

    by : (o : Option (Job C)) → find is us ≡ o → hand_of (or_first us (queue_of c p) o) ≡ Nothing → hand_of (or_first (all e us) (queue_of c p) (find is (all e us))) ≡ Nothing
    by None f z = subst (λ (o : Option (Job C)). hand_of (or_first (all e us) (queue_of c p) o) ≡ Nothing) (sym (lift is is (change e) us (accepted_by e) None keep f tt))
        (new_bound (all e us) (queue_of c p) j e (first_stays size c base h e (queue_of c p) quiet l m z))
    by (Some u) f z =
        let has = find_has is u us f in
        let a = and_parts (u.number == j) (not u.ended) has.1 in
        let num : u.number ≡ j = let x = a.0 in grind (arith, nat_tests) in
        let going : u.ended ≡ false = not-true u.ended a.1 in
        let spent : IsSpent u = nothing_left u.number u.handed (drop u.handed (places u)) z in
        let own = own_job size c base h p j u l began has.0 num in
        let r = rested u (change e u) (rests size c base h e (queue_of c p) quiet l m u has.0 own.0 own.1 going spent) in
        let goes : (change e u).ended ≡ false = r.ended ∙ going in
        let yes : is (change e u) ≡ true = subst (λ (i : ℕ). ((i == j) && not (change e u).ended) ≡ true) (sym r.number) (rw (a.0, goes) refl) in
        subst (λ (o : Option (Job C)). hand_of (or_first (all e us) (queue_of c p) o) ≡ Nothing)
        (sym (lift is is (change e) us (accepted_by e) (Some u) keep f (going_held (change e u) goes, yes))) (spent_on u (change e u) r spent)

-- what is next for a printer of which a history says this is nothing, or it is stopped
abbrev NothingFor : {C : Type 0} → Bool → List (Job C) → Printer C → Type 0
NothingFor closed jobs x = (cond closed Over (next_at jobs x) ≡ Nothing) ⊎ (cond closed Over (next_at jobs x) ≡ Stops)

-- no page is out at it, and none is next
abbrev IsIdle : {C : Type 0} → List (Job C) → Printer C → Type 0
IsIdle jobs x = (x.out ≡ None) × (hand_of (turn_of jobs x.queue x.began) ≡ Nothing)

no_stop_by : {C : Type 0} (n place : ℕ) (xs : List (Page C)) → hand_first n place xs ≡ Stops → ⊥
no_stop_by n place [] e = cc
no_stop_by n place (x ∷ xs) e = cc

no_stop : {C : Type 0} (o : Option (Job C)) → hand_of o ≡ Stops → ⊥
no_stop None e = cc
no_stop (Some v) e = no_stop_by v.number v.handed (drop v.handed (places v)) e

idle_of : {C : Type 0} (jobs : List (Job C)) (x : Printer C) (o : Option (Sheet C)) → (with_out jobs x o ≡ Nothing) ⊎ (with_out jobs x o ≡ Stops) → (o ≡ None) × (hand_of (turn_of jobs x.queue x.began) ≡ Nothing)
idle_of jobs x None s = elim s [ inl n ↦ (refl, n) | inr n ↦ absurd (no_stop (turn_of jobs x.queue x.began) n) ]
idle_of jobs x (Some sheet) s = elim s [ inl n ↦ absurd cc | inr n ↦ absurd cc ]

stopped_of : {C : Type 0} (jobs : List (Job C)) (x : Printer C) (b : Bool) → (cond b Stops (with_out jobs x x.out) ≡ Nothing) ⊎ (cond b Stops (with_out jobs x x.out) ≡ Stops) → (b ≡ true) ⊎ IsIdle jobs x
stopped_of jobs x true s = inl refl
stopped_of jobs x false s = inr (idle_of jobs x x.out s)

open_of : {C : Type 0} (jobs : List (Job C)) (x : Printer C) (b : Bool) → NothingFor b jobs x → (b ≡ false) × ((x.stopped ≡ true) ⊎ IsIdle jobs x)
open_of jobs x true s = elim s [ inl n ↦ absurd cc | inr n ↦ absurd cc ]
open_of jobs x false s = (refl, stopped_of jobs x x.stopped s)

nothing_for : {C : Type 0} (jobs : List (Job C)) (x : Printer C) (b : Bool) → x.stopped ≡ b → (x.stopped ≡ true) ⊎ IsIdle jobs x → NothingFor false jobs x
nothing_for jobs x true e s = inr (rw e refl)
nothing_for jobs x false e s = elim s [
  | inl t ↦ absurd (clash x.stopped t e)
  | inr i ↦ inl (rw (e, i.0) i.1)
]

-- the printer after the event

open_still : {C : Type 0} (base : Base) (h : List (Event C)) (v : State C) (q : ℕ) (e : Event C) → may_serve v q e ≡ false → is_closed base h ≡ false → is_closed base (e ∷ h) ≡ false
open_still base h v q Closed quiet o = absurd (clash true refl quiet)
open_still base h v q _ quiet o = o

stopped_still : {C : Type 0} (base : Base) (h : List (Event C)) (v : State C) (q p : ℕ) (e : Event C) → may_serve v q e ≡ false → is_stopped_at base h q p ≡ true → is_stopped_at base (e ∷ h) q p ≡ true
stopped_still base h v q p (AtPrinter r sheet turn) quiet o = rw o (or_true ((r == p) && is_failed turn))
stopped_still base h v q p (Started r) quiet o = rw quiet o
stopped_still base h v q p _ quiet o = o

-- a page neither comes to a printer that has nothing, nor from it
not_here : {C : Type 0} (size : C → ℕ) (c : Config) (base : Base) (h : List (Event C)) (p : ℕ) (sheet : Sheet C) (turn : Turn) → HasNothing (now c base h) p → out_at h p ≡ None → May size (now c base h) (AtPrinter p sheet turn) → ⊥
not_here size c base h p sheet Handed n out m = elim n [ inl a ↦ (let z : ◌≡◌ {A = Next _} Nothing (Hands sheet) = sym a ∙ m.1 in cc) | inr a ↦ (let z : ◌≡◌ {A = Next _} Stops (Hands sheet) = sym a ∙ m.1 in cc) ]
not_here size c base h p sheet (Printed x) n out m = (let z : ◌≡◌ {A = Option _} None (Some sheet) = sym out ∙ is_out c base h p sheet m.0 m.1.0 in cc)
not_here size c base h p sheet Failed n out m = (let z : ◌≡◌ {A = Option _} None (Some sheet) = sym out ∙ is_out c base h p sheet m.0 m.1 in cc)

idle_still : {C : Type 0} (size : C → ℕ) (c : Config) (base : Base) (h : List (Event C)) (p : ℕ) (e : Event C) → HasNothing (now c base h) p → out_at h p ≡ None → May size (now c base h) e → (out_at (e ∷ h) p ≡ None) × (began_at (e ∷ h) p ≡ began_at h p)
idle_still size c base h p (Opened j s r) n out m = (out, refl)
idle_still {C} size c base h p (AtPrinter r sheet turn) n out m = elim (test r p) [
  | inl s ↦ absurd (not_here size c base h p sheet turn n out (subst (λ (i : ℕ). May size (now c base h) (AtPrinter i sheet turn)) s.0 m))
  | inr s ↦ (rw s.1 out, rw s.1 refl)
]
idle_still size c base h p _ n out m = (out, refl)

nothing_step : {C : Type 0} (size : C → ℕ) (c : Config) (base : Base) (h : List (Event C)) (e : Event C) (p : ℕ) → IsPrinter c p → May size (now c base h) e → IsLegal size c base h → may_serve (now c base h) (queue_of c p) e ≡ false → HasNothing (now c base h) p → HasNothing (now c base (e ∷ h)) p
nothing_step {C} size c base h e p is m l quiet n =
    let us = (now c base h).jobs in
    let x : Printer C = record { queue = queue_of c p; out = out_at h p; began = began_at h p; stopped = is_stopped_at base h (queue_of c p) p } in
    let y : Printer C = record { queue = queue_of c p; out = out_at (e ∷ h) p; began = began_at (e ∷ h) p; stopped = is_stopped_at base (e ∷ h) (queue_of c p) p } in
    let before = open_of us x (is_closed base h) (subst (λ (v : Printer C). NothingFor (is_closed base h) us v) (at_printer c base h p is.0 is.1) n) in
    let jobs : (now c base (e ∷ h)).jobs ≡ all e us = ap (λ (v : State C). v.jobs) (moved size c base h e l m) in
    let after' : (y.stopped ≡ true) ⊎ IsIdle (all e us) y = elim before.1 [
      | inl s ↦ inl (stopped_still base h (now c base h) (queue_of c p) p e quiet s)
      | inr i ↦
          let k = idle_still size c base h p e n i.0 m in
          inr (k.0, subst (λ (o : Option ℕ). hand_of (turn_of (all e us) (queue_of c p) o) ≡ Nothing) (sym k.1) (turn_stays size c base h e p (began_at h p) refl quiet l m i.1))
    ] in
    let there : NothingFor (is_closed base (e ∷ h)) (all e us) y = subst (λ (b : Bool). NothingFor b (all e us) y) (sym (open_still base h (now c base h) (queue_of c p) e quiet before.0)) (nothing_for (all e us) y y.stopped refl after') in
    subst (λ (v : Printer C). NothingFor (is_closed base (e ∷ h)) (now c base (e ∷ h)).jobs v) (sym (at_printer c base (e ∷ h) p is.0 is.1)) (subst (λ (js : List (Job C)). NothingFor (is_closed base (e ∷ h)) js y) (sym jobs) there)

pub nothing_stays : {C : Type 0} (size : C → ℕ) (c : Config) (base : Base) (h later : List (Event C)) (p : ℕ) → IsPrinter c p → IsLegal size c base (later ++ h) → NoneMayServe c base (queue_of c p) later h → HasNothing (now c base h) p → HasNothing (now c base (later ++ h)) p
nothing_stays size c base h [] p is l quiet n = n
nothing_stays size c base h (e ∷ later) p is l quiet n = nothing_step size c base (later ++ h) e p is l.0 l.1 quiet.0 (nothing_stays size c base h later p is l.1 quiet.1 n)
