-- Stopped printers are marked, from one entry of the account to the next.
use Rattle.std.proofs.Common.{◌≡◌, ◌↔◌, ℕ, zero, suc, ◌<◌, ◌≤◌, ◌==◌, ◌&&◌, ◌||◌, Bool, true, false, IsTrue, List, [], ◌∷◌, refl, sym, ◌∙◌, ap, subst, arith}
use Rattle.std.specs.Prelude.{cond, count_by, get_or, if◌then◌else◌, sum_by}
use Rattle.account.specs.declared.entry.Outline.{Outline}
use Rattle.config_values.specs.Config.{Config, IsQueue, printer_count, queue_of}
use Rattle.spool_history.specs.Base.{Base, first_base, was_stopped}
use Rattle.spool_history.specs.Events.{Event}
use Rattle.spool_history.specs.Events.Event.{Opened, OfJob, AtPrinter, Removed, Started, Closed}
use Rattle.spool_history.specs.Said.{is_failed, is_stopped_at}
use Rattle.spool_history.specs.Now as N
use Rattle.spool_history.specs.Now.{now, printer_of, up_to}
use Rattle.spool_history.specs.Rotated.{rotated}
use Rattle.spool_laws.proofs.Adding.{sum_map, up_below, up_none}
use Rattle.spool_laws.proofs.Printers.{get_up_to, map_twice}
use Rattle.spool_calls.specs.declared.printer.Printer.{Printer}
use Rattle.spool_calls.specs.Looks.{Detail, What}
use Rattle.spool_calls.specs.Looks.Detail.{Outlines}
use Rattle.spool_calls.specs.Kept.{Kept, Leaves, kept_printer}
use Rattle.spool_calls.specs.Calls.{IsRight, before}
use Rattle.spool_calls.specs.Readers.{stopped_for}
use Rattle.spool_ledgers.specs.Sums.{Sums}
use Rattle.locked_spool.specs.Held.{AreMarked, Held, IsHeld, stopped_of}
use Rattle.locked_spool.specs.Waiting.{HasStopped}

-- a page fails by it
abbrev pub fails : {C : Type 0} → Event C → Bool
fails (AtPrinter p sheet turn) = is_failed turn
fails _ = false

no_failure : (a f x : Bool) → f ≡ false → ((a && f) || x) ≡ true → x ≡ true
no_failure true true x e s = absurd (cc)
no_failure true false x e s = s
no_failure false f x e s = s

no_start : (a x : Bool) → (if a then false else x) ≡ true → x ≡ true
no_start true x s = absurd (cc)
no_start false x s = s

-- no other event stops a printer
stopped_before : {C : Type 0} (b : Base) (h : List (Event C)) (e : Event C) (q p : ℕ) → fails e ≡ false → is_stopped_at b (e ∷ h) q p ≡ true → is_stopped_at b h q p ≡ true
stopped_before b h (Opened j s r) q p calm is = is
stopped_before b h (OfJob j act) q p calm is = is
stopped_before b h (AtPrinter r sheet turn) q p calm is = no_failure (r == p) (is_failed turn) (is_stopped_at b h q p) calm is
stopped_before b h (Removed r jobs) q p calm is = is
stopped_before b h (Started r) q p calm is = no_start (r == q) (is_stopped_at b h q p) is
stopped_before b h Closed q p calm is = is

one_at_most : (a x y : Bool) → (x ≡ true → y ≡ true) → ◌≤◌ (cond {A = ℕ} (a && x) 1 0) (cond {A = ℕ} (a && y) 1 0)
one_at_most false x y f = omega arith
one_at_most true false y f = omega arith
one_at_most true true true f = omega arith
one_at_most true true false f = absurd (let e : false ≡ true = f refl in cc)

none_where : (a x : Bool) → x ≡ false → ◌≡◌ {A = ℕ} (cond {A = ℕ} (a && x) 1 0) 0
none_where false x e = refl
none_where true false e = refl
none_where true true e = absurd (cc)

module _ (c : Config) where
  -- one for a printer of this queue that is stopped
  abbrev one_of : Base → List (Event Outline) → (q p : ℕ) → ℕ
  one_of b h q p = cond {A = ℕ} ((queue_of c p == q) && is_stopped_at b h (queue_of c p) p) 1 0

  by_number : (b : Base) (h : List (Event Outline)) (q : ℕ) → stopped_of c b h q ≡ sum_by (one_of b h q) (up_to (printer_count c))
  by_number b h q = sum_map (λ (x : N.Printer Outline). cond {A = ℕ} ((x.queue == q) && x.stopped) 1 0) (printer_of c b h) (up_to (printer_count c))

  -- no more printers are stopped where each that is was stopped before
  no_more : (old new : Base) (h after : List (Event Outline)) (q : ℕ) → ((p : ℕ) → p ≤ printer_count c → is_stopped_at new after (queue_of c p) p ≡ true → is_stopped_at old h (queue_of c p) p ≡ true)
      → stopped_of c new after q ≤ stopped_of c old h q
  no_more old new h after q was =
      let m = by_number old h q in
      let n = by_number new after q in
      let le = up_below (one_of old h q) (one_of new after q) (printer_count c) (λ p within. one_at_most (queue_of c p == q) (is_stopped_at new after (queue_of c p) p) (is_stopped_at old h (queue_of c p) p) (was p within)) in
      omega (arith, m, n, le)

  -- what was marked is marked still after an event by which no page fails
  pub marked_still : (b : Base) (h : List (Event Outline)) (marked : Bool) → AreMarked c b h marked → (e : Event Outline) → fails e ≡ false → AreMarked c b (e ∷ h) marked
  marked_still b h marked are e calm q is some =
      let le = no_more b b h (e ∷ h) q (λ p within. stopped_before b h e (queue_of c p) p calm) in
      are q is (omega (arith, some, le))

  still_stopped : (b : Base) (h : List (Event Outline)) (p : ℕ) → p ≤ printer_count c → was_stopped (rotated (now c b h)) p ≡ true → is_stopped_at b h (queue_of c p) p ≡ true
  still_stopped b h zero le is = absurd (cc)
  still_stopped b h (suc p) le is =
      let same : was_stopped (rotated (now c b h)) (suc p) ≡ is_stopped_at b h (queue_of c (suc p)) (suc p) = ap (λ (l : List Bool). get_or l p false) (sym (map_twice (printer_of c b h) (λ (x : N.Printer Outline). x.stopped) (λ (q : ℕ). is_stopped_at b h (queue_of c q) q) (up_to (printer_count c)) (λ q. refl)))
      ∙ get_up_to (λ (q : ℕ). is_stopped_at b h (queue_of c q) q) (printer_count c) p false le in
      sym same ∙ is

  -- and from the base that these events leave
  pub marked_rotated : (b : Base) (h : List (Event Outline)) (marked : Bool) → AreMarked c b h marked → AreMarked c (rotated (now c b h)) [] marked
  marked_rotated b h marked are q is some =
      let le = no_more b (rotated (now c b h)) h [] q (still_stopped b h) in
      are q is (omega (arith, some, le))

  never_stopped : (p : ℕ) → was_stopped first_base p ≡ false
  never_stopped zero = refl
  never_stopped (suc p) = refl

  -- where nothing has happened none is stopped
  pub none_marked : AreMarked c first_base [] false
  none_marked q is some =
      let m = by_number first_base [] q in
      let n = up_none (one_of first_base [] q) (printer_count c) (λ p. none_where (queue_of c p == q) (was_stopped first_base p) (never_stopped p)) in
      absurd (omega (arith, some, m, n))

-- a core tells how many printers of a queue are stopped
by_core : (d : Detail) (b : Base) (h : List (Event (What d))) (k : Kept) (q : ℕ) → Leaves d b h k → count_by (λ (p : Printer). (p.queue == q) && p.stopped) k.printers ≡ stopped_for d b h k q
by_core d b h k q l =
    ap (count_by (λ (p : Printer). (p.queue == q) && p.stopped)) l.kept.printers
    ∙ sum_map (λ (p : Printer). cond {A = ℕ} ((p.queue == q) && p.stopped) 1 0) (kept_printer d) (before d b h k).printers

module _ {config : Config} {h : Held} {kept : List (Event Outline)} {room : ℕ} {totals : Sums} where
  -- where nothing is marked no printer is stopped
  pub none_stopped : {marked : Bool} {now : Kept} → IsHeld config h kept room totals marked → marked ≡ false → h.core ≡ now → IsRight now (λ d b events. HasStopped d b events now → ⊥)
  none_stopped {marked = marked} {now = now} is unmarked same =
      subst (λ (z : Kept). IsRight z (λ d b events. HasStopped d b events z → ⊥)) same
      (λ d b events l has.
      let q = has.0 in
      let m = by_core d b events h.core q l in
      let n = by_core Outlines h.base h.events h.core q is.left in
      let some = has.2 in
      let here : 0 < stopped_of h.core.config h.base h.events q = omega (arith, some, m, n) in
      let is_marked : marked ≡ true = is.stops q (subst (λ (c : Config). IsQueue c q) is.config_is has.1) (subst (λ (c : Config). 0 < stopped_of c h.base h.events q) is.config_is here) in
      absurd (let e : false ≡ true = sym unmarked ∙ is_marked in cc))

  -- a mark may be what was found
  pub marked_anew : {marked : Bool} {now : Kept} (found : Bool) → IsHeld config h kept room totals marked → h.core ≡ now → IsRight now (λ d b events. IsTrue found ↔ HasStopped d b events now) → IsHeld config h kept room totals found
  marked_anew {now = now} found is same right =
      let here = subst (λ (z : Kept). IsRight z (λ d b events. IsTrue found ↔ HasStopped d b events z)) (sym same) right Outlines h.base h.events is.left in
      let stops : AreMarked config h.base h.events found = λ q is_queue some.
      here.1 (q, subst (λ (c : Config). IsQueue c q) (sym is.config_is) is_queue, subst (λ (c : Config). 0 < stopped_of c h.base h.events q) (sym is.config_is) some) in
      record {
        config_is = is.config_is;
        ranges = is.ranges;
        core_ranges = is.core_ranges;
        left = is.left;
        counts = is.counts;
        kept_is = is.kept_is;
        freed_is = is.freed_is;
        room_is = is.room_is;
        entries = is.entries;
        kinds = is.kinds;
        handed = is.handed;
        few = is.few;
        few_kinds = is.few_kinds;
        few_handed = is.few_handed;
        few_since = is.few_since;
        stops = stops;
      }
