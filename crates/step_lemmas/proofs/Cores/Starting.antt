-- Sessions are admitted to a queue, and its stopped printers are started.
use Rattle.std.proofs.Common.{inl, inr, ◌≡◌, ◌≢◌, ◌==◌, ℕ, zero, suc, ◌+◌, ◌<◌, Bool, true, false, cond, List, ◌∷◌, ◌++◌, length, get_or, set, take, drop, map, refl, sym, ◌∙◌, ap, subst, arith}
use Rattle.std.specs.Prelude.{◌&&◌, ◌⊎◌}
use Rattle.std.specs.List.{list_any}
use Rattle.std.proofs.lemmas.Bool.{and_parts, cond_both, false_from_ne_true}
use Rattle.std.proofs.lemmas.List.{get_or-map, get_or_default, length-append, length-drop, length-map, length-take}
use Rattle.std.proofs.lemmas.List.Edits.{map_over_more}
use Rattle.std.proofs.lemmas.List.Folds.{Any-from_list_any, list_any_at, map_fixed}
use Rattle.std.proofs.lemmas.Simd.{map-map}
use Rattle.std.proofs.lemmas.Bool.Decides.{nat_tests}
use Rattle.config_values.specs.Config.{IsPrinter, IsQueue, printer_count}
use Rattle.spool_history.specs.Base.{Base}
use Rattle.spool_history.specs.Events.{Event}
use Rattle.spool_history.specs.Events.Event.{Started}
use Rattle.spool_history.specs.Now as N
use Rattle.spool_history.specs.Now.{State}
use Rattle.spool_history.specs.Next.{no_printer, printer_at}
use Rattle.spool_history.specs.Legal.{May, IsStoppedFor}
use Rattle.spool_laws.proofs.Known.{clash}
use Rattle.spool_laws.proofs.Adding.{length_up_to}
use Rattle.spool_calls.specs.declared.printer.Printer.{Printer}
use Rattle.spool_calls.specs.Looks.{Detail, What, size}
use Rattle.spool_calls.specs.Kept.{Kept, Leaves, left_by, kept_printer}
use Rattle.spool_calls.specs.Printers.{no_kept, started}
use Rattle.step_lemmas.proofs.Cores.Leaving.{is_open}
use Rattle.step_lemmas.proofs.Cores.Printers.{printers_many}
use Rattle.step_lemmas.proofs.Cores.EndingMany.{leaves_same}

-- the first elements of a list changed, so many

pub record IsMapped {X : Type 0} (f : X → X) (xs ys : List X) (i : ℕ) : Type 0 where
  pub is : ys ≡ map f (take i xs) ++ drop i xs

pub mapped_more : {X : Type 0} (f : X → X) (xs ys zs : List X) (i : ℕ) (d : X) → IsMapped f xs ys i → i < length xs → zs ≡ set ys i (f (get_or ys i d)) → IsMapped f xs zs (i + 1)
mapped_more f xs ys zs i d m there set' =
    let lt : i < length ys = omega (arith, there, ap length m.is, length-append (map f (take i xs)) (drop i xs), length-map (take i xs) f, length-take i xs, length-drop i xs) in
    record { is = set' ∙ map_over_more f xs ys i (get_or ys i d) there m.is (get_or_default ys i d (get_or ys i d) lt) }

-- the printer at the next place started, where it is of the queue
pub started_more : (q : ℕ) (xs ys zs : List Printer) (i : ℕ) → IsMapped (started q) xs ys i → i < length xs → (get_or ys i no_kept).queue ≡ q → zs ≡ set ys i (record (get_or ys i no_kept) { stopped = false }) → IsMapped (started q) xs zs (i + 1)
started_more q xs ys zs i m lt e set' =
    let x = get_or ys i no_kept in
    let yes' : (x.queue == q) ≡ true = grind (arith, nat_tests) in
    mapped_more (started q) xs ys zs i no_kept m lt (set' ∙ ap (λ (b : Bool). set ys i (cond b (record x { stopped = false }) x)) (sym yes'))

-- and where it isn't
pub started_less : (q : ℕ) (xs ys zs : List Printer) (i : ℕ) → IsMapped (started q) xs ys i → i < length xs → ((get_or ys i no_kept).queue ≡ q → ⊥) → zs ≡ set ys i (get_or ys i no_kept) → IsMapped (started q) xs zs (i + 1)
started_less q xs ys zs i m lt e set' =
    let x = get_or ys i no_kept in
    let ne : x.queue ≢ q = e in
    let no' : (x.queue == q) ≡ false = grind (arith, nat_tests) in
    mapped_more (started q) xs ys zs i no_kept m lt (set' ∙ ap (λ (b : Bool). set ys i (cond b (record x { stopped = false }) x)) (sym no'))

-- a printer of this queue is stopped
abbrev pub is_stopped_for : ℕ → Printer → Bool
is_stopped_for q p = (p.queue == q) && p.stopped

abbrev pub has_stopped : ℕ → List Printer → Bool
has_stopped q printers = list_any (is_stopped_for q) printers

-- what is kept once the printers of a queue are started
abbrev pub started_core : Kept → ℕ → Kept
started_core k q = record k { printers = map (started q) k.printers }

-- the same of the history's printers
abbrev started' : {C : Type 0} → ℕ → N.Printer C → N.Printer C
started' q p = cond (p.queue == q) (record p { stopped = false }) p

one_kept : (d : Detail) (q : ℕ) (p : N.Printer (What d)) → started q (kept_printer d p) ≡ kept_printer d (started' q p)
one_kept d q p = by (p.queue == q)
  where
    by : (b : Bool) → cond b (record (kept_printer d p) { stopped = false }) (kept_printer d p) ≡ kept_printer d (cond b (record p { stopped = false }) p)
    by true = refl
    by false = refl

all_kept : (d : Detail) (q : ℕ) (ps : List (N.Printer (What d))) → map (started q) (map (kept_printer d) ps) ≡ map (kept_printer d) (map (started' q) ps)
all_kept d q ps =
    map-map (started q) (kept_printer d) ps ∙ (ap (λ (f : N.Printer (What d) → Printer). map f ps) (λ i p. one_kept d q p i) ∙ sym (map-map (kept_printer d) (started' q) ps))

-- where none is stopped the start changes nothing
one_same : (q : ℕ) (p : Printer) → is_stopped_for q p ≡ false → started q p ≡ p
one_same q p e =
    cond_both (p.queue == q) (record p { stopped = false }) p (λ (z : Printer). z ≡ p)
    (λ yes. ap (λ (t : Bool). record p { stopped = t }) (sym (ap (λ (b : Bool). b && p.stopped) (sym yes) ∙ e))) (λ no. refl)

all_same' : (q : ℕ) (ps : List Printer) → has_stopped q ps ≡ false → map (started q) ps ≡ ps
all_same' q ps e = map_fixed (started q) ps (λ i p lt. one_same q (get_or ps i p)
    (false_from_ne_true (is_stopped_for q (get_or ps i p)) (λ t. clash (has_stopped q ps) (list_any_at (is_stopped_for q) ps i p lt t) e)))

module _ (d : Detail) (b : Base) (h : List (Event (What d))) (k : Kept) (l : Leaves d b h k) where
  abbrev v : State (What d)
  v = left_by d b h k

  many : length v.printers ≡ printer_count k.config
  many = length_up_to (N.printer_of k.config b h) (printer_count k.config)

  seen : (i : ℕ) → i < length v.printers → (p : Printer) → get_or k.printers i p ≡ kept_printer d (get_or v.printers i no_printer)
  seen i lt p = ap (λ (ps : List Printer). get_or ps i p) l.kept.printers ∙ get_or-map (kept_printer d) v.printers i no_printer p lt

  no_one : Printer
  no_one = kept_printer d no_printer

  stopped_at : (q : ℕ) → has_stopped q k.printers ≡ true → (p : ℕ) × IsPrinter k.config p × IsStoppedFor q (printer_at v p)
  stopped_at q e =
      let s = Any-from_list_any (is_stopped_for q) k.printers e in
      let there : s.0 < length v.printers = omega (arith, printers_many d b h k l, s.2) in
      let x = get_or v.printers s.0 no_printer in
      let t = and_parts (x.queue == q) x.stopped (sym (ap (is_stopped_for q) (seen s.0 there s.1)) ∙ (ap (is_stopped_for q) s.3 ∙ s.4)) in
      let same : x.queue ≡ q = (let z = t.0 in grind (arith, nat_tests)) in
      (suc s.0, (omega arith, omega (arith, many, there)), (same, t.1))

  stopped_is : (q p : ℕ) → IsPrinter k.config p → IsStoppedFor q (printer_at v p) → has_stopped q k.printers ≡ true
  stopped_is q zero is s = absurd (let one = is.0 in omega arith)
  stopped_is q (suc i) is s =
      let there : i < length v.printers = omega (arith, many, is.1) in
      let x = get_or v.printers i no_printer in
      let same : (x.queue == q) ≡ true = (let z = s.0 in grind (arith, nat_tests)) in
      let yes' : is_stopped_for q (kept_printer d x) ≡ true = ap (λ (a : Bool). a && x.stopped) same ∙ s.1 in
      list_any_at (is_stopped_for q) k.printers i no_one (omega (arith, printers_many d b h k l, there)) (ap (is_stopped_for q) (seen i there no_one) ∙ yes')

  may : (q : ℕ) → k.closed ≡ false → IsQueue k.config q → has_stopped q k.printers ≡ true → May (size d) v (Started q)
  may q c is s = (let r = stopped_at q s in (is_open d b h k l c, is, r.0, r.1, r.2))

  never : (q : ℕ) → has_stopped q k.printers ≡ false → May (size d) v (Started q) → ⊥
  never q none m = clash (has_stopped q k.printers) (stopped_is q m.2 m.3 m.4) none

  pub start_leaves : (q : ℕ) → k.closed ≡ false → IsQueue k.config q → has_stopped q k.printers ≡ true → Leaves d b (Started q ∷ h) (started_core k q)
  start_leaves q c is s =
      leaves_same d b h k (Started q) (map (started q) k.printers) k.closed l (may q c is s) refl (λ x. refl) (ap (map (started q)) l.kept.printers ∙ all_kept d q v.printers) l.kept.closed

  pub start_same : (q : ℕ) → has_stopped q k.printers ≡ false → started_core k q ≡ k
  start_same q none = ap (λ (ps : List Printer). record k { printers = ps }) (all_same' q k.printers none)

  -- they were started, if one was stopped
  pub start_leads : (q : ℕ) → k.closed ≡ false → IsQueue k.config q
      → (May (size d) v (Started q) × Leaves d b (Started q ∷ h) (started_core k q)) ⊎ ((May (size d) v (Started q) → ⊥) × (started_core k q ≡ k))
  start_leads q c is = by (has_stopped q k.printers) refl
    where
      by : (s : Bool) → has_stopped q k.printers ≡ s → (May (size d) v (Started q) × Leaves d b (Started q ∷ h) (started_core k q)) ⊎ ((May (size d) v (Started q) → ⊥) × (started_core k q ≡ k))
      by true e = inl (may q c is e, start_leaves q c is e)
      by false e = inr (never q e, start_same q e)

  -- some history leaves the core there
  pub start_reaches : (q : ℕ) → k.closed ≡ false → IsQueue k.config q → (h' : List (Event (What d))) × Leaves d b h' (started_core k q)
  start_reaches q c is = by (has_stopped q k.printers) refl
    where
      by : (s : Bool) → has_stopped q k.printers ≡ s → (h' : List (Event (What d))) × Leaves d b h' (started_core k q)
      by true e = (Started q ∷ h, start_leaves q c is e)
      by false e = (h, subst (λ (w : Kept). Leaves d b h w) (sym (start_same q e)) l)
