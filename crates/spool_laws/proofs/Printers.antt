-- What one more event makes of the printers.
use Rattle.std.proofs.Common.{inl, inr, ◌≡◌, ◌==◌, ◌≢◌, ℕ, zero, suc, ◌-◌, ◌<◌, ◌≤◌, Bool, true, false, List, [], ◌∷◌, length, get_or, set, map, refl, sym, ◌∙◌, ap, arith}
use Rattle.std.specs.Prelude.{cond}
use Rattle.std.proofs.lemmas.List.{map-append, length-set, same_lists, get_or-set_same, get_or-set_other, get_or_append_left, get_or_at}
use Rattle.std.proofs.lemmas.Bool.Decides.{nat_tests}
use Rattle.spool_history.specs.Base.{Base}
use Rattle.spool_history.specs.Events.{Event, Sheet, Turn}
use Rattle.spool_history.specs.Events.Turn.{Handed}
use Rattle.spool_history.specs.Events.Event.{AtPrinter, Started}
use Rattle.config_values.specs.Config.{Config, printer_count, queue_of}
use Rattle.spool_history.specs.Now.{Printer, now, printer_of, up_to}
use Rattle.spool_history.specs.Next.{printer_at, no_printer}
use Rattle.spool_history.specs.Steps.{printer_turned, printers_after}
use Rattle.spool_laws.proofs.Known.{test}
use Rattle.spool_laws.proofs.Adding.{length_up_to}

pub get_up_to : {P : Type 0} (f : ℕ → P) (n i : ℕ) (d : P) → i < n → get_or (map f (up_to n)) i d ≡ f (suc i)
get_up_to f zero i d lt = absurd (omega arith)
get_up_to {P} f (suc n) i d lt = ap (λ (l : List P). get_or l i d) (map-append f (up_to n) (suc n ∷ [])) ∙ elim (test i n) [
  | inl s ↦ get_or_at (map f (up_to n)) (f (suc n)) [] d i (length_up_to f n ∙ sym s.0) ∙ ap (λ (m : ℕ). f (suc m)) (sym s.0)
  | inr s ↦
      get_or_append_left (map f (up_to n)) (f (suc n) ∷ []) d i (omega (arith, length_up_to f n)) ∙ get_up_to f n i d (omega arith)
]

-- where one of them changes
set_up_to : {P : Type 0} (f g : ℕ → P) (n p : ℕ) (x : P) → p < n → g (suc p) ≡ x → ((q : ℕ) → q ≢ suc p → g q ≡ f q) → map g (up_to n) ≡ set (map f (up_to n)) p x
set_up_to {P} f g n p x lt is other =
    let m : length (map g (up_to n)) ≡ n = length_up_to g n in
    let l : length (map f (up_to n)) ≡ n = length_up_to f n in
    let s : length (set (map f (up_to n)) p x) ≡ n = length-set (map f (up_to n)) p x ∙ l in
    same_lists (map g (up_to n)) (set (map f (up_to n)) p x) (m ∙ sym s) (λ k d below.
    get_up_to g n k d (omega arith) ∙ elim (test k p) [
      | inl e ↦ ap (λ (i : ℕ). g (suc i)) e.0 ∙ (is ∙ sym (ap (λ (i : ℕ). get_or (set (map f (up_to n)) p x) i d) e.0 ∙ get_or-set_same (map f (up_to n)) p x d (omega arith)))
      | inr e ↦ (let ne : k ≢ p = e.0 in other (suc k) (λ same. (let s' : suc k ≡ suc p = same in omega arith)) ∙ sym (get_or-set_other (map f (up_to n)) p k x d ne ∙ get_up_to f n k d (omega arith)))
    ])

pub at_printer : {C : Type 0} (c : Config) (base : Base) (h : List (Event C)) (p : ℕ) → 1 ≤ p → p ≤ printer_count c → printer_at (now c base h) p ≡ printer_of c base h p
at_printer c base h zero one le = absurd (omega arith)
at_printer c base h (suc p) one le = get_up_to (printer_of c base h) (printer_count c) p no_printer le

turned_other : {C : Type 0} (c : Config) (base : Base) (h : List (Event C)) (p : ℕ) (sheet : Sheet C) (turn : Turn) (q : ℕ) → q ≢ p
    → printer_of c base (AtPrinter p sheet turn ∷ h) q ≡ printer_of c base h q
turned_other c base h p sheet turn q ne = elim (test p q) [ inl s ↦ absurd (ne (sym s.0)) | inr s ↦ rw s.1 refl ]

turned_here : {C : Type 0} (c : Config) (base : Base) (h : List (Event C)) (p : ℕ) (sheet : Sheet C) (turn : Turn) (b : Bool) → (p == p) ≡ b → printer_of c base (AtPrinter p sheet turn ∷ h) p ≡ printer_turned sheet turn (printer_of c base h p)
turned_here c base h p sheet Handed true e = rw e refl
turned_here c base h p sheet _ true e = rw e refl
turned_here c base h p sheet turn false e = absurd (grind (arith, nat_tests))

pub printers_turned : {C : Type 0} (c : Config) (base : Base) (h : List (Event C)) (p : ℕ) (sheet : Sheet C) (turn : Turn) → 1 ≤ p → p ≤ printer_count c → (now c base (AtPrinter p sheet turn ∷ h)).printers ≡ printers_after (AtPrinter p sheet turn) (now c base h)
printers_turned {C} c base h p sheet turn one le =
    let e : suc (p - 1) ≡ p = omega arith in
    let here : printer_of c base (AtPrinter p sheet turn ∷ h) (suc (p - 1)) ≡ printer_turned sheet turn (printer_at (now c base h) p) =
    ap (printer_of c base (AtPrinter p sheet turn ∷ h)) e ∙ (turned_here c base h p sheet turn (p == p) refl ∙ ap (printer_turned sheet turn) (sym (at_printer c base h p one le))) in
    set_up_to (printer_of c base h) (printer_of c base (AtPrinter p sheet turn ∷ h)) (printer_count c) (p - 1) (printer_turned sheet turn (printer_at (now c base h) p)) (omega arith) here
    (λ q ne. turned_other c base h p sheet turn q (λ same. ne (same ∙ sym e)))

-- the start of a queue
abbrev start : {C : Type 0} → ℕ → Printer C → Printer C
start q p = cond (p.queue == q) (record p { stopped = false }) p

started_one : {C : Type 0} (c : Config) (base : Base) (h : List (Event C)) (q p : ℕ) → printer_of c base (Started q ∷ h) p ≡ start q (printer_of c base h p)
started_one c base h q p = elim (test q (queue_of c p)) [
  | inl s ↦ elim (test (queue_of c p) q) [ inl t ↦ rw (s.1, t.1) refl | inr t ↦ absurd (t.0 (sym s.0)) ]
  | inr s ↦ elim (test (queue_of c p) q) [ inl t ↦ absurd (s.0 (sym t.0)) | inr t ↦ rw (s.1, t.1) refl ]
]

pub map_twice : {X Y Z : Type 0} (f : X → Y) (g : Y → Z) (k : X → Z) (xs : List X) → ((x : X) → k x ≡ g (f x)) → map k xs ≡ map g (map f xs)
map_twice f g k [] e = refl
map_twice f g k (x ∷ xs) e = cc (e x, map_twice f g k xs e)

pub printers_started : {C : Type 0} (c : Config) (base : Base) (h : List (Event C)) (q : ℕ) → (now c base (Started q ∷ h)).printers ≡ printers_after (Started q) (now c base h)
printers_started {C} c base h q = map_twice (printer_of c base h) (start q) (printer_of c base (Started q ∷ h)) (up_to (printer_count c)) (started_one c base h q)
