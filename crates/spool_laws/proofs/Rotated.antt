-- From the base after a history that leaves no job held the spool is where that history left it.
use Rattle.std.proofs.Common.{◌≡◌, ◌↔◌, ℕ, zero, suc, ◌+◌, ◌<◌, ◌≤◌, ◌^◌, Bool, true, false, List, [], ◌∷◌, ◌++◌, map, refl, sym, ◌∙◌, ap, subst, arith}
use Rattle.std.specs.Prelude.{cond, get_or, Option, Some, None}
use Rattle.std.proofs.lemmas.List.{map-append}
use Rattle.config_values.specs.Config.{Config, IsQueue, printer_count, queue_of, reserve_of}
use Rattle.spool_history.specs.Base.{Base, was_stopped}
use Rattle.spool_history.specs.Events.{Event, Sheet}
use Rattle.spool_history.specs.Said.{openings, out_at, is_stopped_at}
use Rattle.spool_history.specs.Now.{Job, Printer, State, now, job_of, printer_of, up_to}
use Rattle.spool_history.specs.Rotated.{rotated, stopped_in}
use Rattle.spool_history.specs.Legal.{IsLegal, MayOpen}
use Rattle.spool_laws.specs.Reserve.{CountsStops}
use Rattle.spool_laws.specs.Rotating.{recounted}
use Rattle.spool_laws.proofs.Known.{Has, has_kept, held_at}
use Rattle.spool_laws.proofs.Printers.{get_up_to, map_twice}
use Rattle.spool_laws.proofs.Facts.{facts}
use Rattle.spool_laws.proofs.Moves.{out_held, all_same}
use Rattle.spool_laws.proofs.Adding.{sum_map, up_below}
use Rattle.spool_laws.proofs.Reserve.{accepted}
use Rattle.std.proofs.Math.Nat.{add-zero}

-- lists over the numbers from 1 to n
same_up_to : {X : Type 0} (f g : ℕ → X) (n : ℕ) → ((p : ℕ) → 1 ≤ p → p ≤ n → f p ≡ g p) → map f (up_to n) ≡ map g (up_to n)
same_up_to f g zero same = refl
same_up_to {X} f g (suc n) same =
    map-append f (up_to n) (suc n ∷ []) ∙ (ap (λ (l : List X). l ++ f (suc n) ∷ []) (same_up_to f g n (λ p one le. same p one (omega arith)))
    ∙ (ap (λ (x : X). map g (up_to n) ++ x ∷ []) (same (suc n) (omega arith) (omega arith)) ∙ sym (map-append g (up_to n) (suc n ∷ []))))

still_stopped : {C : Type 0} (c : Config) (b : Base) (h : List (Event C)) (p : ℕ) → 1 ≤ p → p ≤ printer_count c → was_stopped (rotated (now c b h)) p ≡ is_stopped_at b h (queue_of c p) p
still_stopped c b h zero one le = absurd (omega arith)
still_stopped {C} c b h (suc p) one le =
    ap (λ (l : List Bool). get_or l p false) (sym (map_twice (printer_of c b h) (λ (x : Printer C). x.stopped) (λ (q : ℕ). is_stopped_at b h (queue_of c q) q) (up_to (printer_count c)) (λ q. refl)))
    ∙ get_up_to (λ (q : ℕ). is_stopped_at b h (queue_of c q) q) (printer_count c) p false le

-- no page is out where no job is held
none_out : {C : Type 0} (size : C → ℕ) (c : Config) (b : Base) (h : List (Event C)) → IsLegal size c b h → (now c b h).jobs ≡ [] → (p : ℕ) (x : Option (Sheet C)) → out_at h p ≡ x → x ≡ None
none_out size c b h l e p None is = refl
none_out {C} size c b h l e p (Some s) is =
    let n = ((facts size c b h l).out p s is).1 in
    let o = accepted size c b h l s.job (omega arith) in
    let held = subst (λ (j : ℕ). held_at h j ≡ true) (sym o.2) (out_held h s.job n) in
    let has = has_kept h o.0 (openings h) held o.1 in
    absurd (subst (λ (jobs : List (Job C)). Has (job_of h o.0) jobs) e has)

printer_kept : {C : Type 0} (size : C → ℕ) (c : Config) (b : Base) (h : List (Event C)) → IsLegal size c b h → (now c b h).jobs ≡ [] → (p : ℕ) → 1 ≤ p → p ≤ printer_count c
    → printer_of c (rotated (now c b h)) [] p ≡ record (printer_of c b h p) { began = None }
printer_kept {C} size c b h l e p one le =
    same_printer (queue_of c p) _ _ _ _ (sym (none_out size c b h l e p (out_at h p) refl)) (still_stopped c b h p one le)
  where
    same_printer : {C : Type 0} (q : ℕ) (o o' : Option (Sheet C)) (s s' : Bool) → o ≡ o' → s ≡ s'
        → ◌≡◌ {A = Printer C} (record { queue = q; out = o; began = None; stopped = s }) (record { queue = q; out = o'; began = None; stopped = s' })
    same_printer q o o' s s' a d = cc (a, d)

pub keeps : {C : Type 0} (size : C → ℕ) (c : Config) (b : Base) (h : List (Event C)) → IsLegal size c b h → (now c b h).jobs ≡ [] → now c (rotated (now c b h)) [] ≡ recounted (now c b h)
keeps {C} size c b h l e =
    let v = now c b h in
    let printers = same_up_to (printer_of c (rotated v) []) (λ (p : ℕ). record (printer_of c b h p) { began = None }) (printer_count c) (printer_kept size c b h l e) in
    let twice = map_twice (printer_of c b h) (λ (x : Printer C). record x { began = None }) (λ (p : ℕ). record (printer_of c b h p) { began = None }) (up_to (printer_count c)) (λ p. refl) in
    all_same c _ _ _ _ _ _ _ _ _ _ (sym e) (add-zero v.accepted) (add-zero (stopped_in v)) (printers ∙ twice) refl

pub counts : {C : Type 0} (c : Config) (b : Base) (h : List (Event C)) → CountsStops c (rotated (now c b h))
counts {C} c b h =
    let all = sum_map (λ (x : Printer C). cond x.stopped 1 0) (printer_of c b h) (up_to (printer_count c)) in
    omega (arith, up_below (λ (p : ℕ). cond (is_stopped_at b h (queue_of c p) p) 1 0) (λ (p : ℕ). cond (was_stopped (rotated (now c b h)) p) 1 0) (printer_count c) (λ p le. each p le))
  where
    each : (p : ℕ) → p ≤ printer_count c → cond (was_stopped (rotated (now c b h)) p) 1 0 ≤ cond (is_stopped_at b h (queue_of c p) p) 1 0
    each zero le = omega arith
    each (suc p) le = omega (arith, ap {B = ℕ} (λ (s : Bool). cond s 1 0) (still_stopped c b h (suc p) (omega arith) le))

pub opens : {C : Type 0} (c : Config) (b : Base) (h : List (Event C)) (j q : ℕ)
    → let v : State C = now c b h in MayOpen (now {C = C} c (rotated v) []) j q
    ↔ (v.closed ≡ false) × IsQueue c q × (0 < c.max_jobs) × (stopped_in v + reserve_of c q + 1 ≤ c.account) × (j ≡ v.accepted + 1) × (j < 2 ^ 64)
opens c b h j q = (
  λ m. (m.0, m.1, m.2, (let room = m.3 in omega arith), (let n = m.4 in omega arith), m.5),
  λ m. (m.0, m.1, m.2, (let room = m.3 in omega arith), (let n = m.4 in omega arith), m.5),
)
