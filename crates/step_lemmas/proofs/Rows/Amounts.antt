-- An amount for pages and one for each queue's printers, and the row of a job made of them.
use Rattle.std.proofs.Common.{inl, inr, ◌≡◌, ◌==◌, ℕ, suc, ◌-◌, ◌<◌, Bool, true, false, List, ◌∷◌, length, get_or, set, map, sym, ◌∙◌, ap, arith}
use Rattle.std.specs.Prelude.{cond}
use Rattle.std.proofs.lemmas.List.{ext_get_or, length-set, length-map, get_or-set_same, get_or-set_other}
use Rattle.std.proofs.lemmas.Bool.Decides.{nat_tests}
use Rattle.counts.specs.Amounts.{amount}
use Rattle.claims.specs.declared.row.Row.{Row}
use Rattle.claims.specs.Changes.{row_with}
use Rattle.config_values.specs.Config.{Config, Queue, IsQueue}
use Rattle.spool_history.specs.Now.{Job, amounts, capacity, up_to, row_of, pages_held, pages_needed, printers_held, printers_needed}
use Rattle.spool_laws.proofs.Known.{test}
use Rattle.spool_laws.proofs.Adding.{length_up_to}
use Rattle.spool_laws.proofs.Printers.{get_up_to}
use Rattle.step_lemmas.proofs.Rows.Tables.{ended_row}

-- m for the queue q and 0 for all others, of n queues
abbrev one_queue : (q m n : ℕ) → List ℕ
one_queue q m n = map {A = ℕ} {B = ℕ} (λ (r : ℕ). cond (r == q) m 0) (up_to n)

-- what it has for each queue
one_at : (q m n i : ℕ) (b : Bool) → i < n → (suc i == q) ≡ b → get_or (one_queue q m n) i 0 ≡ cond b m 0
one_at q m n i b lt e = get_up_to (λ (r : ℕ). cond (r == q) m 0) n i 0 lt ∙ ap (λ (t : Bool). cond t m 0) e

-- the same list with another amount for the queue
other_up_to : (q m o n d : ℕ) → suc d ≡ q → d < n → set (one_queue q m n) d o ≡ one_queue q o n
other_up_to q m o n d e lt =
    let lm : length (one_queue q m n) ≡ n = length_up_to (λ (r : ℕ). cond (r == q) m 0) n in
    let lo : length (one_queue q o n) ≡ n = length_up_to (λ (r : ℕ). cond (r == q) o 0) n in
    let ls : length (set (one_queue q m n) d o) ≡ n = length-set (one_queue q m n) d o ∙ lm in
    ext_get_or 0 (set (one_queue q m n) d o) (one_queue q o n) (ls ∙ sym lo) (λ i less. (
    let lt' : i < n = omega arith in
    elim (test i d) [
      | inl s ↦
          let b : (suc i == q) ≡ true = (let w = s.0 in grind (arith, nat_tests)) in
          let there : d < length (one_queue q m n) = omega arith in
          ap (λ (j : ℕ). get_or (set (one_queue q m n) d o) j 0) s.0 ∙ (get_or-set_same (one_queue q m n) d o 0 there ∙ sym (one_at q o n i true lt' b))
      | inr s ↦
          let b : (suc i == q) ≡ false = (let w = s.0 in grind (arith, nat_tests)) in
          get_or-set_other (one_queue q m n) d i o 0 s.0 ∙ (one_at q m n i false lt' b ∙ sym (one_at q o n i false lt' b))
    ]))

-- another amount for the printers of the queue
pub set_kind : (c : Config) (p q m o : ℕ) → IsQueue c q → set (amounts c p q m) q o ≡ amounts c p q o
set_kind c p q m o is =
    let e : suc (q - 1) ≡ q = omega (arith, is.0) in
    ap (λ (j : ℕ). set (amounts c p q m) j o) (sym e) ∙ ap (λ (l : List ℕ). p ∷ l) (other_up_to q m o (length c.queues) (q - 1) e (omega (arith, is.0, is.1)))

-- the amount for the printers of the queue
pub kind_of : (c : Config) (p q m : ℕ) → IsQueue c q → amount (amounts c p q m) q ≡ m
kind_of c p q m is =
    let e : suc (q - 1) ≡ q = omega (arith, is.0) in
    let t : (suc (q - 1) == q) ≡ true = grind (arith, nat_tests) in
    ap (amount (amounts c p q m)) (sym e) ∙ one_at q m (length c.queues) (q - 1) true (omega (arith, is.0, is.1)) t

-- pages are a kind
pub pages_kind : (c : Config) → 0 < length (capacity c)
pages_kind c = omega arith

-- the printers of each queue are a kind
pub queue_kind : (c : Config) (q : ℕ) → IsQueue c q → q < length (capacity c)
queue_kind c q is = omega (arith, is.1, length-map c.queues (λ (r : Queue). r.printers))

-- and not the first, which are the pages
pub queue_later : (c : Config) (q : ℕ) → IsQueue c q → 0 < q
queue_later c q is = (let a = is.0 in omega arith)

-- a row of a job that holds and needs so many pages and printers of its queue
abbrev pub row_with_amounts : {C : Type 0} → Config → Job C → (pages printers pages' printers' : ℕ) → Row
row_with_amounts c x pages printers pages' printers' =
    record { number = x.number; sender = x.sender; queue = x.queue; held = amounts c pages x.queue printers; need = amounts c pages' x.queue printers' }

-- a job's row is the one of what it holds and needs
pub row_is : {C : Type 0} (c : Config) (x : Job C) (pages printers pages' printers' : ℕ) → pages_held x ≡ pages → printers_held x ≡ printers → pages_needed c x ≡ pages' → printers_needed x ≡ printers'
    → row_of c x ≡ row_with_amounts c x pages printers pages' printers'
row_is c x pages printers pages' printers' a b d e i = row_with_amounts c x (a i) (b i) (d i) (e i)

-- jobs of one number, sender and queue that hold and need the same have the same row
pub row_same : {C : Type 0} (c : Config) (x y : Job C) → y.number ≡ x.number → y.sender ≡ x.sender → y.queue ≡ x.queue
    → pages_held y ≡ pages_held x → printers_held y ≡ printers_held x → pages_needed c y ≡ pages_needed c x → printers_needed y ≡ printers_needed x
    → row_of c y ≡ row_of c x
row_same c x y n s q a b d e i = record { number = n i; sender = s i; queue = q i; held = amounts c (a i) (q i) (b i); need = amounts c (d i) (q i) (e i) }

-- a row that needs no more printers
pub ended_printers : {C : Type 0} (c : Config) (x : Job C) (p m p' m' : ℕ) → IsQueue c x.queue → ended_row x.queue (row_with_amounts c x p m p' m') ≡ row_with_amounts c x p m p' 0
ended_printers c x p m p' m' is = ap (λ (l : List ℕ). row_with (amounts c p x.queue m) l (row_with_amounts c x p m p' m')) (set_kind c p' x.queue m' 0 is)
