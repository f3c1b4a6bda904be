-- An amount for pages and one for each queue's printers.
use Rattle.std.proofs.Common.{inl, inr, ◌≡◌, ◌==◌, ℕ, suc, ◌-◌, ◌<◌, Bool, true, false, List, ◌∷◌, length, get_or, set, map, sym, ◌∙◌, ap, arith}
use Rattle.std.specs.Prelude.{cond}
use Rattle.std.proofs.lemmas.List.{ext_get_or, length-set, get_or-set_same, get_or-set_other}
use Rattle.std.proofs.lemmas.Bool.Decides.{nat_tests}
use Rattle.counts.specs.Amounts.{amount}
use Rattle.config_values.specs.Config.{Config, IsQueue}
use Rattle.spool_history.specs.Now.{amounts, up_to}
use Rattle.spool_laws.proofs.Known.{test}
use Rattle.spool_laws.proofs.Adding.{length_up_to}
use Rattle.spool_laws.proofs.Printers.{get_up_to}

-- m for the queue q and 0 for all others, of n queues
abbrev one_queue : (q m n : ℕ) → List ℕ
one_queue q m n = map {A = ℕ} {B = ℕ} (λ (r : ℕ). cond (r == q) m 0) (up_to n)

-- what it has for each queue
one_at : (q m n i : ℕ) (b : Bool) → i < n → (suc i == q) ≡ b → get_or (one_queue q m n) i 0 ≡ cond b m 0
one_at q m n i b lt e = get_up_to (λ (r : ℕ). cond (r == q) m 0) n i 0 lt ∙ ap (λ (t : Bool). cond t m 0) e

-- the same list with another amount for the queue
other_up_to : (q m o n d : ℕ) → suc d ≡ q → d < n → set (one_queue q m n) d o ≡ one_queue q o n
other_up_to q m o n d e lt =
    let lm : length (one_queue q m n) ≡ n = length_up_to (λ (r : ℕ). cond (r == q) m 0) n in
    let lo : length (one_queue q o n) ≡ n = length_up_to (λ (r : ℕ). cond (r == q) o 0) n in
    let ls : length (set (one_queue q m n) d o) ≡ n = length-set (one_queue q m n) d o ∙ lm in
    ext_get_or 0 (set (one_queue q m n) d o) (one_queue q o n) (ls ∙ sym lo) (λ i less. (
    let lt' : i < n = omega arith in
    elim (test i d) [
      | inl s ↦
          let b : (suc i == q) ≡ true = (let w = s.0 in grind (arith, nat_tests)) in
          let there : d < length (one_queue q m n) = omega arith in
          ap (λ (j : ℕ). get_or (set (one_queue q m n) d o) j 0) s.0 ∙ (get_or-set_same (one_queue q m n) d o 0 there ∙ sym (one_at q o n i true lt' b))
      | inr s ↦
          let b : (suc i == q) ≡ false = (let w = s.0 in grind (arith, nat_tests)) in
          get_or-set_other (one_queue q m n) d i o 0 s.0 ∙ (one_at q m n i false lt' b ∙ sym (one_at q o n i false lt' b))
    ]))

-- another amount for the printers of the queue
pub set_kind : (c : Config) (p q m o : ℕ) → IsQueue c q → set (amounts c p q m) q o ≡ amounts c p q o
set_kind c p q m o is =
    let e : suc (q - 1) ≡ q = omega (arith, is.0) in
    ap (λ (j : ℕ). set (amounts c p q m) j o) (sym e) ∙ ap (λ (l : List ℕ). p ∷ l) (other_up_to q m o (length c.queues) (q - 1) e (omega (arith, is.0, is.1)))

-- the amount for the printers of the queue
pub kind_of : (c : Config) (p q m : ℕ) → IsQueue c q → amount (amounts c p q m) q ≡ m
kind_of c p q m is =
    let e : suc (q - 1) ≡ q = omega (arith, is.0) in
    let t : (suc (q - 1) == q) ≡ true = grind (arith, nat_tests) in
    ap (amount (amounts c p q m)) (sym e) ∙ one_at q m (length c.queues) (q - 1) true (omega (arith, is.0, is.1)) t
