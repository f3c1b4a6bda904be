-- How many pages a count of octets takes.
use Rattle.std.proofs.Common.{◌≡◌, ◌⊎◌, ℕ, suc, ◌+◌, ◌-◌, ◌*◌, ◌<◌, ◌≤◌, min, refl, sym, ap, ◌∙◌, inl, inr, arith}
use Rattle.std.proofs.Math.Nat.{div-mul-le_self}
use Rattle.spool_history.specs.Legal.{pages_for}
use Rattle.step_lemmas.proofs.HeldJobs.Files.{none_left_is_all, all_is_none_left}

pub no_pages : (z : ℕ) → 1 ≤ z → pages_for z 0 ≡ 0
no_pages z one = sym (none_left_is_all z 0 0 one (omega arith) (omega arith))

-- no page is one too many
not_too_many : (z count : ℕ) → 1 ≤ z → pages_for z count * z < count + z
not_too_many z count one = (let e = div-mul-le_self (count + (z - 1)) z in omega (arith, e))

-- where a whole page is taken, and where the rest is
page_taken : (z count : ℕ) → 1 ≤ z → z ≤ count → suc (pages_for z (count - z)) ≡ pages_for z count
page_taken z count one full =
    let k : ℕ = pages_for z (count - z) in
    let less : k * z < (count - z) + z = not_too_many z (count - z) one in
    let enough : count - z ≤ k * z = all_is_none_left z k (count - z) one refl in
    none_left_is_all z (suc k) count one (omega (arith, less)) (omega (arith, enough))

rest_taken : (z count : ℕ) → 1 ≤ z → 0 < count → count ≤ z → 1 ≡ pages_for z count
rest_taken z count one some few = none_left_is_all z 1 count one (omega arith) (omega arith)

by_size : (z count : ℕ) → (z ≤ count) ⊎ (count < z)
by_size z count = grind arith

pub one_page_more : (z count : ℕ) → 1 ≤ z → 0 < count → suc (pages_for z (count - min z count)) ≡ pages_for z count
one_page_more z count one some = elim (by_size z count) [
  | inl full ↦
      let m : min z count ≡ z = omega arith in
      ap (λ (n : ℕ). suc (pages_for z (count - n))) m ∙ page_taken z count one full
  | inr few ↦
      let m : count - min z count ≡ 0 = omega arith in
      ap (λ (n : ℕ). suc (pages_for z n)) m ∙ (ap suc (no_pages z one) ∙ rest_taken z count one some (omega arith))
]
