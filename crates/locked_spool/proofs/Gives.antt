-- How much a trim gives back.
use Rattle.std.proofs.Common.{◌⊎◌, inl, inr, ◌≡◌, ℕ, ◌+◌, ◌-◌, ◌≤◌, ap, arith}
use Rattle.config_values.specs.Config.{Config}
use Rattle.spool_laws.specs.Freeing.{wider}
use Rattle.std.proofs.lemmas.Bool.{cases_lt}

pub gave : (reserved freed still counted more : ℕ) → counted ≡ reserved - freed → freed ≤ reserved → more ≡ counted - still
    → (reserved ≡ more + freed + still) ⊎ ((more ≡ 0) × (reserved ≤ freed + still))
gave reserved freed still counted more e le m = elim (cases_lt counted still) [
  | inl x ↦ inr (omega arith, omega arith)
  | inr y ↦ inl (omega arith)
]

-- where nothing was given back, the account is as it was made
pub none_wider : (c : Config) → wider 0 c ≡ c
none_wider c = ap (λ (n : ℕ). record c { account = n }) (let z : 0 + c.account ≡ c.account = omega arith in z)
