-- What is read has one meaning or one refusal.
use Rattle.std.specs.Prelude.{◌≡◌, ◌⊎◌}
use Rattle.lpd_values.specs.declared.refusal.Refusal.{Refusal}

-- one meaning or one refusal, and not both
pub record IsDecided {A : Type 0} (Means : A → Type 0) (Refuses : Refusal → Type 0) : Type 0 where
  pub some : ((value : A) × Means value) ⊎ ((refusal : Refusal) × Refuses refusal)
  pub one_meaning : (a b : A) → Means a → Means b → a ≡ b
  pub one_refusal : (a b : Refusal) → Refuses a → Refuses b → a ≡ b
  pub not_both : (value : A) (refusal : Refusal) → Means value → Refuses refusal → ⊥
