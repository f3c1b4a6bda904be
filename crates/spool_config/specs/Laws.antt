-- What holds of the texts of configurations.
use Rattle.std.specs.Prelude.{◌≡◌, List, ℕ, None}
use Rattle.config_values.specs.Config as C
use Rattle.spool_config.specs.Answers.{fault_of, GivesConfig}

-- a text without a fault gives one configuration, and one with a fault gives none
pub record IsDecided (text : List ℕ) : Type 0 where
  pub some : fault_of text ≡ None → (c : C.Config) × GivesConfig text c
  pub one : (a b : C.Config) → GivesConfig text a → GivesConfig text b → a ≡ b
  pub sound : (c : C.Config) → GivesConfig text c → fault_of text ≡ None
