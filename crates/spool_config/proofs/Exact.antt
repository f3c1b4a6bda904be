-- An answer that is right is the only one, but for want of memory.
use Rattle.std.proofs.Common.{◌≡◌, ◌≢◌, ◌⊎◌, inl, inr, ℕ, List, Some, None, Result, Ok, Err, IfOk, IfErr, IsErrAnd, MatchResult, refl, sym, ◌∙◌}
use Rattle.std.proofs.lemmas.Option.{same_Some}
use Rattle.config_values.specs.Config as C
use Rattle.spool_config.specs.declared.settings.ConfigFault.{ConfigFault}
use Rattle.spool_config.specs.declared.settings.ConfigFault.TheVariants.{Memory}
use Rattle.spool_config.specs.Answers.{fault_of, GivesConfig}
use Rattle.spool_config.proofs.Sound.{given_has_no_fault, one_given}

abbrev Answer : Type 0
Answer = Result C.Config ConfigFault

abbrev IsFirst : List ℕ → ConfigFault → Type 0
IsFirst text fault = fault ≢ Memory → fault_of text ≡ Some fault

-- a fault is told for want of memory, or is the text's
told : (text : List ℕ) (fault : ConfigFault) → IsFirst text fault → (fault ≡ Memory) ⊎ (fault_of text ≡ Some fault)
told text Memory first = inl refl
told text fault first = inr (first (λ same. cc))

clash : (text : List ℕ) (fault : ConfigFault) (c : C.Config) → fault_of text ≡ Some fault → GivesConfig text c → ⊥
clash text fault c has given = let none : None ≡ Some fault = sym (given_has_no_fault text c given) ∙ has in cc

pub given_exactly : (text : List ℕ) (answer : Answer) → IfOk answer (GivesConfig text) → IfErr answer (IsFirst text)
    → (due : C.Config) → GivesConfig text due → MatchResult answer (λ config. config ≡ due) (λ fault. fault ≡ Memory)
given_exactly text (Ok config) gives first due given = one_given text config due gives given
given_exactly text (Err fault) gives first due given =
    elim (told text fault first) [
      | inl memory ↦ memory
      | inr has ↦ absurd (clash text fault due has given)
    ]

pub faulty_exactly : (text : List ℕ) (answer : Answer) → IfOk answer (GivesConfig text) → IfErr answer (IsFirst text)
    → (due : ConfigFault) → fault_of text ≡ Some due → IsErrAnd answer (λ fault. (fault ≡ Memory) ⊎ (fault ≡ due))
faulty_exactly text (Ok config) gives first due is = absurd (clash text due config is gives)
faulty_exactly text (Err fault) gives first due is =
    elim (told text fault first) [
      | inl memory ↦ inl memory
      | inr has ↦ inr (same_Some fault due (sym has ∙ is))
    ]
