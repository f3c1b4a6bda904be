-- What a reader that allocates may answer.
use Rattle.std.specs.Prelude.{◌≡◌, ◌⊎◌, Result, Ok, Err, IsOk, MatchResult}
use Rattle.lpd_values.specs.declared.refusal.Refusal.{Refusal}
use Rattle.lpd_values.specs.declared.refusal.Refusal.TheVariants.{Memory}

-- a reader gives the answer that is due, but for want of memory where a value is due
abbrev pub Gives : {A : Type 0} → Result A Refusal → Result A Refusal → Type 0
Gives result due =
    MatchResult result (λ v. due ≡ Ok v) (λ e. (due ≡ Err e) ⊎ ((e ≡ Memory) × IsOk due))
