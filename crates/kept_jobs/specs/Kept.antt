-- When a job is kept.
use Rattle.std.specs.Prelude.{◌≡◌, ◌⊎◌, ℕ, List, ◌∷◌, Option, Some, None}
use Rattle.kept_jobs.specs.Folder.{IsNever, IsSeen, Leads, Seen}

-- a job is in hand with these octets so far, and no crash leaves it
pub record IsInHand (seen : Option Seen) (may_leave : Option (List ℕ) → Type 0) (octets : List ℕ) : Type 0 where
  pub told : IsSeen (λ s. s.partial ≡ Some octets) seen
  pub never : IsNever may_leave

-- the job in hand is whole with these octets, and each crash leaves it with exactly these
pub record IsKept (seen : Option Seen) (may_leave : Option (List ℕ) → Type 0) (octets : List ℕ) : Type 0 where
  pub told : IsSeen (λ s. s.whole ≡ Some octets) seen
  pub durable : (c : Option (List ℕ)) → may_leave c → IsSeen (λ s. c ≡ Some octets) seen

-- what a crash leaves while a job is kept: the job with exactly these octets, or none
abbrev pub AllOrNone : Option Seen → List ℕ → Option (List ℕ) → Type 0
AllOrNone seen octets c = IsSeen (λ s. (c ≡ None) ⊎ (c ≡ Some octets)) seen

-- a job with these octets is in hand no more: it was passed on under this number, or left where it has none
abbrev pub LetsOut : (number : Option ℕ) → (octets : List ℕ) → (old new : Option Seen) → Type 0
LetsOut number octets = Leads (λ old new. new.passed ≡ (number, octets) ∷ old.passed)

-- this job was passed on with these octets
abbrev pub Passes : (job : ℕ) → (octets : List ℕ) → (old new : Option Seen) → Type 0
Passes job = LetsOut (Some job)

-- a job with these octets was left: its whole file stays, and nobody is told its job
abbrev pub Leaves : (octets : List ℕ) → (old new : Option Seen) → Type 0
Leaves = LetsOut None
