-- For how long an exchange may be in a stage, and which has halted longest.
use Rattle.std.specs.Prelude.{◌≡◌, ◌<◌, ◌≤◌, ℕ, Bool, true, false, List, Option, Some, None, length, slice_get}
use Rattle.status_exchanges.specs.declared.stages.ExchangeStage.{ExchangeStage}
use Rattle.status_exchanges.specs.declared.stages.ExchangeStage.TheVariants.{Asking, Answering, Leaving}
use Rattle.status_exchanges.specs.declared.stages.ExchangeStanding.{ExchangeStanding}

-- in milliseconds: for the rest of a head, for an answer, and for what still comes
abbrev pub most_ms : ExchangeStage → ℕ
most_ms Asking = 2000
most_ms Answering = 5000
most_ms Leaving = 800

abbrev pub is_same_stage : ExchangeStage → ExchangeStage → Bool
is_same_stage Asking Asking = true
is_same_stage Asking Answering = false
is_same_stage Asking Leaving = false
is_same_stage Answering Asking = false
is_same_stage Answering Answering = true
is_same_stage Answering Leaving = false
is_same_stage Leaving Asking = false
is_same_stage Leaving Answering = false
is_same_stage Leaving Leaving = true

-- an exchange is in this stage, or any where none is named
abbrev pub counts_as : Option ExchangeStage → ExchangeStanding → Bool
counts_as None standing = true
counts_as (Some stage) standing = is_same_stage standing.stage stage

-- of the first n none counts
abbrev pub IsNobodyAt : Option ExchangeStage → List ExchangeStanding → ℕ → Type 0
IsNobodyAt stage standings n =
    (k : ℕ) (standing : ExchangeStanding) → k < n → slice_get standings k ≡ Some standing → counts_as stage standing ≡ false

-- of the first n, each that counts has moved at this moment or later
abbrev pub IsNobodyBefore : Option ExchangeStage → List ExchangeStanding → ℕ → ℕ → Type 0
IsNobodyBefore stage standings n moved =
    (k : ℕ) (standing : ExchangeStanding) → k < n → slice_get standings k ≡ Some standing → counts_as stage standing ≡ true → moved ≤ standing.moved_ms

-- the exchange at this place counts, and of all that do none has halted longer
abbrev pub IsLongestAt : Option ExchangeStage → List ExchangeStanding → ℕ → Type 0
IsLongestAt stage standings at =
    (standing : ExchangeStanding) × (slice_get standings at ≡ Some standing) × (counts_as stage standing ≡ true)
    × IsNobodyBefore stage standings (length standings) standing.moved_ms
