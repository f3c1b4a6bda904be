-- The first job that passes a test.
use Rattle.std.specs.Prelude.{◌≡◌, ℕ, ◌<◌, Bool, true, false, Option, Some, None, List, length, slice_index_or}

-- the place of the first that does; no_job would stand past the last
abbrev pub FirstOf : {J : Type 0} → (J → Bool) → List J → Option ℕ → Type 0
FirstOf {J} test jobs None = (no_job : J) (k : ℕ) → k < length jobs → test (slice_index_or jobs k no_job) ≡ false
FirstOf {J} test jobs (Some i) =
    (i < length jobs)
    × ((no_job : J) → (test (slice_index_or jobs i no_job) ≡ true) × ((k : ℕ) → k < i → test (slice_index_or jobs k no_job) ≡ false))
