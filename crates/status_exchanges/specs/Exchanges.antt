-- How many exchanges there are.
use Rattle.std.specs.Prelude.{◌≡◌, ◌≤◌, ℕ, ◌-◌, nat_lt, if◌then◌else◌}
use Rattle.status_exchanges.specs.declared.exchanges.TheConstants.{MOST_EXCHANGES}

-- of so many the one at this place ends, if there is one
abbrev pub without : ℕ → ℕ → ℕ
without at count = if nat_lt at count then count - 1 else count

-- there are no more than there may be, and of as many it is known how they stand
abbrev pub AreWithin : (count standings : ℕ) → Type 0
AreWithin count standings = (standings ≡ count) × (count ≤ MOST_EXCHANGES)
