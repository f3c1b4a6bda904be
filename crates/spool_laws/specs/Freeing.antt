-- How many entries may still come after a history.
use Rattle.std.specs.Prelude.{ℕ, ◌+◌, ◌≤◌, List, ◌++◌, length, sum_by}
use Rattle.config_values.specs.Config.{Config, reserve_of}
use Rattle.spool_history.specs.Base.{Base}
use Rattle.spool_history.specs.Events.{Event}
use Rattle.spool_history.specs.Now.{Job, State, now}
use Rattle.spool_history.specs.Rotated.{stopped_in}
use Rattle.spool_history.specs.Legal.{IsLegal}

-- the reserves of the held jobs
abbrev pub held_reserve : {C : Type 0} → State C → ℕ
held_reserve {C} v = sum_by (λ (job : Job C). reserve_of v.config job.queue) v.jobs

-- what the held jobs may still add, and one for each stopped printer, because a start may still come for it
abbrev pub still_reserved : {C : Type 0} → State C → ℕ
still_reserved v = held_reserve v + stopped_in v

-- after a history so much of the counted reserve may be given back: the entries that come later don't pass what is counted then
-- less that, and one
abbrev pub MayFree : {C : Type 0} → (C → ℕ) → Config → Base → List (Event C) → ℕ → Type 0
MayFree {C} size c b h n = (later : List (Event C)) → IsLegal size c b (later ++ h) → length later + n ≤ (now c b (later ++ h)).reserved + 1

-- and this is all but what the held jobs and the stopped printers may still add
abbrev pub HeldReserveIsEnough : Type 0 → Type 0
HeldReserveIsEnough C =
    (size : C → ℕ) (c : Config) (b : Base) (h : List (Event C)) (n : ℕ)
    → n + still_reserved (now c b h) ≤ (now c b h).reserved → MayFree size c b h n

-- a configuration whose account may have so many entries more
abbrev pub wider : ℕ → Config → Config
wider n c = record c { account = n + c.account }

-- what is legal stays legal where the account may have more entries
abbrev pub WiderIsLegal : Type 0 → Type 0
WiderIsLegal C =
    (size : C → ℕ) (c : Config) (b : Base) (h : List (Event C)) (n : ℕ) → IsLegal size c b h → IsLegal size (wider n c) b h
