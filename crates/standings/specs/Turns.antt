-- In which turns all held jobs can finish.
use Rattle.std.specs.Prelude.{ℕ, ◌+◌, ◌-◌, ◌^◌, ◌==◌, not, List, [], ◌∷◌, Option, Some, None, find, min, take_while}
use Rattle.claims.specs.declared.row.Row.{Row}
use Rattle.counts.specs.Amounts.{amount}
use Rattle.standings.specs.declared.turns.FinishingTurn.{FinishingTurn}

-- as far as 64 bits count
abbrev pub counted : ℕ → ℕ
counted n = min n (2 ^ 64 - 1)

-- the pages that it holds, and those that it may still ask for
abbrev pub claim_of : FinishingTurn → ℕ
claim_of turn = counted (turn.holds + turn.needs)

-- the row of a job
abbrev pub row_of : List Row → ℕ → Option Row
row_of rows job = find (λ (row : Row). row.number == job) rows

-- the turn of a job with this row, where so many pages are free
abbrev pub turn_of : ℕ → Row → ℕ → FinishingTurn
turn_of free row job = record { job = job; holds = amount row.held 0; needs = amount row.need 0; free = free }

-- Each job in its turn: it finishes, and gives back what it holds. One without a row has no turn.
abbrev pub turns_from : List Row → ℕ → List ℕ → List FinishingTurn
turns_from rows free [] = []
turns_from rows free (job ∷ order) =
    elim (row_of rows job) [ None ↦ turns_from rows free order | Some row ↦ turn_of free row job ∷ turns_from rows (counted (free + amount row.held 0)) order ]

abbrev pub number_of : Option FinishingTurn → Option ℕ
number_of None = None
number_of (Some turn) = Some turn.job

-- Of the turns before a job's the first in which all that is free may be needed: where this job got a page more, that one would lack it.
abbrev pub keeper_before : ℕ → List FinishingTurn → Option ℕ
keeper_before job turns =
    number_of (find (λ (turn : FinishingTurn). turn.needs == turn.free) (take_while (λ (turn : FinishingTurn). not (turn.job == job)) turns))
