-- Which jobs a list of words chooses, for the state of a queue and for a removal, where a history leaves a spool.
use Rattle.std.specs.Prelude.{ℕ, List}
use Rattle.lpd_values.specs.Choice as C
use Rattle.spool_history.specs.Now.{Job, State}
use Rattle.spool_history.specs.Told.{told_of}

abbrev pub listed : {C : Type 0} → State C → ℕ → List (Job C)
listed v q = C.listed told_of q v.jobs

abbrev pub chosen : {C : Type 0} → State C → ℕ → List ℕ → List (List ℕ) → List (Job C)
chosen v q agent list = C.chosen told_of q agent list v.jobs
