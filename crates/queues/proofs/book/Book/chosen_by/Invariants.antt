use Rattle.std.proofs.Common.{◌≡◌, [], ◌∷◌, take}
use Rattle.std.specs.List.{flat_map}
use Rattle.lpd_values.specs.Choice.{picked}
use Rattle.held_jobs.specs.Told.{told_in}
use Rattle.held_jobs.specs.Turns.{facts_in}
use Rattle.queues.proofs.book.Book.chosen_by.Given as goal

abbrev pub invariant-loop-i : goal.invariant-loop-i
invariant-loop-i l = l.numbers.items ≡ flat_map (λ j. j.number ∷ []) (picked told_in l.queue l.agent l.words (take l.i (facts_in l.self.jobs)))
