use Rattle.std.proofs.Common.{ℕ, ◌<◌, ◌+◌, ◌∷◌, map}
use Rattle.std.specs.Prelude.{slice_index_or}
use Rattle.spool_history.specs.Next.{no_printer}
use Rattle.spool_history.specs.Legal.{IsStoppedFor}
use Rattle.account.specs.declared.entry.Outline.{Outline}
use Rattle.history_reader.specs.Seen.{printer_seen}
use Rattle.history_legality.proofs.queues.has_stopped.Given as goal

abbrev pub invariant-loop-before : goal.invariant-loop-before
invariant-loop-before l =
    (k : ℕ) → k < l.before → IsStoppedFor l.queue (slice_index_or (no_printer {C = Outline} ∷ map printer_seen l.state.printers.items) (k + 1) no_printer) → ⊥
