-- A stopped printer of a queue.
use Rattle.std.specs.Prelude.{ℕ, ◌+◌, ◌<◌, List, ◌∷◌, slice_index_or}
use Rattle.spool_history.specs.Now.{Printer}
use Rattle.spool_history.specs.Next.{no_printer}
use Rattle.spool_history.specs.Legal.{IsStoppedFor}

-- one of the printers up to this number serves this queue and is stopped
abbrev pub HasStopped : {C : Type 0} → List (Printer C) → ℕ → ℕ → Type 0
HasStopped printers count q = (before : ℕ) × (before < count) × IsStoppedFor q (slice_index_or (no_printer ∷ printers) (before + 1) no_printer)
