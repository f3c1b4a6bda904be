use Rattle.std.proofs.Common.{length}
use Rattle.printer_sinks.specs.MemoryFiles.{memory_files}
use Rattle.printer_sinks.specs.Files.{IsFree}
use Rattle.printer_sinks.proofs.memory_folder.is_free.Given as goal

-- where the number is free in the rest, it is free in all
abbrev pub invariant-loop-rest : goal.invariant-loop-rest
invariant-loop-rest l = IsFree l.number (memory_files l.rest) → IsFree l.number (memory_files l.fn.files)

abbrev pub decreases-loop-rest : goal.decreases-loop-rest
decreases-loop-rest l = length l.rest
