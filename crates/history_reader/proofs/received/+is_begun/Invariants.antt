use Rattle.std.proofs.Common.{length}
use Rattle.history_reader.proofs.received.+is_begun.Given as goal

abbrev pub decreases-is_begun : goal.decreases-is_begun
decreases-is_begun l = length l.files.now
