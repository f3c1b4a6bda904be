use Rattle.std.proofs.Common.{length}
use Rattle.history_reader.proofs.received.+is_open_in.Given as goal

abbrev pub decreases-is_open_in : goal.decreases-is_open_in
decreases-is_open_in l = length l.files.now
