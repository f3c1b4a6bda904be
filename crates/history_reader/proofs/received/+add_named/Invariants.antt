use Rattle.std.proofs.Common.{length}
use Rattle.history_reader.proofs.received.+add_named.Given as goal

abbrev pub decreases-add_named : goal.decreases-add_named
decreases-add_named l = length l.files.now
