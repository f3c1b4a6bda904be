use Rattle.std.proofs.Common.{length}
use Rattle.history_reader.proofs.received.+add_kept.Given as goal

abbrev pub decreases-add_kept : goal.decreases-add_kept
decreases-add_kept l = length l.pages.now
