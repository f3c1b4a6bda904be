use Rattle.std.proofs.Common.{length}
use Rattle.config_values.proofs.queue.+printers_of.Given as goal

abbrev pub decreases-printers_of : goal.decreases-printers_of
decreases-printers_of l = length l.queues.now
