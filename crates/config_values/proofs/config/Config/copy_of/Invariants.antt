use Rattle.std.proofs.Common.{◌≡◌, take}
use Rattle.config_values.proofs.config.Config.copy_of.Given as goal

abbrev pub invariant-loop-queue : goal.invariant-loop-queue
invariant-loop-queue l = l.queues.items ≡ take l.queue-index l.config.queues
