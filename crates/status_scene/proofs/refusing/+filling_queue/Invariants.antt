use Rattle.std.proofs.Common.{length}
use Rattle.status_scene.proofs.refusing.+filling_queue.Given as goal

abbrev pub decreases-filling_queue : goal.decreases-filling_queue
decreases-filling_queue l = length l.rows.now
