use Rattle.std.proofs.Common.{length}
use Rattle.status_scene.proofs.refusing.+pages_for.Given as goal

abbrev pub decreases-pages_for : goal.decreases-pages_for
decreases-pages_for l = length l.rows.now
