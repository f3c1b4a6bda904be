use Rattle.std.proofs.Common.{vec_len}
use Rattle.spool_world.proofs.world.World.drop.Given as goal

abbrev pub decreases-loop-connection : goal.decreases-loop-connection
decreases-loop-connection l = vec_len l.connections

abbrev pub decreases-loop-page : goal.decreases-loop-page
decreases-loop-page l = vec_len l.pages
