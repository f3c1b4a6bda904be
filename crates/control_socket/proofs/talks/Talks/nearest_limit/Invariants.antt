use Rattle.control_socket.specs.Talks.{IsNearest}
use Rattle.control_socket.proofs.talks.Talks.nearest_limit.Given as goal

abbrev pub invariant-loop-talk : goal.invariant-loop-talk
invariant-loop-talk l = IsNearest l.self.list.items l.talk-index l.nearest
