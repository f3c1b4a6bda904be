use Rattle.std.proofs.Common.{refl}
use Rattle.control_socket.proofs.talks.Talks.admit.Goals as goal

pub returns : goal.returns
returns c = (_, c.in_ok-push.ensures.items, (refl, c.accepted-stage.ensures.asking, c.accepted-stage.ensures.until))
