use Rattle.std.proofs.Common.{refl}
use Rattle.std.specs.Fmt.{digits}
use Rattle.lone_jobs.proofs.SmallRoom.{room}
use Rattle.lone_jobs.proofs.worked.worked_room.Goals as goal

pub returns : goal.returns
unfolding digits
returns c = record { octets = refl; pages = refl; room = room }
