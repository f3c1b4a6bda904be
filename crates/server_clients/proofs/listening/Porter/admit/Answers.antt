use Rattle.std.proofs.Common.{inl, refl}
use Rattle.server_house.proofs.Rotations.{TellsRotations-none}
use Rattle.server_house.specs.Lines.{TellsRotations}
use Rattle.server_clients.proofs.listening.Porter.admit.Goals as goal

pub rounds-init : goal.rounds-init
rounds-init g c = TellsRotations-none _ _

pub returns-then-not-started : goal.returns-then-not-started
unfolding TellsRotations
returns-then-not-started g c = (tt, refl, inl refl)
