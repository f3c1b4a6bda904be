use Rattle.std.proofs.Common.{◌≡◌, take}
use Rattle.connection_lobby.specs.Desk.{of_host}
use Rattle.connection_lobby.proofs.desk.place_of.Given as goal

abbrev pub invariant-loop-at : goal.invariant-loop-at
invariant-loop-at l = of_host l.host (take l.at l.hosts) ≡ 0
