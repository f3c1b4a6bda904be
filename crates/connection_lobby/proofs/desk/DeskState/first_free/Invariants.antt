use Rattle.connection_lobby.specs.Desk.{IsFreeFor, IsNoneFree}
use Rattle.connection_lobby.proofs.desk.DeskState.first_free.Given as goal

abbrev pub invariant-loop-at : goal.invariant-loop-at
invariant-loop-at l = IsNoneFree (IsFreeFor l.self) l.waiting.items l.at
