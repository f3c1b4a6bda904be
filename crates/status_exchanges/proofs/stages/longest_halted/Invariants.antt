use Rattle.std.proofs.Common.{◌≡◌, Some, MatchOption, slice_get, true}
use Rattle.status_exchanges.specs.declared.stages.ExchangeStanding.{ExchangeStanding}
use Rattle.status_exchanges.specs.Stages.{IsNobodyAt, IsNobodyBefore, counts_as}
use Rattle.status_exchanges.proofs.stages.longest_halted.Given as goal

abbrev pub invariant-loop-at : goal.invariant-loop-at
invariant-loop-at l = MatchOption l.longest (IsNobodyAt l.stage l.standings l.at) (λ f. (standing : ExchangeStanding) × (slice_get l.standings f.0 ≡ Some standing) × (counts_as l.stage standing ≡ true) × (standing.moved_ms ≡ f.1) × IsNobodyBefore l.stage l.standings l.at f.1)
