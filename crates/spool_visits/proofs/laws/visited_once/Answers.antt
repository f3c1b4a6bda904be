use Rattle.spool_visits.proofs.Visited.{by_one, each_once}
use Rattle.spool_visits.proofs.laws.visited_once.Goals as goal

pub returns-clause-each : goal.returns-clause-each
returns-clause-each g c = each_once

pub returns-clause-alone : goal.returns-clause-alone
returns-clause-alone g c = by_one
