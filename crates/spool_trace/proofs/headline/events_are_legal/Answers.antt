use Rattle.spool_trace.proofs.Legal.{legal, outlined}
use Rattle.spool_trace.proofs.headline.events_are_legal.Goals as goal

pub returns-clause-events : goal.returns-clause-events
returns-clause-events c = legal

pub returns-clause-outline : goal.returns-clause-outline
returns-clause-outline c = outlined
