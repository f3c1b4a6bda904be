use Rattle.spool_laws.proofs.Moves.{left_by, moved}
use Rattle.spool_laws.proofs.stepping.step_leads.Goals as goal

pub returns-clause-leads : goal.returns-clause-leads
returns-clause-leads g c = moved

pub returns-clause-keeps : goal.returns-clause-keeps
returns-clause-keeps g c = left_by
