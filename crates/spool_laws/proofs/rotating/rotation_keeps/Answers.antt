use Rattle.spool_laws.proofs.Rotated.{keeps, counts, opens}
use Rattle.spool_laws.proofs.rotating.rotation_keeps.Goals as goal

pub returns-clause-keeps : goal.returns-clause-keeps
returns-clause-keeps g c = keeps

pub returns-clause-counts : goal.returns-clause-counts
returns-clause-counts g c = counts

pub returns-clause-opens : goal.returns-clause-opens
returns-clause-opens g c = opens
