use Rattle.spool_laws.proofs.OutlinedMay.{outline_legal}
use Rattle.spool_laws.proofs.outline.outline_is_legal.Goals as goal

pub returns : goal.returns
returns g c = outline_legal
