use Rattle.spool_laws.proofs.Freeing.{wider_is_legal}
use Rattle.spool_laws.proofs.entries.wider_is_legal.Goals as goal

pub returns : goal.returns
returns g c = wider_is_legal
