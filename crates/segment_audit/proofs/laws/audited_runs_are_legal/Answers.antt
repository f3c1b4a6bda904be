use Rattle.segment_audit.proofs.Lawful.{legal}
use Rattle.segment_audit.proofs.laws.audited_runs_are_legal.Goals as goal

pub returns : goal.returns
returns c = legal c.wider_is_legal.ensures
