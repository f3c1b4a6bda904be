use Rattle.segment_audit.proofs.Lawful.{audited}
use Rattle.segment_audit.proofs.laws.audited_segments_are_legal.Goals as goal

pub returns : goal.returns
returns c = audited c.wider_is_legal.ensures
