use Rattle.locked_spool.proofs.Starting.{one_or_none}
use Rattle.shared_spool.proofs.spool.SharedSpool.start.Goals as goal

pub returns : goal.returns
returns g c = one_or_none c.in_ok-start_telling.field-0 c.args.seat.now c.start_telling.new.seat c.in_ok-start_telling.ensures
