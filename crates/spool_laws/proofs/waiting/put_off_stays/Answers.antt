use Rattle.spool_laws.proofs.PutOff.{put_off_stays}
use Rattle.spool_laws.proofs.waiting.put_off_stays.Goals as goal

pub returns : goal.returns
returns g c = put_off_stays
