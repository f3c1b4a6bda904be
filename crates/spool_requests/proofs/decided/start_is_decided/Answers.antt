use Rattle.spool_requests.proofs.Starts.{start_decided}
use Rattle.spool_requests.proofs.decided.start_is_decided.Goals as goal

pub returns : goal.returns
returns g c = start_decided
