use Rattle.spool_requests.proofs.Aborts.{abort_decided}
use Rattle.spool_requests.proofs.decided.abort_is_decided.Goals as goal

pub returns : goal.returns
returns g c = abort_decided
