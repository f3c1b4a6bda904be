use Rattle.spool_requests.proofs.Puts.{put_decided, end_decided}
use Rattle.spool_requests.proofs.decided.puts_are_decided.Goals as goal

pub returns-clause-put : goal.returns-clause-put
returns-clause-put g c = put_decided

pub returns-clause-end : goal.returns-clause-end
returns-clause-end g c = end_decided
