use Rattle.std.proofs.Common.{length}
use Rattle.status_request.proofs.hosts.+host_count.Given as goal

abbrev pub decreases-host_count : goal.decreases-host_count
decreases-host_count l = length l.fields.now
