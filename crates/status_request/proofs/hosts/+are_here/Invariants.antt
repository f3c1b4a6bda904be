use Rattle.std.proofs.Common.{length}
use Rattle.status_request.proofs.hosts.+are_here.Given as goal

abbrev pub decreases-are_here : goal.decreases-are_here
decreases-are_here l = length l.fields.now
