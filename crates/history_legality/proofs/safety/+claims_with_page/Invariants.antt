use Rattle.std.proofs.Common.{length}
use Rattle.history_legality.proofs.safety.+claims_with_page.Given as goal

abbrev pub decreases-claims_with_page : goal.decreases-claims_with_page
decreases-claims_with_page l = length l.jobs.now
