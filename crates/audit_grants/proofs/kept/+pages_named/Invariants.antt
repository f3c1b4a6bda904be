use Rattle.std.proofs.Common.{length}
use Rattle.audit_grants.proofs.kept.+pages_named.Given as goal

abbrev pub decreases-pages_named : goal.decreases-pages_named
decreases-pages_named l = length l.files.now
