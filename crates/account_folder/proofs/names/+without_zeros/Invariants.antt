use Rattle.std.proofs.Common.{length}
use Rattle.account_folder.proofs.names.+without_zeros.Given as goal

-- proposed from what the function passes where it calls itself
abbrev pub decreases-without_zeros : goal.decreases-without_zeros
decreases-without_zeros l = length l.digits.now
