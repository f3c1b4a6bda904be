use Rattle.std.proofs.Common.{refl}
use Rattle.account.specs.Seen.{octets}
use Rattle.spool_laws.proofs.OutlinedMay.{outline_legal}
use Rattle.spool_calls.specs.Looks.{outline_of, size}
use Rattle.spool_calls.specs.Looks.Detail.{Octets}
use Rattle.locked_spool.proofs.laws.accounts_are_outlines.Goals as goal

pub returns : goal.returns
returns c = λ config b h l. outline_legal outline_of (size Octets) octets (λ page. refl) config b h l
