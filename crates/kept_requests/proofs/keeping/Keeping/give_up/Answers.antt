use Rattle.std.proofs.Common.{refl}
use Rattle.spool_requests.specs.Follows.{aborted_by}
use Rattle.kept_requests.proofs.keeping.Keeping.give_up.Goals as goal

pub returns-in-Err-clause-aborted : goal.returns-in-Err-clause-aborted
returns-in-Err-clause-aborted g c = λ sender. (aborted_by c.abort.result, c.abort.ensures.carries sender refl)

pub returns-in_default-clause-aborted : goal.returns-in_default-clause-aborted
returns-in_default-clause-aborted g c = λ sender. (aborted_by c.abort.result, c.abort.ensures.carries sender refl)
