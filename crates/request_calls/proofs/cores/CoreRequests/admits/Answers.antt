use Rattle.std.proofs.Common.{refl}
use Rattle.request_calls.proofs.Answers.{queue_carried}
use Rattle.request_calls.proofs.cores.CoreRequests.admits.Goals as goal

pub returns : goal.returns
returns c sender job = queue_carried c.args.queue.now c.admits.result refl c.admits.ensures
