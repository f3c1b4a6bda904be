use Rattle.request_calls.proofs.Answers.{open_carried}
use Rattle.request_calls.proofs.cores.CoreRequests.open.Goals as goal

pub returns : goal.returns
returns c job = open_carried c.args.queue.now c.open.result c.open.ensures.config c.open.ensures.answer
