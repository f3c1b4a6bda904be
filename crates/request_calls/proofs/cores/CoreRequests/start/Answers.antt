use Rattle.request_calls.proofs.Answers.{start_carried}
use Rattle.request_calls.proofs.cores.CoreRequests.start.Goals as goal

pub returns : goal.returns
returns c sender job = start_carried c.args.queue.now c.start.result c.start.ensures.config c.start.ensures.answer
