use Rattle.request_calls.proofs.Answers.{removal_carried}
use Rattle.request_calls.proofs.cores.CoreRequests.remove.Goals as goal

pub returns : goal.returns
returns c sender job = removal_carried c.args.queue.now c.args.agent.now c.args.list.now c.remove.result c.remove.ensures.config c.remove.ensures.answer
