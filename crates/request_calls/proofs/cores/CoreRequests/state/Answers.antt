use Rattle.std.proofs.Common.{refl}
use Rattle.request_calls.proofs.Answers.{state_carried}
use Rattle.request_calls.proofs.cores.CoreRequests.state.Goals as goal

pub returns : goal.returns
returns c sender job = state_carried c.args.queue.now c.args.list.now c.args.long c.state.result refl c.state.ensures
