use Rattle.request_calls.proofs.Answers.{put_carried}
use Rattle.request_calls.proofs.cores.CoreRequests.put.Goals as goal

pub returns-clause-carries : goal.returns-clause-carries
returns-clause-carries c sender = put_carried c.args.page c.put.result c.put.ensures.config c.put.ensures.answer
