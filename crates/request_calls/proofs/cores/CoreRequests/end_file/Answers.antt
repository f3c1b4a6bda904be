use Rattle.request_calls.proofs.Answers.{end_carried}
use Rattle.request_calls.proofs.cores.CoreRequests.end_file.Goals as goal

pub returns : goal.returns
returns c sender = end_carried c.end_file.result c.end_file.ensures.config c.end_file.ensures.answer
