use Rattle.spool_requests.proofs.OneAnswer as O
use Rattle.spool_requests.proofs.agree.answers_agree.Goals as goal

pub returns : goal.returns
returns c = O.answers_agree
