use Rattle.page_chain.proofs.Calls.{others_stay}
use Rattle.page_chain.proofs.laws.others_stay.Goals as goal

pub returns : goal.returns
returns c = others_stay
