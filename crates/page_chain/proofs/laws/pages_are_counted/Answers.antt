use Rattle.page_chain.proofs.Counting.{are_counted}
use Rattle.page_chain.proofs.laws.pages_are_counted.Goals as goal

pub returns : goal.returns
returns c = are_counted
