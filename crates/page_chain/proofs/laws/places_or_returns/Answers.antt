use Rattle.page_chain.proofs.Counting.{returns_of_these}
use Rattle.page_chain.proofs.Returning.{stays_or_returns, each_has_place}
use Rattle.page_chain.proofs.laws.places_or_returns.Goals as goal

pub returns-clause-stays_or_returns : goal.returns-clause-stays_or_returns
returns-clause-stays_or_returns c = stays_or_returns

pub returns-clause-each_has_place : goal.returns-clause-each_has_place
returns-clause-each_has_place c = each_has_place

pub returns-clause-of_these : goal.returns-clause-of_these
returns-clause-of_these c = returns_of_these
