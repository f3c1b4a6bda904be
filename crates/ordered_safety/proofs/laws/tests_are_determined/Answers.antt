use Rattle.counts.specs.Amounts.{amount}
use Rattle.ordered_safety.proofs.OneNumber.{one_number, one_of_order, one_after_page}
use Rattle.ordered_safety.proofs.laws.tests_are_determined.Goals as goal

pub returns-clause-decisions : goal.returns-clause-decisions
returns-clause-decisions c = λ t n m x y. one_number (amount t.free) t.rows n m x y

pub returns-clause-orders : goal.returns-clause-orders
returns-clause-orders c = λ t numbers n m is x y. one_of_order (amount t.free) t.rows numbers n m is.rising x y

pub returns-clause-pages : goal.returns-clause-pages
returns-clause-pages c = one_after_page
