use Rattle.page_chain.proofs.Seen.{names_shown}
use Rattle.page_chain.proofs.laws.shows_names.Goals as goal

pub returns : goal.returns
returns c = λ own nodes. names_shown nodes own.row own.prints own.turned 0 own.files
