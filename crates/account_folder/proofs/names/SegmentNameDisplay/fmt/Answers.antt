use Rattle.account_folder.proofs.NameLemmas.{padded}
use Rattle.account_folder.proofs.names.SegmentNameDisplay.fmt.Goals as goal

pub returns-clause-writes : goal.returns-clause-writes
returns-clause-writes g c = λ plain ok. rw (← padded c.args.self.now.number) (rw c.laid_out.ensures at c.write.ensures.writes plain ok)
