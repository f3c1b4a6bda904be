use Rattle.std.proofs.Common.{vec_len}
use Rattle.html_page.proofs.draft.Draft.into_text.Given as goal

abbrev pub decreases-loop-self : goal.decreases-loop-self
decreases-loop-self l = vec_len l.self.opened
