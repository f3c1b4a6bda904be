use Rattle.html_page.proofs.TokenLemmas.{page_read}
use Rattle.html_page.proofs.laws.a_page_is_read_as_its_parts.Goals as goal

pub returns : goal.returns
returns c = page_read
