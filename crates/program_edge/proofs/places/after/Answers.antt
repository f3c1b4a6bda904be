use Rattle.program_edge.proofs.PlaceLemmas.{word_stripped}
use Rattle.program_edge.proofs.places.after.Goals as goal

pub returns : goal.returns
returns c = word_stripped c.args.word.now c.args.text.now c.strip_prefix.result c.strip_prefix.ensures.cases
