use Rattle.std.proofs.Common.{◌∙◌}
use Rattle.clap.specs.Words.{found_of}
use Rattle.clap.proofs.WalkLemmas.{first_value-rows}
use Rattle.program_words.proofs.ServingLemmas.{text_or}
use Rattle.program_words.proofs.values.text_or.Goals as goal

pub returns : goal.returns
returns c =
    rw c.unwrap_or.ensures
    (text_or c.get_str.result _ c.args.other (c.get_str.ensures ∙ first_value-rows (found_of c.args.matches.now) c.args.id.now))
