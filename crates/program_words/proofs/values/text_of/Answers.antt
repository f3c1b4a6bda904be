use Rattle.std.proofs.Common.{◌∙◌}
use Rattle.clap.specs.Words.{found_of}
use Rattle.clap.proofs.WalkLemmas.{first_value-rows}
use Rattle.program_words.proofs.AskedLemmas.{no_text, text_read}
use Rattle.program_words.proofs.values.text_of.Goals as goal

pub returns-clause-text : goal.returns-clause-text
returns-clause-text c =
    rw c.ok_or.ensures.value
    (text_read c.get_str.result _ (c.get_str.ensures ∙ first_value-rows (found_of c.args.matches.now) c.args.id.now))

pub returns-clause-fault : goal.returns-clause-fault
returns-clause-fault c =
    rw c.ok_or.ensures.value
    (no_text c.get_str.result _ (c.get_str.ensures ∙ first_value-rows (found_of c.args.matches.now) c.args.id.now))
