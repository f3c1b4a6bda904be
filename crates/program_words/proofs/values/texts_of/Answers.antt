use Rattle.std.proofs.Common.{◌∙◌}
use Rattle.clap.specs.Words.{found_of}
use Rattle.clap.proofs.WalkLemmas.{raw_values-rows}
use Rattle.program_words.proofs.AskedLemmas.{no_texts, texts_read}
use Rattle.program_words.proofs.values.texts_of.Goals as goal

pub returns-clause-texts : goal.returns-clause-texts
returns-clause-texts c =
    rw c.ok_or.ensures.value
    (texts_read c.get_strs.result _ (c.get_strs.ensures ∙ raw_values-rows (found_of c.args.matches.now) c.args.id.now))

pub returns-clause-fault : goal.returns-clause-fault
returns-clause-fault c =
    rw c.ok_or.ensures.value
    (no_texts c.get_strs.result _ (c.get_strs.ensures ∙ raw_values-rows (found_of c.args.matches.now) c.args.id.now))
