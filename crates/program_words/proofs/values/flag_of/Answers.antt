use Rattle.std.proofs.Common.{◌∙◌}
use Rattle.clap.specs.Words.{found_of}
use Rattle.clap.proofs.WalkLemmas.{one_text-rows}
use Rattle.program_words.proofs.values.flag_of.Goals as goal

pub returns : goal.returns
returns c =
    let same = one_text-rows (found_of c.args.matches.now) c.args.id.now in (
      λ none. c.get_flag.ensures.none (same ∙ none),
      λ value. c.get_flag.ensures.value (same ∙ value),
      λ other. c.get_flag.ensures.other (same ∙ other),
    )
