use Rattle.std.proofs.Common.{map, take}
use Rattle.std.proofs.lemmas.List.{map_more}
use Rattle.clap.specs.Words.{new_app}
use Rattle.command_tables.specs.Rules.{word_rule}
use Rattle.command_tables.proofs.CommandLemmas.{one_more_word}
use Rattle.command_tables.proofs.tables.command_of.Goals as goal

pub loop-word-preserved : goal.loop-word-preserved
loop-word-preserved c =
    let words = c.args.table.now.words.now in
    let i = c.loop-word.word-index in
    one_more_word c.loop-word.command c.in_ok-command.command c.arg_of.result (new_app c.args.table.now.name.now) (map word_rule (take i words)) _ _
    c.loop-word.invariant c.arg_of.ensures c.in_ok-command.ensures (map_more word_rule words i _ c.loop-word-test.true)
