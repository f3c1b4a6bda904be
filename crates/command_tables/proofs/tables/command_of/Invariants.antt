use Rattle.std.proofs.Common.{map, take}
use Rattle.clap.specs.Words.{new_app}
use Rattle.command_tables.specs.Rules.{IsCommand, with_rules, word_rule}
use Rattle.command_tables.proofs.tables.command_of.Given as goal

abbrev pub invariant-loop-word : goal.invariant-loop-word
invariant-loop-word l = IsCommand l.command (with_rules (new_app l.table.name.now) (map word_rule (take l.word-index l.table.words.now)))
