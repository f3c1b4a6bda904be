use Rattle.std.proofs.Common.{◌≡◌, ◌++◌, take}
use Rattle.lpd_commands.specs.Written.{spaced}
use Rattle.lpd_commands.proofs.write.put_words.Given as goal

abbrev pub invariant-loop-word : goal.invariant-loop-word
invariant-loop-word l = l.line.items ≡ l.initial.line.items ++ spaced (take l.word-index l.word-items)
