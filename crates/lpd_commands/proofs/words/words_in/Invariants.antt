use Rattle.std.proofs.Common.{◌≡◌, ◌++◌, length}
use Rattle.lpd_commands.specs.Line.{words_of}
use Rattle.lpd_commands.proofs.words.words_in.Given as goal

abbrev pub invariant-loop-word : goal.invariant-loop-word
invariant-loop-word l = l.words ++ words_of l.rest ≡ words_of l.text

abbrev pub decreases-loop-word : goal.decreases-loop-word
decreases-loop-word l = length l.rest
