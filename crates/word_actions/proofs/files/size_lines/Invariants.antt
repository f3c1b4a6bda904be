use Rattle.std.proofs.Common.{◌≡◌}
use Rattle.word_actions.specs.Sizes.{size_lines}
use Rattle.word_actions.proofs.files.size_lines.Given as goal

abbrev pub invariant-loop-place : goal.invariant-loop-place
invariant-loop-place l = l.text.items ≡ size_lines l.config l.place
