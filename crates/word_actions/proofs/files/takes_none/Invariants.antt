use Rattle.std.proofs.Common.{◌≡◌}
use Rattle.word_actions.specs.Sizes.{takes_none}
use Rattle.word_actions.proofs.files.takes_none.Given as goal

abbrev pub invariant-loop-place : goal.invariant-loop-place
invariant-loop-place l = l.none ≡ takes_none l.config l.place
