use Rattle.std.proofs.Common.{◌≡◌, [], length}
use Rattle.account_text.specs.Reading.{words_of}
use Rattle.segment_text.specs.Reading.{stopped_onto}
use Rattle.segment_text.proofs.read.stopped.Given as goal

abbrev pub invariant-loop-word : goal.invariant-loop-word
invariant-loop-word l = stopped_onto l.flags.items (words_of l.rest) ≡ stopped_onto [] (words_of l.text)

abbrev pub decreases-loop-word : goal.decreases-loop-word
decreases-loop-word l = length l.rest
