use Rattle.std.proofs.Common.{◌≡◌, [], length}
use Rattle.account_text.specs.Reading.{words_of}
use Rattle.segment_text.specs.Reading.{queues_onto}
use Rattle.segment_text.proofs.config.queues.Given as goal

abbrev pub invariant-loop-name : goal.invariant-loop-name
invariant-loop-name l = queues_onto l.queues.items (words_of l.rest) ≡ queues_onto [] (words_of l.text)

abbrev pub decreases-loop-name : goal.decreases-loop-name
decreases-loop-name l = length l.rest
