use Rattle.std.proofs.Common.{◌≡◌, [], length}
use Rattle.account_text.specs.Reading.{numbers_onto, words_of}
use Rattle.account_text.proofs.read.numbers.Given as goal

abbrev pub invariant-loop-word : goal.invariant-loop-word
invariant-loop-word l = numbers_onto l.numbers.items (words_of l.rest) ≡ numbers_onto [] (words_of l.text)

abbrev pub decreases-loop-word : goal.decreases-loop-word
decreases-loop-word l = length l.rest
