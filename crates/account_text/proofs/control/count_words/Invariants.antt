use Rattle.std.proofs.Common.{◌≡◌, ◌+◌, ◌≤◌, length}
use Rattle.account_text.specs.Reading.{words_of}
use Rattle.account_text.proofs.control.count_words.Given as goal

abbrev pub invariant-loop-after : goal.invariant-loop-after
invariant-loop-after l = record {
  count : l.count + length (words_of l.rest) ≡ length (words_of l.text);
  within : l.count + length l.rest ≤ length l.text;
}

abbrev pub decreases-loop-after : goal.decreases-loop-after
decreases-loop-after l = length l.rest
