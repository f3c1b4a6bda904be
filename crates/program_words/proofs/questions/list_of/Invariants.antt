use Rattle.std.proofs.Common.{◌≡◌, map, take}
use Rattle.program_words.proofs.questions.list_of.Given as goal

abbrev pub invariant-loop-text : goal.invariant-loop-text
invariant-loop-text l = l.list ≡ take l.text-index (map (λ text. text.now) l.texts)
