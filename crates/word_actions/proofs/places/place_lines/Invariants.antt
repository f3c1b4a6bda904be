use Rattle.std.proofs.Common.{◌≡◌}
use Rattle.word_actions.specs.Places.{printer_lines}
use Rattle.word_actions.proofs.places.place_lines.Given as goal

abbrev pub invariant-loop-index : goal.invariant-loop-index
invariant-loop-index l = l.text.items ≡ printer_lines l.config l.out l.printers l.index
