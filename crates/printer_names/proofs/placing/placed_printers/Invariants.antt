use Rattle.std.proofs.Common.{take}
use Rattle.printer_names.specs.Placing.{ArePlaced}
use Rattle.spool_config.specs.Places.{told_view}
use Rattle.std.proofs.Common.{map}
use Rattle.printer_names.proofs.placing.placed_printers.Given as goal

abbrev pub invariant-loop-word : goal.invariant-loop-word
invariant-loop-word l = ArePlaced l.config (map told_view l.told) (take l.word-index l.said) l.printers.items
