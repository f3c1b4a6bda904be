use Rattle.std.proofs.Common.{map, take}
use Rattle.std.specs.List.{AllZip}
use Rattle.spool_config.specs.Places.{told_view}
use Rattle.printer_names.specs.Placing.{AreOfDifferentPrinters, IsTold}
use Rattle.printer_names.proofs.placing.told_printers.Given as goal

abbrev pub invariant-loop-text : goal.invariant-loop-text
invariant-loop-text l = record {
  told : AllZip (IsTold l.config) (take l.text-index (map told_view l.told)) l.printers.items;
  once : AreOfDifferentPrinters l.printers.items;
}
