use Rattle.std.proofs.Common.{map, take}
use Rattle.std.specs.List.{AllZip}
use Rattle.printer_names.specs.Texts.{IsNamedText}
use Rattle.program_words.specs.Serving.{HaveDifferentNames}
use Rattle.program_words.proofs.printers.printers_of.Given as goal

abbrev pub invariant-loop-text : goal.invariant-loop-text
invariant-loop-text l = record {
  said : AllZip IsNamedText (take l.text-index (map (λ text. text.now) l.texts)) l.printers.items;
  once : HaveDifferentNames l.printers.items;
}
