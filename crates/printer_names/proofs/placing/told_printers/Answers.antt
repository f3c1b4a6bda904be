use Rattle.std.proofs.Common.{◌≡◌, ◌∙◌, ◌++◌, ◌∷◌, [], add-one, rules, sym}
use Rattle.printer_names.proofs.PlacingLemmas.{all_texts, one_more_differs, one_more_text, twice_told, unplaced_text}
use Rattle.printer_names.proofs.placing.told_printers.Goals as goal

pub loop-text-preserved : goal.loop-text-preserved
loop-text-preserved c =
    let items : c.push.new.self.items ≡ c.loop-text.printers.items ++ c.in-Some.placed ∷ [] = search rules in
    let more =
    one_more_text c.args.config.now c.args.told.now c.loop-text.text-index c.text-item.result c.text-item.result c.loop-text.printers.items c.in-Some.placed c.loop-text-test.true
    (sym c.text-item.is)
    c.loop-text.invariant.told c.in-Some.ensures in
    let differ =
    one_more_differs c.loop-text.printers.items c.in-Some.placed c.loop-text.invariant.once
    (rw c.as_slice.ensures.value at (sym c.has_printer.ensures ∙ c.if-has_printer.false)) in
    record {
      told = rw (items, add-one) more;
      once = rw items differ;
    }

pub returns-clause-told : goal.returns-clause-told
returns-clause-told c = all_texts c.args.config.now c.args.told.now c.loop-text.text-index c.loop-text.printers.items c.loop-text-test.false c.loop-text.invariant.told

pub returns-in_default-clause-fault : goal.returns-in_default-clause-fault
returns-in_default-clause-fault c =
    unplaced_text c.args.config.now c.args.told.now c.loop-text.text-index c.text-item.result c.text-item.result c.loop-text-test.true (sym c.text-item.is) c.in_default.ensures

pub returns-then-has_printer-clause-fault : goal.returns-then-has_printer-clause-fault
returns-then-has_printer-clause-fault c =
    twice_told c.args.config.now c.args.told.now c.loop-text.text-index c.text-item.result c.text-item.result c.loop-text.printers.items c.in-Some.placed c.loop-text-test.true
    (sym c.text-item.is)
    c.loop-text.invariant.told c.in-Some.ensures
    (rw c.as_slice.ensures.value at (sym c.has_printer.ensures ∙ c.if-has_printer.true))
