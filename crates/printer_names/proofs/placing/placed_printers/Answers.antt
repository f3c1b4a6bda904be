use Rattle.std.proofs.Common.{◌≡◌, ◌∙◌, ◌++◌, ◌∷◌, [], List, add-one, map, rules, subst, sym}
use Rattle.std.proofs.lemmas.List.{take_all}
use Rattle.std.proofs.lemmas.Result.{err_from_is_err_and}
use Rattle.spool_config.specs.Places.{told_view}
use Rattle.printer_names.specs.Placing.{ArePlaced}
use Rattle.printer_names.specs.declared.named.NamedPrinter.{NamedPrinter}
use Rattle.printer_names.proofs.PlacingLemmas.{one_more_word, placing_fault, taken_word, texts_alone}
use Rattle.printer_names.proofs.placing.placed_printers.Goals as goal

pub loop-word-init : goal.loop-word-init
loop-word-init c =
    texts_alone c.args.config.now (map told_view c.args.told.now) c.in_ok-printers.printers.items c.in_ok-printers.ensures.told c.in_ok-printers.ensures.once

pub loop-word-preserved : goal.loop-word-preserved
loop-word-preserved c =
    let items : c.push.new.self.items ≡ c.loop-word.printers.items ++ c.in_ok-placed.placed ∷ [] = search rules in
    rw (items, add-one) (
    one_more_word c.args.config.now (map told_view c.args.told.now) c.args.said.now c.loop-word.word-index _ c.loop-word.printers.items
    c.in_ok-placed.placed c.loop-word-test.true c.loop-word.invariant c.in_ok-placed.ensures
    (rw c.as_slice.ensures.value at (sym c.has_printer.ensures ∙ c.if-has_printer.false))
    )

pub returns-clause-placed : goal.returns-clause-placed
returns-clause-placed c =
    subst (λ (words : List NamedPrinter). ArePlaced c.args.config.now (map told_view c.args.told.now) words c.loop-word.printers.items)
    (take_all c.loop-word.word-index c.args.said.now c.loop-word-test.false) c.loop-word.invariant

pub returns-in_err-placed-clause-fault : goal.returns-in_err-placed-clause-fault
returns-in_err-placed-clause-fault c =
    let r = c.from_residual-in_err-placed in
    let p = err_from_is_err_and r.result r.ensures.1 in
    rw (p.1, p.2) (
    placing_fault c.args.config.now (map told_view c.args.told.now) c.args.said.now c.loop-word.word-index _ c.loop-word.printers.items c.in_err-placed.field-0.0 c.loop-word-test.true
    c.loop-word.invariant c.in_err-placed.ensures
    )

pub returns-then-has_printer-clause-fault : goal.returns-then-has_printer-clause-fault
returns-then-has_printer-clause-fault c =
    taken_word c.args.config.now (map told_view c.args.told.now) c.args.said.now c.loop-word.word-index _ c.loop-word.printers.items c.in_ok-placed.placed c.loop-word-test.true
    c.loop-word.invariant c.in_ok-placed.ensures
    (rw c.as_slice.ensures.value at (sym c.has_printer.ensures ∙ c.if-has_printer.true))
