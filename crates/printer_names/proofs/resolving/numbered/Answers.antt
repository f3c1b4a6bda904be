use Rattle.std.proofs.Common.{◌≡◌, ◌∙◌, ◌<◌, ◌^◌, ℕ, arith, subst, sym}
use Rattle.std.proofs.lemmas.Bool.{false≢true}
use Rattle.config_values.specs.Config.{IsPrinter}
use Rattle.printer_names.proofs.MeaningLemmas.{same_number}
use Rattle.printer_names.proofs.resolving.numbered.Goals as goal
use Rattle.printer_names.proofs.resolving.numbered.Goals.{else-number-most-via-then-number-most+else-is_printer, else-number-most-via-else-number-most}

pub returns : goal.returns
returns c = λ printer is.
    let small : c.in_ok-number.number < 2 ^ 64 = omega (arith, c) in
    let same : printer ≡ c.in_ok-number.number = same_number c.args.name.now c.in_ok-number.number printer small c.in_ok-number.ensures is.0 in
    let there : IsPrinter c.args.config.now c.in_ok-number.number = subst (λ (p : ℕ). IsPrinter c.args.config.now p) same is.1 in
    elim c.else-number-most.branch [
      | else-number-most-via-then-number-most+else-is_printer w ↦ false≢true (sym w.if-is_printer.false ∙ w.is_printer.ensures.1 there)
      | else-number-most-via-else-number-most w ↦ omega (arith, w.if-number-most.false, c.from-most.ensures, c.printer_count.ensures.value, there.1)
    ]
