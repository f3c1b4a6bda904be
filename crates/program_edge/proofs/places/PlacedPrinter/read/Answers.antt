use Rattle.std.proofs.Common.{◌≡◌, arith, subst, sym}
use Rattle.program_edge.specs.Numerals.{IsPlainNumber}
use Rattle.program_edge.proofs.NumeralLemmas.{one_plain_number}
use Rattle.program_edge.proofs.places.PlacedPrinter.read.Goals as goal

pub returns-then-printer-eq0-clause-none : goal.returns-then-printer-eq0-clause-none
returns-then-printer-eq0-clause-none c said named =
    let number : IsPlainNumber c.in_ok-number.number.now said.printer = subst (λ t. IsPlainNumber t said.printer) (sym c.in_ok-number.ensures.0) named.number in
    let same : c.in_ok-printer.printer ≡ said.printer = one_plain_number _ _ _ c.in_ok-printer.ensures.number number in
    absurd (omega (arith, same, named.positive, c.if-printer-eq0.true))
