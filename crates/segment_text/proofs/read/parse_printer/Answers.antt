use Rattle.std.proofs.Common.{inl, inr, refl, rules}
use Rattle.segment_text.specs.Heads.{printer_line}
use Rattle.segment_text.specs.Reading.{printer_of}
use Rattle.segment_text.specs.Seen.{IsPrinter, printer_seen}
use Rattle.segment_text.proofs.HeadsBack.{printer_back, none_has, other_has}
use Rattle.segment_text.proofs.read.parse_printer.Goals as goal

pub returns-else-eq : goal.returns-else-eq
returns-else-eq c =
    inr (
      refl,
      other_has printer_of printer_line IsPrinter printer_back c.args.line.now (printer_seen c.in_ok-printer.printer) c.in_ok-printer.ensures (λ same. (
          let w = c.in_ok-written.ensures in
          let v = c.as_slice.ensures.value in
          let e = c.eq.ensures in
          let f = c.if-eq.false in
          let g = c.if-eq.ensures in
          search (rules, same, w, v, e, f, g))),
    )

pub returns-in_err-printer : goal.returns-in_err-printer
returns-in_err-printer c =
    elim c.in_err-printer.ensures [
      | inl m ↦ search (rules, m)
      | inr b ↦ (let n = none_has printer_of printer_line IsPrinter printer_back c.args.line.now b.1 in search (rules, b, n))
    ]
