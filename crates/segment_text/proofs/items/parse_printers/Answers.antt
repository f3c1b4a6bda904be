use Rattle.std.proofs.Common.{inl, inr, rules, arith}
use Rattle.segment_text.proofs.InTurn.{none_printer, none_start}
use Rattle.segment_text.proofs.items.parse_printers.Goals as goal

pub returns-in_err-start : goal.returns-in_err-start
returns-in_err-start c =
    elim c.in_err-start.ensures [
      | inl m ↦ search (rules, m)
      | inr b ↦ (let n = none_start c.args.line.now c.args.left (omega arith) b.1 in search (rules, b, n))
    ]

pub returns-in_err-printer : goal.returns-in_err-printer
returns-in_err-printer c =
    elim c.in_err-printer.ensures [
      | inl m ↦ search (rules, m)
      | inr b ↦ (let n = none_printer c.args.line.now c.args.left (omega arith) b.1 in search (rules, b, n))
    ]
