use Rattle.std.proofs.Common.{ℕ, List, ap}
use Rattle.segment_text.specs.Seen.{printer_seen}
use Rattle.segment_audit.proofs.copies.copy_printer.Goals as goal

pub returns : goal.returns
returns c =
    let printer = printer_seen c.args.printer.now in
    ap (λ (x : List ℕ). record printer { place = x }) c.in_ok-copy_octets.ensures
