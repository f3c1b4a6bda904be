use Rattle.std.proofs.Common.{arith}
use Rattle.parked_lines.proofs.LineLemmas.{lower_half, rising_same, upper_half}
use Rattle.parked_lines.proofs.line.QueueLine.seek.Goals as goal

pub halves-preserved-then-index-number : goal.halves-preserved-then-index-number
halves-preserved-then-index-number c =
    upper_half _ _ _ _ _ c.index.result.now (rising_same _ _ c.self.view_is c.self.invariant) c.halves.invariant (omega arith) (omega arith) (rw (← c.self.view_is) c.index.ensures) c.if-index-number.true

pub halves-preserved : goal.halves-preserved
halves-preserved c =
    lower_half _ _ _ _ _ c.index.result.now (rising_same _ _ c.self.view_is c.self.invariant) c.halves.invariant (omega arith) (omega arith) (rw (← c.self.view_is) c.index.ensures) c.if-index-number.false
