use Rattle.std.proofs.Common.{◌∙◌}
use Rattle.parked_lines.proofs.LineLemmas.{held_up_is, rising_same}
use Rattle.parked_lines.proofs.line.QueueLine.has_earlier.Goals as goal

pub returns : goal.returns
returns c =
    c.is_held_up.ensures ∙ held_up_is c.args.self.now c.args.sender c.args.number (rising_same _ _ c.self.view_is c.self.invariant)
