use Rattle.std.proofs.Common.{sym, ◌∙◌}
use Rattle.parked_lines.proofs.LinesLemmas.{way_next}
use Rattle.parked_lines.proofs.lines.ParkedLines.open.Goals as goal

pub returns-clause-order : goal.returns-clause-order
returns-clause-order c =
    λ e. way_next c.args.self.now c.args.queue c.args.job.sender c.args.job.number c.args.has_room (sym c.way_of-state.ensures ∙ e)
