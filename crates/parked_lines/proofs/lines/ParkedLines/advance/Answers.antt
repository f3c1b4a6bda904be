use Rattle.parked_lines.proofs.LinesLemmas.{keeps_moved, moves_moved}
use Rattle.parked_lines.proofs.lines.ParkedLines.advance.Goals as goal

pub returns-clause-changed : goal.returns-clause-changed
returns-clause-changed c =
    moves_moved c.args.self.now c.replace.new.self c.args.queue c.args.number c.args.change c.in_ok-job.field-0 c.in_ok-job-2.job c.replace.result c.in_ok-job.ensures.job c.in_ok-job-2.ensures c.replace.ensures.answer c.replace.ensures.replaced

pub returns-clause-lost : goal.returns-clause-lost
returns-clause-lost c =
    keeps_moved c.args.self.now c.replace.new.self c.args.queue c.args.number c.args.change c.in_ok-job.field-0 c.in_ok-job-2.job c.in_ok-job.ensures.job c.in_ok-job-2.ensures (returns-clause-changed c)
