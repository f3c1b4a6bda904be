use Rattle.parked_lines.proofs.LinesLemmas.{moves_kept}
use Rattle.parked_lines.proofs.lines.ParkedLines.keep.Goals as goal

pub returns-clause-changed : goal.returns-clause-changed
returns-clause-changed c =
    moves_kept c.args.self.now c.replace.new.self c.args.queue c.args.number c.args.size c.in_ok-job.field-0 c.in_ok-job-2.job c.replace.result c.in_ok-job.ensures.job c.in_ok-job-2.ensures c.replace.ensures.answer c.replace.ensures.replaced
