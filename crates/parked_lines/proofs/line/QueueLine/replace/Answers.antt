use Rattle.std.proofs.Common.{ap, is_some, sym}
use Rattle.parked_lines.proofs.LineLemmas.{becomes_replaced, job_at_place, rising_same}
use Rattle.parked_lines.proofs.line.QueueLine.replace.Goals as goal

pub returns-clause-answer : goal.returns-clause-answer
returns-clause-answer c =
    sym (ap is_some (job_at_place c.args.self.now c.in-Some.place c.args.job.number c.args.job (rising_same _ _ c.self.view_is c.self.invariant) c.in-Some.ensures))

pub returns-clause-replaced : goal.returns-clause-replaced
returns-clause-replaced c =
    becomes_replaced c.self.inside.jobs.items c.args.self.now c.in-Some.place c.args.job c.self.view_is c.self.invariant c.in-Some.ensures
