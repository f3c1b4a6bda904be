use Rattle.std.proofs.Common.{◌∙◌, ap, sym, Some}
use Rattle.parked_lines.proofs.LineLemmas.{job_at_place, rising_same}
use Rattle.parked_lines.proofs.line.QueueLine.job.Goals as goal

pub returns-in-Some : goal.returns-in-Some
returns-in-Some c =
    ap Some (rw (← c.self.view_is) c.index.ensures)
    ∙ sym (job_at_place c.args.self.now c.in-Some.place c.args.number c.index.result.now (rising_same _ _ c.self.view_is c.self.invariant) c.in-Some.ensures)
