use Rattle.history_reader.proofs.OneMore.{changed}
use Rattle.history_reader.proofs.jobs.+job_in.Goals as goal

pub returns-clause-value : goal.returns-clause-value
returns-clause-value t c =
    changed c.args.entries.now c.in-Some.entry.now c.in-Some.before.now c.args.opening.now c.in_ok-job.job c.change.new.self c.in-Some.ensures.cases.0 c.in_ok-job.ensures.value c.in_ok-change.ensures.value
