use Rattle.std.proofs.Common.{◌∙◌, ap, is_some}
use Rattle.job_files.specs.Waiting.{is_from, pair_of}
use Rattle.job_files.proofs.WaitingLemmas.{has_place}
use Rattle.job_files.proofs.waiting.WaitingJobs.has.Goals as goal

pub returns : goal.returns
returns c =
    c.is_some.ensures ∙ ap is_some c.place_of.ensures
    ∙ has_place pair_of (is_from c.args.sender c.args.queue.now) c.args.self.now.jobs.items
