use Rattle.std.proofs.Common.{sym, ◌∙◌}
use Rattle.job_files.specs.Waiting.{is_from, pair_of}
use Rattle.job_files.proofs.WaitingLemmas.{without_none, without_place}
use Rattle.job_files.proofs.waiting.WaitingJobs.fed.Goals as goal

pub returns-in-Some : goal.returns-in-Some
returns-in-Some c =
    rw c.remove.ensures.items
    (without_place pair_of (is_from c.args.sender c.args.queue.now) c.args.self.now.jobs.items c.in-Some.place (sym c.place_of.ensures ∙ c.in-Some.is))

pub returns-in_default : goal.returns-in_default
returns-in_default c =
    without_none pair_of (is_from c.args.sender c.args.queue.now) c.args.self.now.jobs.items (sym c.place_of.ensures ∙ c.in_default.is)
