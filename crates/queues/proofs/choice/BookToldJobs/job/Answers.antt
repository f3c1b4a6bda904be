use Rattle.std.proofs.Common.{arith, refl}
use Rattle.queues.proofs.Firsts.{facts_len}
use Rattle.queues.proofs.Lists.{stands_at}
use Rattle.queues.proofs.choice.BookToldJobs.job.Goals as goal

pub returns : goal.returns
returns c =
    let b = c.args.self.now in
    let n = facts_len b.jobs in
    let within = c.requires in
    (c.job.result.now, stands_at b c.args.i c.job.result.now (omega (arith, n, within)) c.job.ensures, refl)
