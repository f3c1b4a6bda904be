use Rattle.std.proofs.Common.{length, refl}
use Rattle.std.proofs.lemmas.Option.{slice_get_read}
use Rattle.server_folders.proofs.told.WaitingJobsToldJobs.job.Goals as goal

pub returns : goal.returns
returns c =
    let jobs = c.args.self.now.jobs.items in
    (c.index.result.now, slice_get_read jobs (length jobs) c.args.i c.index.result.now refl c.requires c.index.ensures, refl)
