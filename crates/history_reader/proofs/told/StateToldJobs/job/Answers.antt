use Rattle.std.proofs.Common.{◌∙◌, ap, arith, length, refl}
use Rattle.std.specs.Prelude.{option_map}
use Rattle.std.proofs.lemmas.List.{length-map}
use Rattle.std.proofs.lemmas.Option.{slice_get-map, slice_get_read}
use Rattle.history_reader.specs.Seen.{job_seen}
use Rattle.history_reader.proofs.told.StateToldJobs.job.Goals as goal

pub returns : goal.returns
returns c =
    let jobs = c.args.self.now.jobs.items in
    let n = length-map jobs job_seen in
    let within = c.requires in
    let read = slice_get_read jobs (length jobs) c.args.i c.index.result.now refl (omega (arith, n, within)) c.index.ensures in
    (job_seen c.index.result.now, slice_get-map job_seen jobs c.args.i ∙ ap (option_map job_seen) read, refl)
