-- Which jobs leave the spool, and which keep those of their sender there.
use Rattle.std.specs.Prelude.{ℕ, ◌==◌, ◌||◌, Bool, true, false, not, List}
use Rattle.std.specs.List.{list_any}
use Rattle.server_watcher.specs.declared.unloading.OfferedJob.{OfferedJob}
use Rattle.spool_snapshot.specs.declared.job.SeenJob.{SeenJob}
use Rattle.standings.specs.declared.stage.JobStage.{JobStage}
use Rattle.standings.specs.declared.stage.JobStage.TheVariants as far
use Rattle.standings.specs.Stages.{stage_of}

-- a printer offers the job of this number
abbrev pub is_offered : List OfferedJob → (job : ℕ) → Bool
is_offered offered job = list_any (λ offer. offer.job == job) offered

-- a job leaves that waits, and one at a printer that offers it
abbrev pub leaves_at : JobStage → (offered : Bool) → Bool
leaves_at far.Waiting offered = true
leaves_at far.Printing offered = offered
leaves_at stage offered = false

abbrev pub leaves : List OfferedJob → SeenJob → Bool
leaves offered job = leaves_at (stage_of job) (is_offered offered job.number)

-- one that comes lets no other leave, and one that would leave only where it is known to be whole
abbrev pub lets_go_at : JobStage → (offered is_whole : Bool) → Bool
lets_go_at far.Arriving offered is_whole = false
lets_go_at far.Ended offered is_whole = true
lets_go_at far.Waiting offered is_whole = is_whole
lets_go_at far.Printing offered is_whole = is_whole || not offered

abbrev pub lets_go : List OfferedJob → SeenJob → (is_whole : Bool) → Bool
lets_go offered job is_whole = lets_go_at (stage_of job) (is_offered offered job.number) is_whole
