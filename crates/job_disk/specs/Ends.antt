-- What becomes of a kept job's file.
use Rattle.std.specs.Prelude.{Option, None, Some}
use Rattle.job_files.specs.declared.table.JobEnd.{JobEnd}
use Rattle.job_files.specs.declared.table.JobEnd.TheVariants as end
use Rattle.job_files.specs.declared.names.FileStage.{FileStage}
use Rattle.job_files.specs.declared.names.FileStage.TheVariants as stage

-- at which stage the whole file of a job stays that ended so: one that is done or was removed goes
abbrev pub stage_after : JobEnd → Option FileStage
stage_after end.Done = None
stage_after end.Removed = None
stage_after end.Failed = Some stage.Failed
