-- What a session is told of a sync.
use Rattle.job_disk.specs.declared.syncs.SyncTold.{SyncTold}
use Rattle.job_disk.specs.declared.syncs.SyncTold.TheVariants.{Ended, Failed, Lead, Wait}

-- it failed
abbrev pub IsFailed : SyncTold → Type 0
IsFailed (Failed cause) = Unit {0}
IsFailed Ended = ⊥
IsFailed Wait = ⊥
IsFailed Lead = ⊥
