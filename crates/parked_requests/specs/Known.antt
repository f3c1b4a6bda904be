-- What is known of a job that goes through the spool.
use Rattle.std.specs.Prelude.{◌≡◌, ◌⊎◌, false}
use Rattle.parked_requests.specs.Hand.{at_job}
use Rattle.parked_requests.specs.declared.lone.LoneJob.{LoneJob}
use Rattle.parked_requests.specs.declared.in_hand.JobInHand.{JobInHand}

-- All is known of the job that the spool took, as before; or memory for it was refused, and the job can't be turned aside from now on.
abbrev pub Knows : (known lost : LoneJob → LoneJob) → (old new : JobInHand) → Type 0
Knows known lost old new =
    ((new.job ≡ at_job known old.job) × (new.is_known ≡ old.is_known))
    ⊎ ((new.job ≡ at_job lost old.job) × (new.is_known ≡ false))
