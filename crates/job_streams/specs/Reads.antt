-- How a session reads the octets of a job.
use Rattle.std.specs.Prelude.{◌≡◌, ◌<◌, ℕ, Bool, true, false, not, List, [], ◌∷◌, ◌++◌, length}
use Rattle.receiver.specs.Script.{Queue, BeginFile, EndFile, Control as ControlFile, Ack, Output, Wrote, Asked, Reply, Yes}
use Rattle.receiver.specs.Reading.{start}
use Rattle.receiver.specs.Reads.{Reads}
use Rattle.receiver.specs.Blocks.{between, opened, opened_told, asked_for, told_for, ended}
use Rattle.lpr_client.specs.OneJob.{pages_of}
use Rattle.job_streams.specs.Stream.{Block, Data, Control, Coming, IsFit, is_whole, requests}

-- what a session asks and writes for a block, where a job is in hand or not and tickets have z octets
abbrev pub block_outputs : ℕ → List ℕ → Bool → Block → List Output
block_outputs z queue job (Data name octets) =
    opened job queue ++ Asked (BeginFile name (length octets)) ∷ Wrote Ack
    ∷ (asked_for z (pages_of z octets) ++ Asked EndFile ∷ Wrote Ack ∷ [])
block_outputs z queue job (Control said) =
    opened job queue ++ Wrote Ack ∷ Asked (ControlFile said) ∷ Wrote Ack ∷ []

-- the answers that grant these requests; the last makes the job whole or not
abbrev pub block_told : ℕ → Bool → Bool → Block → List Reply
block_told z job whole (Data name octets) =
    opened_told job ++ Yes ∷ (told_for z (pages_of z octets) ++ ended whole ∷ [])
block_told z job whole (Control said) = opened_told job ++ ended whole ∷ []

abbrev pub blocks_outputs : ℕ → List ℕ → Bool → List Block → List Output
blocks_outputs z queue job [] = []
blocks_outputs z queue job (block ∷ blocks) = block_outputs z queue job block ++ blocks_outputs z queue true blocks

-- only the last of them makes the job whole
abbrev pub blocks_told : ℕ → Bool → Bool → List Block → List Reply
blocks_told z job whole [] = []
blocks_told z job whole (block ∷ []) = block_told z job whole block
blocks_told z job whole (block ∷ next ∷ blocks) = block_told z job false block ++ blocks_told z true whole (next ∷ blocks)

-- the same for the whole of a job
abbrev pub job_outputs : ℕ → Coming → List Output
job_outputs z job = Asked (Queue job.queue) ∷ Wrote Ack ∷ blocks_outputs z job.queue false job.blocks

abbrev pub job_told : ℕ → Bool → Coming → List Reply
job_told z whole job = Yes ∷ blocks_told z false whole job.blocks

-- The octets that a peer sends of a job that is whole are read, at the start of a session, as one job with these files in this order, and
-- nothing of them is left: where all requests are granted, by tickets of any one size, and no file but the last makes the
-- job whole.
abbrev pub StreamsAreRead : Type 0
StreamsAreRead =
    (job : Coming) → IsFit job → is_whole job ≡ true →
    (z : ℕ) (whole short : Bool) (rest : List ℕ) (a : List Reply) (os : List Output) → 0 < z →
    Reads short os (between job.queue (not whole)) rest a →
    Reads short (job_outputs z job ++ os) start (requests job ++ rest) (job_told z whole job ++ a)
