-- Connections, and the octets that they took.
use Rattle.std.specs.Prelude.{◌≡◌, ◌≤◌, ℕ, Bool, true, false, not, List, [], ◌∷◌, ◌++◌, Option, Some, None, length, take, ◌==◌, if◌then◌else◌}
use Rattle.printer_sinks.specs.declared.stage.SinkStage.{SinkStage}
use Rattle.printer_sinks.specs.declared.stage.SinkStage.TheVariants.{Idle, Sending, Lost}

-- a connection: the job that it was opened for, and the octets that it took
pub record Connection : Type 0 where
  pub job : ℕ
  pub took : List ℕ

-- what becomes of a history of connections, where a device tells it
abbrev pub told : (List Connection → List Connection) → Option (List Connection) → Option (List Connection)
told change None = None
told change (Some connections) = Some (change connections)

-- one connection more, which took these octets; the newest stands first
abbrev pub new_connection : (job : ℕ) (octets : List ℕ) → List Connection → List Connection
new_connection job octets connections = record { job = job; took = octets } ∷ connections

-- the newest connection took these octets too
abbrev pub longer : (octets : List ℕ) → List Connection → List Connection
longer octets [] = []
longer octets (connection ∷ connections) = record { job = connection.job; took = connection.took ++ octets } ∷ connections

-- the connections that took an octet
abbrev pub spoken : List Connection → List Connection
spoken [] = []
spoken (connection ∷ connections) = if length connection.took == 0 then spoken connections else connection ∷ spoken connections

-- how many connections were opened
abbrev pub opened : Option (List Connection) → Option ℕ
opened None = None
opened (Some connections) = Some (length connections)

-- the newest connection took an octet
abbrev pub newest_spoke : List Connection → Bool
newest_spoke [] = false
newest_spoke (connection ∷ connections) = not (length connection.took == 0)

-- the same of a history that is told; one that isn't is taken to be so
abbrev pub is_begun : Option (List Connection) → Bool
is_begun None = true
is_begun (Some connections) = newest_spoke connections

-- where a sink is amid a job, the newest connection took an octet
abbrev pub stands : SinkStage → Option (List Connection) → Bool
stands (Sending job) connections = is_begun connections
stands _ connections = true

-- the stage of a sink for a page of this job: another job is left
abbrev pub stage_for : (job : ℕ) → SinkStage → SinkStage
stage_for job Idle = Idle
stage_for job (Sending other) = if other == job then Sending other else Idle
stage_for job (Lost other) = if other == job then Lost other else Idle

-- an octet of the job was sent
abbrev pub is_amid : SinkStage → Bool
is_amid Idle = false
is_amid _ = true

-- the connections that took an octet, after these octets of a job were sent
abbrev pub sent : SinkStage → (job : ℕ) (octets : List ℕ) → List Connection → List Connection
sent Idle job octets connections = if length octets == 0 then connections else new_connection job octets connections
sent (Sending _) job octets connections = longer octets connections
sent (Lost _) job octets connections = connections

-- the stage after n of a page's octets were sent, which has this size
abbrev pub stage_after : SinkStage → (job n size : ℕ) → SinkStage
stage_after Idle job n size = if n == 0 then Idle else (if n == size then Sending job else Lost job)
stage_after (Sending _) job n size = if n == size then Sending job else Lost job
stage_after (Lost _) job n size = Lost job

-- how many of a page's octets may be sent: where an octet of its job was sent and the connection failed, none
abbrev pub most : SinkStage → (size : ℕ) → ℕ
most (Lost _) size = 0
most _ size = size

-- a sink between two calls: its stage, and the connections that took an octet
pub record Desk : Type 0 where
  pub stage : SinkStage
  pub connections : Option (List Connection)

-- the desk of a sink at this stage, whose device tells these connections
abbrev pub desk : SinkStage → Option (List Connection) → Desk
desk stage connections = record { stage = stage; connections = told spoken connections }

-- n of the octets of a page are sent, by a sink that is at this stage of the page's job
pub record Adds (n : ℕ) (job : ℕ) (octets : List ℕ) (from : SinkStage) (before : Option (List Connection)) (new : Desk) : Type 0 where
  pub size : n ≤ most from (length octets)
  pub connections : new.connections ≡ told (sent from job (take n octets)) before
  pub stage : new.stage ≡ stage_after from job n (length octets)

-- the same from what the sink was at
abbrev pub SendsSome : (n : ℕ) (job : ℕ) (octets : List ℕ) (old new : Desk) → Type 0
SendsSome n job octets old new = Adds n job octets (stage_for job old.stage) old.connections new

-- a page is sent: whole where that is told, else some of it or nothing
abbrev pub Sends : (job : ℕ) (octets : List ℕ) (ok : Bool) (old new : Desk) → Type 0
Sends job octets ok old new = (n : ℕ) × SendsSome n job octets old new × (ok ≡ (n == length octets))
