-- For which connections a session is free.
use Rattle.std.specs.Prelude.{◌≡◌, ◌==◌, ◌<◌, ◌⊎◌, ℕ, List, Some, count_by, slice_get}
use Rattle.connection_lobby.specs.declared.desk.DeskState.{DeskState}
use Rattle.connection_lobby.specs.declared.first_line.Purpose.{Purpose}
use Rattle.connection_lobby.specs.declared.first_line.Purpose.TheVariants.{Job, Listing, Short}
use Rattle.connection_lobby.specs.declared.waiting_room.Ready.{Ready}

-- how many of these sessions for all a host has
abbrev pub of_host : ℕ → List ℕ → ℕ
of_host host hosts = count_by (λ other. other == host) hosts

-- of the sessions for all, one at least of these is free, and this host has fewer than it may have
abbrev pub HasPlace : ℕ → List ℕ → ℕ → ℕ → Type 0
HasPlace free hosts host most = (0 < free) × (of_host host hosts < most)

-- a session is free: for a job one for all, for other lines one that takes no jobs too; and of long listings fewer than eight are in hand
abbrev pub IsFree : Purpose → ℕ → ℕ → ℕ → List ℕ → ℕ → ℕ → Type 0
IsFree Job free no_jobs listings hosts host most = HasPlace free hosts host most
IsFree Short free no_jobs listings hosts host most = (0 < no_jobs) ⊎ HasPlace free hosts host most
IsFree Listing free no_jobs listings hosts host most = (listings < 8) × ((0 < no_jobs) ⊎ HasPlace free hosts host most)

-- under the lock, a session is free for one that is ready
abbrev pub IsFreeFor : DeskState → Ready → Type 0
IsFreeFor hall ready =
    IsFree ready.purpose hall.all.free hall.no_jobs.free hall.listings hall.hosts.items ready.host hall.per_host

-- of those that are ready none of the first n is one for which a session is free
abbrev pub IsNoneFree : (Ready → Type 0) → List Ready → ℕ → Type 0
IsNoneFree is_free waiting n = (k : ℕ) (ready : Ready) → k < n → slice_get waiting k ≡ Some ready → is_free ready → ⊥

-- this one is the first of those that are ready for which a session is free
abbrev pub IsFirstFree : (Ready → Type 0) → List Ready → ℕ → Type 0
IsFirstFree is_free waiting at =
    (ready : Ready) × (slice_get waiting at ≡ Some ready) × is_free ready × IsNoneFree is_free waiting at
