-- Who stands in the line, and whose job is ended there.
use Rattle.std.specs.Prelude.{◌≡◌, ◌≢◌, ℕ, Bool, true, false, List, Option, Some, None, Result, Ok, Err, set, slice_get, slice_index_or}
use Rattle.config_values.specs.Config.{Config, IsQueue, queue_named, queue_of}
use Rattle.lpd_values.specs.declared.refusal.Refusal.{Refusal}
use Rattle.lpd_values.specs.declared.refusal.Refusal.TheVariants.{UnknownQueue}
use Rattle.spool_calls.specs.Calls.{IsRight, MayAbort, before}
use Rattle.locked_spool.specs.Held.{Held}
use Rattle.locked_spool.specs.Entries.{WritesAborted}
use Rattle.locked_spool.specs.Waiting.{Begins}
use Rattle.shared_spool.specs.declared.line.AbortError.{AbortError}
use Rattle.shared_spool.specs.declared.line.AbortError.TheVariants.{Moved, NotOpen}
use Rattle.shared_spool.specs.declared.line.Waiter.{Waiter}
use Rattle.shared_spool.specs.declared.line.Waiting.{Waiting}

-- whether the queue of a number is held
abbrev pub held_at : List Bool → (queue : ℕ) → Bool
held_at held queue = slice_index_or held queue false

-- a job would begin at a printer whose queue is held: it waits
abbrev pub IsPutOff : Config → Held → List Bool → (printer : ℕ) → Type 0
IsPutOff c h held p = (held_at held (queue_of c p) ≡ true) × Begins c h p

-- a queue is held, or held no longer, exactly where one has this name; the others stay as they are
abbrev pub Holds : Config → (old new : List Bool) → (name : List ℕ) → (held : Bool) → Result ℕ Refusal → Type 0
Holds c old new name held (Ok q) = (queue_named c name ≡ q) × IsQueue c q × (new ≡ set old q held)
Holds c old new name held (Err e) = (e ≡ UnknownQueue) × (queue_named c name ≡ 0) × (new ≡ old)

-- for what waits who stands at a place
abbrev pub wait_of : Option (Option Waiter) → Option Waiting
wait_of None = None
wait_of (Some None) = None
wait_of (Some (Some waiter)) = Some waiter.waiting

-- for what the session of a seat waits
abbrev pub waits_at : List (Option Waiter) → (seat : ℕ) → Option Waiting
waits_at line seat = wait_of (slice_get line seat)

-- a job is ended whose session waits for exactly this; where it waits otherwise, or its job can't be ended, nothing happens
abbrev pub EndsWait : (old new : Held) → List (Option Waiter) → Waiting → Result (Unit {0}) AbortError → Type 0
EndsWait old new line w (Ok done) = (waits_at line w.seat ≡ Some w) × WritesAborted old new w.job (Ok done)
EndsWait old new line w (Err (Moved now)) = (waits_at line w.seat ≢ Some w) × (now ≡ waits_at line w.seat) × (new ≡ old)
EndsWait old new line w (Err NotOpen) = (waits_at line w.seat ≡ Some w)
    × IsRight old.core (λ d b h. MayAbort d (before d b h old.core) w.job None → ⊥) × (new ≡ old)
