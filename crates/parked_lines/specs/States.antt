-- Where a job is that is kept, and what may happen to it.
use Rattle.std.specs.Prelude.{Bool, true, false, Option, Some, None}
use Rattle.parked_lines.specs.declared.state.ParkState.{ParkState}
use Rattle.parked_lines.specs.declared.state.ParkState.TheVariants.{Coming, Beside, Waiting, Fed, Whole}
use Rattle.parked_lines.specs.declared.state.JobMove.{JobMove}
use Rattle.parked_lines.specs.declared.state.JobMove.TheVariants.{TurnAside, Enter, PutBack}

-- what a state becomes, where this may happen to a job in it
abbrev pub moved : JobMove → ParkState → Option ParkState
moved TurnAside Coming = Some Beside
moved TurnAside _ = None
moved Enter Fed = Some Whole
moved Enter _ = None
moved PutBack Fed = Some Waiting
moved PutBack Whole = Some Waiting
moved PutBack _ = None

-- what a state becomes once the job is kept
abbrev pub kept : ParkState → Option ParkState
kept Coming = Some Whole
kept Beside = Some Waiting
kept _ = None

-- it waits in its queue's line
abbrev pub is_waiting : ParkState → Bool
is_waiting Waiting = true
is_waiting _ = false

-- it is being fed
abbrev pub is_fed : ParkState → Bool
is_fed Fed = true
is_fed _ = false

-- it is whole in the folder, and not in the spool: it waits, or is being fed
abbrev pub is_parked : ParkState → Bool
is_parked Waiting = true
is_parked Fed = true
is_parked _ = false

-- it was kept, and hasn't ended: it waits, is being fed, or the spool has it whole
abbrev pub is_kept : ParkState → Bool
is_kept Coming = false
is_kept Beside = false
is_kept _ = true

-- it isn't the spool's
abbrev pub is_outside : ParkState → Bool
is_outside Beside = true
is_outside Waiting = true
is_outside Fed = true
is_outside _ = false

-- the spool has it, or is given it: it comes through it, is being fed, or is whole there
abbrev pub is_in_spool : ParkState → Bool
is_in_spool Coming = true
is_in_spool Fed = true
is_in_spool Whole = true
is_in_spool _ = false
