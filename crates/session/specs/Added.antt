-- By which entries the requests of a session grow the account.
use Rattle.std.specs.Prelude.{◌≡◌, Bool, true, false, [], ◌∷◌}
use Rattle.account.specs.declared.kind.Kind.TheVariants as kind
use Rattle.spool_trace.specs.declared.reply.Deed.TheVariants as deed
use Rattle.spool_ledgers.specs.Sums.{Sums}
use Rattle.locked_spool.specs.Shares.{OneOrNone}
use Rattle.session.specs.Seated.{Adds, IsGiven}
use Rattle.request_session.specs.Course.{Course, Did}

-- what all requests of a course add
abbrev pub AddsAll : Course → (old new : Sums) → Type 0
AddsAll [] old new = new ≡ old
AddsAll (Did (deed.Asked asked answer) ∷ c) old new =
    (before : Sums) × AddsAll c old before × Adds asked answer before new
AddsAll (move ∷ c) old new = AddsAll c old new

-- each request got an answer that it may get: no page was refused for now
abbrev pub AllGiven : Course → Type 0
AllGiven [] = Unit {0}
AllGiven (Did (deed.Asked asked answer) ∷ c) = IsGiven asked answer × AllGiven c
AllGiven (move ∷ c) = AllGiven c

-- the end of a session aborts a job in hand, if it can
abbrev pub AddsAtEnd : (in_hand : Bool) → (old new : Sums) → Type 0
AddsAtEnd true old new = OneOrNone kind.Aborted old new
AddsAtEnd false old new = new ≡ old
