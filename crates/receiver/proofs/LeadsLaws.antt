-- One call after another.
use Rattle.std.proofs.Common.{◌≡◌, ℕ, true, false, List, [], ◌∷◌, ◌++◌, Some, None, IsSome, refl, append_assoc, append-nil}
use Rattle.receiver.specs.Reading.{Progress}
use Rattle.receiver.specs.Reads.{ReadsFrom, ReadsOwed}
use Rattle.receiver.specs.Leads.{LeadsAtStart, LeadsOnArrival, LeadsOnAdvance, LeadsOnReply, LeadsToReading}

pub at_start : LeadsAtStart
at_start t a os h = h

pub on_arrival : LeadsOnArrival
on_arrival os text a s rest piece l t b more h = rw append_assoc (l (piece ++ t) b more (rw append_assoc at h))

pub on_advance : LeadsOnAdvance
on_advance os more text a old new input rest g l t b next h = rw append_assoc (l t b (more ++ next) (g t b next h))

pub on_reply : LeadsOnReply
on_reply os text a old new rest x g l t b next h = rw append_assoc (l t (x ∷ b) next (g (rest ++ t) b next h))

pub to_reading : LeadsToReading
to_reading os text a s rest t b l h = rw append-nil at (l t b [] h)
