-- What is logged of the ends of sessions.
use Rattle.std.specs.Prelude.{ℕ, Bool, List, Option, Some, None, codes, not, true}
use Rattle.lpd_values.specs.declared.refusal.Refusal.{Refusal}
use Rattle.lpd_values.specs.declared.refusal.Refusal.TheVariants.{NotOpen}
use Rattle.request_session.specs.declared.ending.SessionEnd.{SessionEnd}
use Rattle.request_session.specs.declared.ending.SessionEnd.TheVariants as session

-- why a session failed, if it did; of one that was refused the refusal is logged, with its number
abbrev pub failure_text : SessionEnd → Option (List ℕ)
failure_text session.Finished = None
failure_text session.Closed = None
failure_text (session.Refused refusal) = None
failure_text session.Broken = Some (codes "the connection ended in the middle")
failure_text session.ReadFault = Some (codes "reading failed, or the peer was silent")
failure_text session.WriteFault = Some (codes "writing failed")
failure_text session.Memory = Some (codes "memory was refused")

-- the log is told of a refusal, but of that of a job that isn't kept, of which it knows why
abbrev pub is_told : Refusal → Bool → Bool
is_told NotOpen is_unkept = not is_unkept
is_told refusal is_unkept = true
