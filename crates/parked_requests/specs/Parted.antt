-- What a request comes to at a spool of which each queue has a part.
use Rattle.std.specs.Prelude.{◌≡◌, ◌⊎◌, ℕ, List, Result}
use Rattle.lpd_values.specs.declared.refusal.Refusal.{Refusal}
use Rattle.lpd_values.specs.declared.refusal.Refusal.TheVariants.{TableFull}
use Rattle.receiver.specs.Script.{Request, Open}
use Rattle.spool_requests.specs.Follows.{opened_by}
use Rattle.spool_requests.specs.declared.answer.Answer.{Answer}
use Rattle.spool_requests.specs.declared.answer.Answer.TheVariants.{Refused}
use Rattle.parked_requests.specs.Ways.{Carrying}

-- a job that is opened is refused for now, and nothing is asked of the spool
abbrev pub TurnsAway : {Q : Type 0} → Request → Answer → (old new : Q) → Type 0
TurnsAway (Open queue) (Refused TableFull) old new = new ≡ old
TurnsAway r answer old new = ⊥

-- a job is opened in the spool, or refused by it, or turned away
abbrev pub OpensWithin : {Q : Type 0} → Carrying Q → Q → (sender job : ℕ) → (queue : List ℕ) → Result ℕ Refusal → Q → Type 0
OpensWithin carries old sender job queue result new =
    carries old sender job (Open queue) (opened_by result) new ⊎ TurnsAway (Open queue) (opened_by result) old new
