-- What a sink's connections took of a job, from its first page until it is left.
use Rattle.std.specs.Prelude.{◌≡◌, ◌⊎◌, ℕ, Bool, false, List, [], ◌∷◌, ◌++◌, Option, Some, take, if◌then◌else◌}
use Rattle.printer_sinks.specs.declared.stage.SinkStage.TheVariants.{Idle}
use Rattle.printer_sinks.specs.Connections.{Connection, Desk, Sends, new_connection}

-- a page that a sink was given, and whether it was told Ok
pub record Given : Type 0 where
  pub octets : List ℕ
  pub ok : Bool

-- a sink was given these pages of a job, one after another
abbrev pub Visits : (job : ℕ) → List Given → (old new : Desk) → Type 0
Visits job [] old new = new ≡ old
Visits job (page ∷ pages) old new = (mid : Desk) × Sends job page.octets page.ok old mid × Visits job pages mid new

-- a sink that is at no job
abbrev pub at_rest : List Connection → Desk
at_rest connections = record { stage = Idle; connections = Some connections }

-- the octets of the pages that were told Ok, joined in order
abbrev pub told_ok : List Given → List ℕ
told_ok [] = []
told_ok (page ∷ pages) = if page.ok then page.octets ++ told_ok pages else told_ok pages

-- the beginning of one of the pages that weren't
abbrev pub Begins : (part : List ℕ) → List Given → Type 0
Begins part [] = ⊥
Begins part (page ∷ pages) = ((page.ok ≡ false) × ((n : ℕ) × (part ≡ take n page.octets))) ⊎ Begins part pages

-- a job's connection took the pages that were told Ok and nothing else, or then a beginning of one that wasn't
abbrev pub Took : List Given → (took : List ℕ) → Type 0
Took pages took = (took ≡ told_ok pages) ⊎ ((part : List ℕ) × (took ≡ told_ok pages ++ part) × Begins part pages)

-- no connection took an octet, and no page with an octet was told Ok; or one did, of this job
abbrev pub AddsOne : (job : ℕ) → List Given → (old : List Connection) → (new : Option (List Connection)) → Type 0
AddsOne job pages old new =
    ((new ≡ Some old) × (told_ok pages ≡ []))
    ⊎ ((took : List ℕ) × (new ≡ Some (new_connection job took old)) × Took pages took)
