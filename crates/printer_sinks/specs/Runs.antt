-- Jobs that a sink was at, one after another, each left before the next.
use Rattle.std.specs.Prelude.{◌≡◌, ℕ, List, [], ◌∷◌, Some}
use Rattle.printer_sinks.specs.Connections.{Connection, Desk}
use Rattle.printer_sinks.specs.Visits.{Given, Visits, at_rest}

-- a job's number, and its pages as they were told
pub record Visit : Type 0 where
  pub job : ℕ
  pub pages : List Given

-- these jobs, from some connections to others
abbrev pub Runs : List Visit → (old new : List Connection) → Type 0
Runs [] old new = new ≡ old
Runs (visit ∷ visits) old new =
    (mid : Desk) × (connections : List Connection) × Visits visit.job visit.pages (at_rest old) mid × (mid.connections ≡ Some connections) × Runs visits connections new

-- the jobs of connections, and those that the sink was at
abbrev pub jobs_of : List Connection → List ℕ
jobs_of [] = []
jobs_of (connection ∷ connections) = connection.job ∷ jobs_of connections

abbrev pub visited : List Visit → List ℕ
visited [] = []
visited (visit ∷ visits) = visit.job ∷ visited visits

-- none of these is this job
abbrev pub IsNew : (job : ℕ) → List ℕ → Type 0
IsNew job [] = Unit {0}
IsNew job (other ∷ others) = (other ≡ job → ⊥) × IsNew job others

-- no two of these are one job
abbrev pub AreApart : List ℕ → Type 0
AreApart [] = Unit {0}
AreApart (job ∷ jobs) = IsNew job jobs × AreApart jobs
