-- How printers visit jobs.
use Rattle.std.specs.Prelude.{◌≡◌, ℕ, ◌==◌, ◌&&◌, ◌||◌, Bool, true, false, List, [], ◌∷◌, if◌then◌else◌}
use Rattle.config_values.specs.Config.{Config}
use Rattle.spool_history.specs.Base.{Base}
use Rattle.spool_history.specs.Events.{Event}
use Rattle.spool_history.specs.Events.Event.{AtPrinter}
use Rattle.spool_history.specs.Said.{is_handed}
use Rattle.spool_history.specs.Legal.{IsLegal}
use Rattle.printer_sinks.specs.Runs.{AreApart}

-- one visit more, or the same one still
abbrev pub and_visit : (job : ℕ) → List ℕ → List ℕ
and_visit job [] = job ∷ []
and_visit job (last ∷ earlier) = if last == job then last ∷ earlier else job ∷ last ∷ earlier

-- the jobs of which a printer was handed pages, the newest first: once for all pages that came one after another
abbrev pub visits_at : {C : Type 0} → List (Event C) → (printer : ℕ) → List ℕ
visits_at [] p = []
visits_at (AtPrinter q sheet turn ∷ h) p = if (q == p) && is_handed turn then and_visit sheet.job (visits_at h p) else visits_at h p
visits_at (_ ∷ h) p = visits_at h p

-- whether a printer was handed a page of a job
abbrev pub was_at : {C : Type 0} → List (Event C) → (printer job : ℕ) → Bool
was_at [] p j = false
was_at (AtPrinter q sheet turn ∷ h) p j = (((q == p) && is_handed turn) && (sheet.job == j)) || was_at h p j
was_at (_ ∷ h) p j = was_at h p j

-- no printer comes to a job again that it has left
abbrev pub VisitsEachOnce : Type 0 → Type 0
VisitsEachOnce C =
    (size : C → ℕ) (c : Config) (b : Base) (h : List (Event C)) → IsLegal size c b h → (p : ℕ) → AreApart (visits_at h p)

-- and no two printers come to one
abbrev pub VisitedByOne : Type 0 → Type 0
VisitedByOne C =
    (size : C → ℕ) (c : Config) (b : Base) (h : List (Event C)) → IsLegal size c b h → (p q j : ℕ)
    → was_at h p j ≡ true → was_at h q j ≡ true → p ≡ q
