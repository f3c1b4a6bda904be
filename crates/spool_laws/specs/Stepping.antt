-- Where a legal event leaves a spool.
use Rattle.std.specs.Prelude.{◌≡◌, ℕ, List, ◌∷◌}
use Rattle.spool_history.specs.Events.{Event}
use Rattle.config_values.specs.Config.{Config}
use Rattle.spool_history.specs.Base.{Base}
use Rattle.spool_history.specs.Now.{State, now}
use Rattle.spool_history.specs.Steps.{after}
use Rattle.spool_history.specs.Legal.{May, IsLegal, IsLeftBy}

-- one more legal event leaves a spool where its step leads from where the events before it left it
abbrev pub StepLeads : Type 0 → Type 0
StepLeads C =
    (size : C → ℕ) (c : Config) (b : Base) (h : List (Event C)) (e : Event C) → IsLegal size c b h
    → May size (now c b h) e → now c b (e ∷ h) ≡ after e (now c b h)

-- so a state that is changed by an event's step is the one that the longer history leaves
abbrev pub StepKeeps : Type 0 → Type 0
StepKeeps C =
    (size : C → ℕ) (b : Base) (h : List (Event C)) (e : Event C) (v : State C)
    → IsLeftBy size b h v → May size v e → IsLeftBy size b (e ∷ h) (after e v)
