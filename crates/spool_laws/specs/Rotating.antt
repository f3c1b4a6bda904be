-- What a rotation keeps: a history that leaves no job held, and the base after it.
use Rattle.std.specs.Prelude.{◌≡◌, ◌↔◌, ℕ, ◌+◌, ◌<◌, ◌≤◌, ◌^◌, false, List, [], None, map}
use Rattle.config_values.specs.Config.{Config, IsQueue, reserve_of}
use Rattle.spool_history.specs.Base.{Base}
use Rattle.spool_history.specs.Events.{Event}
use Rattle.spool_history.specs.Now.{Printer, State, now}
use Rattle.spool_history.specs.Rotated.{rotated, stopped_in}
use Rattle.spool_history.specs.Legal.{IsLegal, MayOpen}
use Rattle.spool_laws.specs.Reserve.{CountsStops}

-- the spool as it stands, but for its counted reserve, and for the jobs that its printers began, none of which is held
abbrev pub recounted : {C : Type 0} → State C → State C
recounted {C} v = record v {
  reserved = stopped_in v;
  printers = map (λ (printer : Printer C). record printer { began = None }) v.printers;
}

-- from the base after it, with no events, the spool is where the history left it
abbrev pub RotationKeeps : Type 0 → Type 0
RotationKeeps C =
    (size : C → ℕ) (c : Config) (b : Base) (h : List (Event C)) → IsLegal size c b h
    → (now c b h).jobs ≡ [] → now c (rotated (now c b h)) [] ≡ recounted (now c b h)

-- that base counts its stopped printers
abbrev pub RotationCounts : Type 0 → Type 0
RotationCounts C =
    (c : Config) (b : Base) (h : List (Event C)) → CountsStops c (rotated (now c b h))

-- from that base a job may be opened exactly where the limits say
abbrev pub RotationOpens : Type 0 → Type 0
RotationOpens C =
    (c : Config) (b : Base) (h : List (Event C)) (j q : ℕ)
    → let v : State C = now c b h in MayOpen (now {C = C} c (rotated v) []) j q
    ↔ (v.closed ≡ false) × IsQueue c q × (0 < c.max_jobs)
    × (stopped_in v + reserve_of c q + 1 ≤ c.account) × (j ≡ v.accepted + 1) × (j < 2 ^ 64)
