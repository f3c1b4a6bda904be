-- That a spool stays safe.
use Rattle.std.specs.Prelude.{ℕ, ◌≤◌, List}
use Rattle.spool_history.specs.Events.{Event}
use Rattle.config_values.specs.Config.{IsQueue, Config, queue_at, limit_of}
use Rattle.spool_history.specs.Base.{Base}
use Rattle.spool_history.specs.Now.{now, IsSafeNow}
use Rattle.spool_history.specs.Legal.{IsLegal}

-- a job of any queue could hold all that it may while it is alone: the pages are there, and a printer
pub record EachCouldFinish (c : Config) : Type 0 where
  pub pages : (q : ℕ) → IsQueue c q → limit_of c q ≤ c.pages
  pub printers : (q : ℕ) → IsQueue c q → 1 ≤ (queue_at c q).printers

-- after every legal history the held jobs have a finishing order
abbrev pub StaysSafe : Type 0 → Type 0
StaysSafe C =
    (size : C → ℕ) (c : Config) (b : Base) (h : List (Event C)) → EachCouldFinish c
    → IsLegal size c b h → IsSafeNow (now c b h)
