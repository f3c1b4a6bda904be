-- Nothing leaves after the close, nor after a job's end.
use Rattle.std.proofs.Common.{ℕ, List, [], ◌∷◌}
use Rattle.spool_history.specs.Base.{Base}
use Rattle.spool_history.specs.Events.{Event, Sheet}
use Rattle.spool_history.specs.Events.Turn.{Handed}
use Rattle.spool_history.specs.Events.Event.{AtPrinter}
use Rattle.config_values.specs.Config.{Config}
use Rattle.spool_history.specs.Now.{now}
use Rattle.spool_history.specs.Next.{printer_at}
use Rattle.spool_history.specs.Legal.{IsLegal, May}
use Rattle.spool_laws.specs.Leaving.{EachHanded, IsOpen, HasNotEnded}
use Rattle.spool_laws.proofs.Turns.{given, given_at}

-- what holds of each page that may be handed holds of each that was
pub each_handed : {C : Type 0} (size : C → ℕ) (c : Config) (base : Base) (P : List (Event C) → Sheet C → Type 0) (h : List (Event C))
    → ((h : List (Event C)) (p : ℕ) (sheet : Sheet C) → IsLegal size c base h → May size (now c base h) (AtPrinter p sheet Handed) → P h sheet) → IsLegal size c base h → EachHanded P h
each_handed size c base P [] each l = tt
each_handed size c base P (AtPrinter p sheet Handed ∷ h) each l = (each h p sheet l.1 l.0, each_handed size c base P h each l.1)
each_handed size c base P (_ ∷ h) each l = each_handed size c base P h each l.1

pub each_open : {C : Type 0} (size : C → ℕ) (c : Config) (base : Base) (h : List (Event C)) → IsLegal size c base h → EachHanded (IsOpen base) h
each_open size c base h l = each_handed size c base (IsOpen base) h (λ h p sheet l m. (given (now c base h) p sheet m.1).0) l

pub each_going : {C : Type 0} (size : C → ℕ) (c : Config) (base : Base) (h : List (Event C)) → IsLegal size c base h → EachHanded HasNotEnded h
each_going size c base h l = each_handed size c base HasNotEnded h (λ h p sheet l m. (given_at c base h (printer_at (now c base h) p) sheet (given (now c base h) p sheet m.1).1).is.goes_on) l
