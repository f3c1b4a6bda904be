-- Whether the page that is next for a printer is the first of a job.
use Rattle.std.proofs.Common.{◌≡◌, ℕ, zero, suc, ◌-◌, ◌<◌, true, false, nat_eq, List, [], ◌∷◌, length, get_or, refl, arith}
use Rattle.std.proofs.lemmas.Bool.Decides.{nat_tests}
use Rattle.std.specs.Prelude.{None}
use Rattle.page_chain.specs.declared.place.Place.{Place}
use Rattle.held_jobs.specs.Books.{job_at}
use Rattle.config_values.specs.Config.{IsPrinter}
use Rattle.spool_history.specs.Base.{Base}
use Rattle.spool_history.specs.Events.{Event}
use Rattle.spool_calls.specs.declared.printer.Printer.{Printer}
use Rattle.spool_calls.specs.Looks.{Detail, What}
use Rattle.spool_calls.specs.Kept.{Kept, Leaves}
use Rattle.step_lemmas.proofs.Cores.Handing.{Waits, hands_first, held}
use Rattle.spool_core.specs.Due.{HasTurn, IsTurn}
use Rattle.spool_core.specs.Printers.{BeginsNext}

same_at : {A : Type 0} (xs : List A) (i : ℕ) (x : A) → get_or xs i x ≡ get_or xs i (get_or xs i x)
same_at [] i x = refl
same_at (y ∷ ys) zero x = refl
same_at (y ∷ ys) (suc i) x = same_at ys i x

pub is_zero : (n : ℕ) → nat_eq n 0 ≡ true → n ≡ 0
is_zero n e = grind (arith, nat_tests)

abbrev no_printer : Printer
no_printer = record { queue = 0; out = None; began = None; stopped = false }

module _ (d : Detail) (b : Base) (h : List (Event (What d))) (k : Kept) (l : Leaves d b h k) (p : ℕ) (ip : IsPrinter k.config p) (i : ℕ) (place : Place) (turn : IsTurn k p i place) where
  -- the printer whose turn it is
  abbrev at : Printer
  at = get_or k.printers (p - 1) no_printer

  at_is : at ≡ get_or k.printers (p - 1) at
  at_is = same_at k.printers (p - 1) no_printer

  has : HasTurn k at i place
  has = turn at at_is

  waits : Waits k at
  waits = record { open' = has.open'; runs = has.runs; idle = has.idle }

  -- its job is held
  pub turn_within : i < length k.book.jobs
  turn_within = held d b h k l p ip at at_is waits i has.turn

  -- and begins now exactly where no page of it was handed out
  pub turn_begins : ((job_at k.book i).facts.handed ≡ 0 → BeginsNext d b h k p) × (BeginsNext d b h k p → (job_at k.book i).facts.handed ≡ 0)
  turn_begins = hands_first d b h k l p ip at at_is waits i has.turn place has.first
