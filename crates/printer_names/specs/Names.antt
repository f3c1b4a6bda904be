-- Which printer of a configuration a name means: `5` the printer of that number, `lp` the first one of the queue lp, `lp.2` its second one.
-- Digits alone are a number, whatever queue is called so. Where a name means two printers, as `a.2` where there are a queue a of two printers
-- and a queue a.2, it means none.
use Rattle.std.specs.Prelude.{◌≡◌, ◌⊎◌, ◌+◌, ◌<◌, ◌^◌, ◌==◌, ◌++◌, ◌∷◌, MatchOption, ℕ, true, false, zero, suc, List, Option, Some, None, Result, Ok, Err, if◌then◌else◌}
use Rattle.std.specs.Fmt.{decimal}
use Rattle.config_values.specs.Config as C
use Rattle.program_edge.specs.Numerals.{IsPlainNumber}
use Rattle.printer_names.specs.Texts.{is_digits}
use Rattle.printer_names.specs.declared.resolving.NameFault.{NameFault}
use Rattle.printer_names.specs.declared.resolving.NameFault.TheVariants.{Unknown, Ambiguous}

-- how many of the printers up to this number serve a queue
abbrev pub served_by : C.Config → (queue : ℕ) → (printer : ℕ) → ℕ
served_by c queue zero = 0
served_by c queue (suc p) = served_by c queue p + (if C.queue_of c (suc p) == queue then 1 else 0)

-- a printer is the nth of those that serve a queue
pub record IsNthOf (c : C.Config) (queue nth printer : ℕ) : Type 0 where
  pub there : C.IsPrinter c printer
  pub serves : C.queue_of c printer ≡ queue
  pub place : served_by c queue printer ≡ nth

-- the name is a printer's number
abbrev pub IsNumbered : C.Config → List ℕ → ℕ → Type 0
IsNumbered c name printer = IsPlainNumber name printer × C.IsPrinter c printer

-- the name is a queue's, and this its first printer
abbrev pub IsFirst : C.Config → List ℕ → ℕ → Type 0
IsFirst c name printer = (0 < C.queue_named c name) × IsNthOf c (C.queue_named c name) 1 printer

-- the name is a queue's with a point and a number behind it, and this the printer of the queue that the number says
abbrev pub IsNumberedOf : C.Config → List ℕ → ℕ → Type 0
IsNumberedOf c name printer =
    (queue : List ℕ) × (nth : ℕ) × (name ≡ queue ++ 46 ∷ decimal nth) × (nth < 2 ^ 64)
    × (0 < C.queue_named c queue) × IsNthOf c (C.queue_named c queue) nth printer

abbrev pub NoOne : (ℕ → Type 0) → Type 0
NoOne P = (printer : ℕ) → P printer → ⊥

-- what was found is such a printer, and nothing was only where there is none
abbrev pub IsFound : (ℕ → Type 0) → Option ℕ → Type 0
IsFound P found = MatchOption found (NoOne P) P

-- the name means this printer alone, by its queue
abbrev pub IsOfQueue : C.Config → List ℕ → ℕ → Type 0
IsOfQueue c name printer =
    (IsFirst c name printer × NoOne (IsNumberedOf c name)) ⊎ (IsNumberedOf c name printer × NoOne (IsFirst c name))

-- the one that is there of two
abbrev pub only_one : Option ℕ → Option ℕ → Result ℕ NameFault
only_one None None = Err Unknown
only_one None (Some printer) = Ok printer
only_one (Some printer) None = Ok printer
only_one (Some first) (Some other) = Err Ambiguous

-- which printer a name means, or why none
abbrev pub Means : C.Config → List ℕ → Result ℕ NameFault → Type 0
Means c name (Ok printer) =
    ((is_digits name ≡ true) × IsNumbered c name printer) ⊎ ((is_digits name ≡ false) × IsOfQueue c name printer)
Means c name (Err Unknown) =
    ((is_digits name ≡ true) × NoOne (IsNumbered c name))
    ⊎ ((is_digits name ≡ false) × NoOne (IsFirst c name) × NoOne (IsNumberedOf c name))
Means c name (Err Ambiguous) =
    (is_digits name ≡ false) × ((p : ℕ) × IsFirst c name p) × ((p : ℕ) × IsNumberedOf c name p)
