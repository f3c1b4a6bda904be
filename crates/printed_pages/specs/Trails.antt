-- How a printer's file goes on, by what the account says.
use Rattle.std.specs.Prelude.{◌≡◌, ◌<◌, ◌≤◌, ◌+◌, ◌-◌, ◌==◌, ◌^◌, ◌⊎◌, ℕ, List, [], ◌∷◌, Option, Some, None, if◌then◌else◌, min}
use Rattle.spool_history.specs.Events.{Event, Sheet}
use Rattle.spool_history.specs.Events.Event.{AtPrinter}
use Rattle.spool_history.specs.Events.Turn.{Printed, Failed}
use Rattle.account.specs.declared.entry.Outline.{Outline}
use Rattle.account.specs.declared.entry.Sheet as D
use Rattle.account.specs.Seen.{octets, sheet_seen}
use Rattle.printed_pages.specs.declared.source.TrailFault.{TrailFault}
use Rattle.printed_pages.specs.declared.source.TrailFault.TheVariants as fault
use Rattle.printed_pages.specs.declared.trail.PrinterTrail.{PrinterTrail}
use Rattle.printed_pages.specs.declared.trail.RunBegins.{RunBegins}
use Rattle.printed_pages.specs.declared.trail.RunBegins.TheVariants as run
use Rattle.printed_pages.specs.Sources.{IsThere}

-- what an entry says of a printer's file: nothing, or that a page was printed, or that one failed
pub data Fate : Type 0 where
  Nothing : Fate
  Prints : (sheet : Sheet Outline) → Fate
  Fails : Fate

abbrev pub fate_at : ℕ → Event Outline → Fate
fate_at p (AtPrinter q sheet (Printed progress)) = if q == p then Prints sheet else Nothing
fate_at p (AtPrinter q sheet Failed) = if q == p then Fails else Nothing
fate_at p _ = Nothing

-- a sum of octets that are told, up to the last number of 64 bits
abbrev pub told_sum : ℕ → ℕ → ℕ
told_sum a b = min (a + b) (2 ^ 64 - 1)

-- what a printed page of so many octets makes of a trail: it is judged where its place is known
abbrev pub printed_at : Option ℕ → ℕ → PrinterTrail → PrinterTrail
printed_at (Some at) n t = record t { position = Some (at + n); judged = told_sum t.judged n }
printed_at None n t = record t { unjudged = told_sum t.unjudged n }

-- what an entry makes of it: where a page failed, how much of it is in the file isn't known
abbrev pub behind : Fate → PrinterTrail → PrinterTrail
behind Nothing t = t
behind (Prints sheet) t = printed_at t.position (octets sheet.page) t
behind Fails t = record t { position = None }

-- where an entry says that a page was printed, and it is known where that begins, the file has it there
abbrev pub IsRead : Fate → (position : Option ℕ) → (file : Option (List ℕ)) → Type 0
IsRead (Prints sheet) (Some at) file = IsThere at file sheet.page
IsRead _ _ file = Unit {0}

-- what is told where a run begins: the pages before ended in one place, and the file had this length
abbrev pub IsSaid : (before length : Option ℕ) → RunBegins → Type 0
IsSaid (Some before) (Some length) run.There = before ≡ length
IsSaid (Some before) (Some length) (run.Behind n) = (0 < n) × (length ≡ before + n)
IsSaid (Some before) (Some length) (run.Shorter n) = (0 < n) × (before ≡ length + n)
IsSaid _ _ run.There = Unit {0}
IsSaid _ _ _ = ⊥

-- a place that is told lies in a page that begins here
abbrev pub IsIn : (printer : ℕ) → (at : ℕ) → Sheet Outline → TrailFault → Type 0
IsIn printer at sheet (fault.Differs d) =
    (d.printer ≡ printer) × (d.job ≡ sheet.job) × (d.place ≡ sheet.place) × (at ≤ d.octet) × (d.octet ≤ at + octets sheet.page)
IsIn printer at sheet _ = Unit {0}

-- a fault is of a page that an entry says was printed, where it is known where it begins
abbrev pub IsOfPage : PrinterTrail → Event Outline → TrailFault → Type 0
IsOfPage t e f =
    (sheet : Sheet Outline) × (at : ℕ) × (fate_at t.printer e ≡ Prints sheet) × (t.position ≡ Some at) × IsIn t.printer at sheet f

-- a fault is of one of the pages that lie one after the other from here on; what lies behind the last one is told of that
abbrev pub IsOfOne : (printer : ℕ) → (at : ℕ) → List D.Sheet → TrailFault → Type 0
IsOfOne printer at [] f = ⊥
IsOfOne printer at (s ∷ ss) f = IsIn printer at (sheet_seen s) f ⊎ IsOfOne printer (at + s.page.length) ss f

-- nothing is told of what lies behind the last page: it isn't known where that ended, or the file ends before
abbrev pub IsNoTail : Option ℕ → ℕ → Type 0
IsNoTail None length = Unit {0}
IsNoTail (Some at) length = length < at
