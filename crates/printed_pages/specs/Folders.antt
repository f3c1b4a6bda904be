-- Which pages the file of a job has in a folder.
use Rattle.std.specs.Prelude.{◌==◌, ℕ, List, [], ◌∷◌, ◌++◌, Option, Some, None, if◌then◌else◌}
use Rattle.account.specs.declared.entry.Entry.{Entry}
use Rattle.account.specs.declared.entry.Entry.TheVariants as entry
use Rattle.account.specs.declared.entry.Progress.TheVariants as progress
use Rattle.account.specs.declared.entry.Sheet.{Sheet}
use Rattle.account.specs.declared.entry.Turn.{Turn}
use Rattle.account.specs.declared.entry.Turn.TheVariants as turn

-- the pages that were printed so far of the job at a folder's printer, by one entry more: the first page that is handed of a job
-- begins anew, and a job that ended without its last page leaves none
abbrev pub turned : Sheet → Turn → List Sheet → List Sheet
turned sheet turn.Handed sheets = if sheet.place == 0 then [] else sheets
turned sheet (turn.Printed progress.Going) sheets = sheets ++ sheet ∷ []
turned sheet (turn.Printed progress.Done) sheets = []
turned sheet (turn.Printed progress.Ended) sheets = []
turned sheet turn.Failed sheets = []

-- the pages of a job whose last place was printed
abbrev pub whole_by : Sheet → Turn → List Sheet → Option (List Sheet)
whole_by sheet (turn.Printed progress.Done) sheets = Some (sheets ++ sheet ∷ [])
whole_by sheet _ sheets = None

-- the pages of the job at a printer, and those of one that is whole, by one entry more
abbrev pub pages_by : ℕ → Entry → List Sheet → List Sheet
pages_by p (entry.AtPrinter q sheet became) sheets = if q == p then turned sheet became sheets else sheets
pages_by p _ sheets = sheets

abbrev pub job_by : ℕ → Entry → List Sheet → Option (List Sheet)
job_by p (entry.AtPrinter q sheet became) sheets = if q == p then whole_by sheet became sheets else None
job_by p _ sheets = None
