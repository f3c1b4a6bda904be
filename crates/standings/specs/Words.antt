-- What is said of jobs, and what they are called.
use Rattle.std.specs.Prelude.{ℕ, ◌-◌, ◌^◌, false, List, [], ◌++◌, Option, Some, None, codes}
use Rattle.std.specs.Fmt.{decimal, format_spec, padded_integral}
use Rattle.standings.specs.declared.job.JobStanding.{JobStanding}
use Rattle.standings.specs.declared.job.JobStanding.TheVariants as job
use Rattle.standings.specs.declared.numbers.JobName.{JobName}
use Rattle.standings.specs.declared.numbers.JobNumber.{JobNumber}
use Rattle.standings.specs.declared.numbers.JobNumber.TheVariants as number
use Rattle.standings.specs.declared.numbers.JobNumbers.{JobNumbers}

abbrev pub standing_words : JobStanding → List ℕ
standing_words job.Begun = codes "nothing of it came yet"
standing_words (job.Arriving came told) = decimal came ++ (codes " of " ++ (decimal told ++ codes " pages came"))
standing_words job.NoPageFree = codes "waits for a page: none is free"
standing_words (job.PagesKept number) = codes "waits for a page: those free are kept for job " ++ decimal number
standing_words job.PageWanted = codes "waits for a page"
standing_words (job.Behind number) = codes "waits behind job " ++ (decimal number ++ codes " of its sender")
standing_words job.PrinterWanted = codes "waits for a printer"
standing_words job.QueueHeld = codes "waits: its queue is held"
standing_words job.PrintersStopped = codes "waits: the printers of its queue are stopped"
standing_words (job.PrinterUnreached number) = codes "waits: printer " ++ (decimal number ++ codes " isn't reached")
standing_words (job.Printing number page) = codes "page " ++ (decimal page ++ (codes " is at printer " ++ decimal number))
standing_words job.NextPageDue = codes "its next page is due"
standing_words job.Ending = codes "a page of it is still at a printer"
standing_words job.KeptInFolder = codes "waits to be fed"
standing_words job.FailedInFolder = codes "has failed"

-- a number in three digits at least
abbrev pub three_digits : ℕ → List ℕ
three_digits number = padded_integral (format_spec 32 0 4 3 (2 ^ 64 - 1)) false [] (decimal number)

-- the number that a sender gave its job, behind a space
abbrev pub client_words : Option ℕ → List ℕ
client_words None = []
client_words (Some given) = codes " (" ++ (three_digits given ++ codes ")")

-- the number by which a person names it
abbrev pub number_words : JobNumber → List ℕ
number_words (number.Accepted job) = codes "job " ++ decimal job
number_words (number.File file) = codes "file " ++ decimal file

-- job 5 (002), or file 7 (002)
abbrev pub name_words : JobName → List ℕ
name_words name = number_words name.number ++ client_words name.client

-- that of its file, which lasts, or else that of its acceptance
abbrev pub number_of : Option ℕ → ℕ → JobNumber
number_of None job = number.Accepted job
number_of (Some file) job = number.File file

abbrev pub name_of : JobNumbers → ℕ → JobName
name_of numbers job = record { number = number_of numbers.file job; client = numbers.client }
