-- Which events entries tell of: those whose numbers, names and octets an entry can have.
use Rattle.std.specs.Prelude.{◌≡◌, ◌<◌, ◌^◌, ℕ, length, IsTrue}
use Rattle.std.specs.List.{AllByRecursion}
use Rattle.hex.specs.Hex.{IsBytes}
use Rattle.lpd_values.specs.Contents.{Contents}
use Rattle.lpd_values.specs.Kept.{is_operand, is_print_list}
use Rattle.lpd_values.specs.Name.{IsFileName}
use Rattle.spool_history.specs.Events.{Act, Sheet, Event}
use Rattle.spool_history.specs.Events.Act.{Granted, Began, Put, FileEnded, Controlled, Aborted}
use Rattle.spool_history.specs.Events.Event.{Opened, OfJob, AtPrinter, Removed, Started, Closed}
use Rattle.account.specs.declared.entry.Outline.{Outline}

abbrev pub IsU64 : ℕ → Type 0
IsU64 n = n < 2 ^ 64

abbrev pub IsU32 : ℕ → Type 0
IsU32 n = n < 2 ^ 32

abbrev pub IsOutline : Outline → Type 0
IsOutline page = IsU32 page.length × (length page.digest ≡ 32) × IsBytes page.digest

abbrev pub IsControl : Contents → Type 0
IsControl control =
    (control.number < 1000) × (IsTrue (is_operand control.host) × IsBytes control.host)
    × (IsTrue (is_operand control.user) × IsBytes control.user) × IsTrue (is_print_list control.prints)

abbrev pub IsAct : Act Outline → Type 0
IsAct Granted = Unit {0}
IsAct (Began name count) = IsFileName name × IsU64 count
IsAct (Put file number page) = IsU64 file × IsU64 number × IsOutline page
IsAct (FileEnded file whole) = IsU64 file
IsAct (Controlled control whole) = IsControl control
IsAct Aborted = Unit {0}

abbrev pub IsSheet : Sheet Outline → Type 0
IsSheet sheet = IsU64 sheet.job × IsU64 sheet.place × IsU64 sheet.file × IsU64 sheet.number × IsOutline sheet.page

abbrev pub IsTold : Event Outline → Type 0
IsTold (Opened job sender queue) = IsU64 job × IsU32 sender × IsU32 queue
IsTold (OfJob job did) = IsU64 job × IsAct did
IsTold (AtPrinter printer sheet turn) = IsU32 printer × IsSheet sheet
IsTold (Removed queue jobs) = IsU32 queue × AllByRecursion IsU64 jobs
IsTold (Started queue) = IsU32 queue
IsTold Closed = Unit {0}
