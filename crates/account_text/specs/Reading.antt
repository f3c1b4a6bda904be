-- What a line says, as a function of its octets. It is read by its words, so this takes more lines than are written: that
-- it is the line of what it says is asked beside.
use Rattle.std.specs.Prelude.{ℕ, Bool, true, false, ◌==◌, ◌&&◌, ◌^◌, nat_lt, List, [], ◌∷◌, ◌++◌, Option, Some, None, Result, Ok, Err, codes, if◌then◌else◌}
use Rattle.std.specs.Str.{bytes_eq}
use Rattle.std.specs.Fmt.{decimal}
use Rattle.hex.specs.Hex.{decode_sized}
use Rattle.percent_encoding.specs.Percent.{percent_decode}
use Rattle.lpd_values.specs.Contents.{Contents}
use Rattle.lpd_values.specs.Digits.{count_of}
use Rattle.lpd_values.specs.Kept.{is_operand, is_print_list}
use Rattle.lpd_values.specs.Name.{is_file_name}
use Rattle.lpd_values.specs.Pieces.{pieces_of}
use Rattle.spool_history.specs.Events.{Act, Sheet, Progress, Turn, Event}
use Rattle.spool_history.specs.Events as E
use Rattle.account.specs.declared.entry.Outline.{Outline}
use Rattle.account.specs.declared.kind.Kind.{Kind}
use Rattle.account.specs.declared.kind.Kind.TheVariants as kind

-- the words of a line: what stands between its spaces
abbrev pub is_gap : ℕ → Bool
is_gap b = b == 32

abbrev pub words_of : List ℕ → List (List ℕ)
words_of = pieces_of is_gap

-- the kind of an entry, by the first word
abbrev pub kind_of : List ℕ → Option Kind
kind_of word =
    if bytes_eq word (codes "opened") then Some kind.Opened
    else if bytes_eq word (codes "granted") then Some kind.Granted
    else if bytes_eq word (codes "began") then Some kind.Began
    else if bytes_eq word (codes "put") then Some kind.Put
    else if bytes_eq word (codes "ended") then Some kind.FileEnded
    else if bytes_eq word (codes "controlled") then Some kind.Controlled
    else if bytes_eq word (codes "aborted") then Some kind.Aborted
    else if bytes_eq word (codes "handed") then Some kind.Handed
    else if bytes_eq word (codes "printed") then Some kind.Printed
    else if bytes_eq word (codes "failed") then Some kind.Failed
    else if bytes_eq word (codes "started") then Some kind.Started
    else if bytes_eq word (codes "removed") then Some kind.Removed
    else if bytes_eq word (codes "closed") then Some kind.Closed
    else None

-- a word is what is written of a number below this bound
abbrev pub spells : ℕ → List ℕ → Bool
spells bound word = nat_lt (count_of word) bound && bytes_eq word (decimal (count_of word))

-- the number of which a word is what is written, where it is below a bound
abbrev pub number_below : ℕ → List ℕ → Option ℕ
number_below bound word = if spells bound word then Some (count_of word) else None

abbrev pub number_of : List ℕ → Option ℕ
number_of = number_below (2 ^ 64)

abbrev pub short_of : List ℕ → Option ℕ
short_of = number_below (2 ^ 32)

-- a job's number on its control file
abbrev pub job_number_of : List ℕ → Option ℕ
job_number_of = number_below 1000

abbrev pub name_of : List ℕ → Option (List ℕ)
name_of word = if is_file_name word then Some word else None

abbrev pub ok_of : {A E : Type 0} → Result A E → Option A
ok_of (Ok x) = Some x
ok_of (Err e) = None

-- the digest that 64 hexadecimal digits are
abbrev pub digest_of : List ℕ → Option (List ℕ)
digest_of word = ok_of (decode_sized word 32)

-- the octets that a word shows
abbrev pub hidden_of : List ℕ → List ℕ
hidden_of word = percent_decode word

-- whether a job is whole
abbrev pub wholly_of : List ℕ → Option Bool
wholly_of word =
    if bytes_eq word (codes "whole") then Some true else if bytes_eq word (codes "part") then Some false else None

abbrev pub progress_of : List ℕ → Option Progress
progress_of word =
    if bytes_eq word (codes "going") then Some E.Progress.Going
    else if bytes_eq word (codes "done") then Some E.Progress.Done
    else if bytes_eq word (codes "ended") then Some E.Progress.Ended
    else None

-- the length of a page and its digest
abbrev pub outline_with : Option ℕ → Option (List ℕ) → Option Outline
outline_with (Some length) (Some digest) = Some (record { length = length; digest = digest })
outline_with _ _ = None

abbrev pub outline_in : List (List ℕ) → Option Outline
outline_in (length ∷ digest ∷ []) = outline_with (short_of length) (digest_of digest)
outline_in _ = None

-- a page at a printer
abbrev pub sheet_with : Option ℕ → Option ℕ → Option ℕ → Option ℕ → Option Outline → Option (Sheet Outline)
sheet_with (Some job) (Some place) (Some file) (Some number) (Some page) =
    Some (record { job = job; place = place; file = file; number = number; page = page })
sheet_with _ _ _ _ _ = None

abbrev pub sheet_in : List (List ℕ) → Option (Sheet Outline)
sheet_in (job ∷ place ∷ file ∷ number ∷ words) =
    sheet_with (number_of job) (number_of place) (number_of file) (number_of number) (outline_in words)
sheet_in _ = None

-- a control file
abbrev pub operand_of : List ℕ → Option (List ℕ)
operand_of word = if is_operand (hidden_of word) then Some (hidden_of word) else None

abbrev pub prints_of : List (List ℕ) → Option (List (List ℕ))
prints_of words = if is_print_list words then Some words else None

abbrev pub control_with : Option ℕ → Option (List ℕ) → Option (List ℕ) → Option (List (List ℕ)) → Option Contents
control_with (Some number) (Some host) (Some user) (Some prints) =
    Some (record { host = host; user = user; number = number; prints = prints })
control_with _ _ _ _ = None

abbrev pub control_in : List (List ℕ) → Option Contents
control_in (number ∷ host ∷ user ∷ words) =
    control_with (job_number_of number) (operand_of host) (operand_of user) (prints_of words)
control_in _ = None

-- what a session did
abbrev pub began_with : Option (List ℕ) → Option ℕ → Option (Act Outline)
began_with (Some name) (Some count) = Some (E.Act.Began name count)
began_with _ _ = None

abbrev pub began_in : List (List ℕ) → Option (Act Outline)
began_in (name ∷ count ∷ []) = began_with (name_of name) (number_of count)
began_in _ = None

abbrev pub put_with : Option ℕ → Option ℕ → Option Outline → Option (Act Outline)
put_with (Some file) (Some number) (Some page) = Some (E.Act.Put file number page)
put_with _ _ _ = None

abbrev pub put_in : List (List ℕ) → Option (Act Outline)
put_in (file ∷ number ∷ words) = put_with (number_of file) (number_of number) (outline_in words)
put_in _ = None

abbrev pub ended_with : Option ℕ → Option Bool → Option (Act Outline)
ended_with (Some file) (Some whole) = Some (E.Act.FileEnded file whole)
ended_with _ _ = None

abbrev pub ended_in : List (List ℕ) → Option (Act Outline)
ended_in (file ∷ whole ∷ []) = ended_with (number_of file) (wholly_of whole)
ended_in _ = None

abbrev pub controlled_with : Option Bool → Option Contents → Option (Act Outline)
controlled_with (Some whole) (Some control) = Some (E.Act.Controlled control whole)
controlled_with _ _ = None

abbrev pub controlled_in : List (List ℕ) → Option (Act Outline)
controlled_in (whole ∷ words) = controlled_with (wholly_of whole) (control_in words)
controlled_in _ = None

-- an act that has no more words
abbrev pub alone_in : Act Outline → List (List ℕ) → Option (Act Outline)
alone_in did [] = Some did
alone_in did _ = None

abbrev pub act_in : Kind → List (List ℕ) → Option (Act Outline)
act_in kind.Granted words = alone_in E.Act.Granted words
act_in kind.Began words = began_in words
act_in kind.Put words = put_in words
act_in kind.FileEnded words = ended_in words
act_in kind.Controlled words = controlled_in words
act_in kind.Aborted words = alone_in E.Act.Aborted words
act_in _ words = None

abbrev pub of_job_with : Option ℕ → Option (Act Outline) → Option (Event Outline)
of_job_with (Some job) (Some did) = Some (E.Event.OfJob job did)
of_job_with _ _ = None

abbrev pub of_job_in : Kind → List (List ℕ) → Option (Event Outline)
of_job_in k (job ∷ words) = of_job_with (number_of job) (act_in k words)
of_job_in k [] = None

-- a job that was accepted
abbrev pub opened_with : Option ℕ → Option ℕ → Option ℕ → Option (Event Outline)
opened_with (Some job) (Some sender) (Some queue) = Some (E.Event.Opened job sender queue)
opened_with _ _ _ = None

abbrev pub opened_in : List (List ℕ) → Option (Event Outline)
opened_in (job ∷ sender ∷ queue ∷ []) = opened_with (number_of job) (short_of sender) (short_of queue)
opened_in _ = None

-- what became of a page at a printer
abbrev pub at_printer_with : Turn → Option ℕ → Option (Sheet Outline) → Option (Event Outline)
at_printer_with became (Some printer) (Some sheet) = Some (E.Event.AtPrinter printer sheet became)
at_printer_with became _ _ = None

abbrev pub at_printer_in : Turn → List (List ℕ) → Option (Event Outline)
at_printer_in became (printer ∷ words) = at_printer_with became (short_of printer) (sheet_in words)
at_printer_in became [] = None

abbrev pub printed_with : Option Progress → List (List ℕ) → Option (Event Outline)
printed_with (Some said) words = at_printer_in (E.Turn.Printed said) words
printed_with None words = None

abbrev pub printed_in : List (List ℕ) → Option (Event Outline)
printed_in (said ∷ words) = printed_with (progress_of said) words
printed_in [] = None

-- numbers up to the end, behind those that were read
abbrev pub is_u64 : List ℕ → Bool
is_u64 word = spells (2 ^ 64) word

abbrev pub numbers_onto : List ℕ → List (List ℕ) → Option (List ℕ)
numbers_onto numbers [] = Some numbers
numbers_onto numbers (word ∷ words) = if is_u64 word then numbers_onto (numbers ++ count_of word ∷ []) words else None

-- jobs that were removed
abbrev pub removed_with : Option ℕ → Option (List ℕ) → Option (Event Outline)
removed_with (Some queue) (Some jobs) = Some (E.Event.Removed queue jobs)
removed_with _ _ = None

abbrev pub removed_in : List (List ℕ) → Option (Event Outline)
removed_in (queue ∷ words) = removed_with (short_of queue) (numbers_onto [] words)
removed_in [] = None

-- printers that were started
abbrev pub started_with : Option ℕ → Option (Event Outline)
started_with (Some queue) = Some (E.Event.Started queue)
started_with None = None

abbrev pub started_in : List (List ℕ) → Option (Event Outline)
started_in (queue ∷ []) = started_with (short_of queue)
started_in _ = None

abbrev pub closed_in : List (List ℕ) → Option (Event Outline)
closed_in [] = Some E.Event.Closed
closed_in _ = None

-- the event that the words behind the first tell of
abbrev pub event_in : Kind → List (List ℕ) → Option (Event Outline)
event_in kind.Opened words = opened_in words
event_in kind.Handed words = at_printer_in E.Turn.Handed words
event_in kind.Printed words = printed_in words
event_in kind.Failed words = at_printer_in E.Turn.Failed words
event_in kind.Removed words = removed_in words
event_in kind.Started words = started_in words
event_in kind.Closed words = closed_in words
event_in k words = of_job_in k words

abbrev pub event_with : Option Kind → List (List ℕ) → Option (Event Outline)
event_with (Some k) words = event_in k words
event_with None words = None

abbrev pub event_by : List (List ℕ) → Option (Event Outline)
event_by (word ∷ words) = event_with (kind_of word) words
event_by [] = None

-- the event that a line tells of
abbrev pub event_of : List ℕ → Option (Event Outline)
event_of line = event_by (words_of line)
