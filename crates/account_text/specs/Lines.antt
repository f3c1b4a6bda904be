-- The line of each event: a word, and its fields, each after one space. Numbers are decimal, digests hexadecimal in lower case,
-- hosts and users as they are shown, and file names stand as they are, for they have no white space.
use Rattle.std.specs.Prelude.{ℕ, Bool, List, [], ◌∷◌, ◌++◌, codes, if◌then◌else◌}
use Rattle.std.specs.Fmt.{decimal}
use Rattle.hex.specs.Hex.{encode_lower}
use Rattle.percent_encoding.specs.Percent.{percent_encode}
use Rattle.control_lines.specs.declared.escaped.TheConstants.{HIDDEN}
use Rattle.lpd_values.specs.Contents.{Contents}
use Rattle.spool_history.specs.Events.{Act, Sheet, Turn, Event}
use Rattle.spool_history.specs.Events.Act.{Granted, Began, Put, FileEnded, Controlled, Aborted}
use Rattle.spool_history.specs.Events.Progress.{Going, Done, Ended}
use Rattle.spool_history.specs.Events.Turn.{Handed, Printed, Failed}
use Rattle.spool_history.specs.Events.Event.{Opened, OfJob, AtPrinter, Removed, Started, Closed}
use Rattle.account.specs.declared.entry.Outline.{Outline}

-- fields: a number, octets in hexadecimal, octets as they are shown, and octets as they are
abbrev pub number : ℕ → List ℕ
number n = 32 ∷ decimal n

abbrev pub hexed : List ℕ → List ℕ
hexed octets = 32 ∷ encode_lower octets

-- octets as one word: those from 21 to 7E (hexadecimal) but % as they are, each other one as % and two upper-case hexadecimal digits
abbrev pub shown_as : List ℕ → List ℕ
shown_as octets = percent_encode HIDDEN octets

abbrev pub shown : List ℕ → List ℕ
shown octets = 32 ∷ shown_as octets

abbrev pub plain : List ℕ → List ℕ
plain octets = 32 ∷ octets

abbrev pub numbers : List ℕ → List ℕ
numbers [] = []
numbers (n ∷ ns) = number n ++ numbers ns

abbrev pub plains : List (List ℕ) → List ℕ
plains [] = []
plains (s ∷ ss) = plain s ++ plains ss

-- the length of a page and its digest
abbrev pub outline : Outline → List ℕ
outline page = number page.length ++ hexed page.digest

-- whether it made its job whole
abbrev pub wholly : Bool → List ℕ
wholly whole = if whole then codes " whole" else codes " part"

abbrev pub control_fields : Contents → List ℕ
control_fields control = number control.number ++ (shown control.host ++ (shown control.user ++ plains control.prints))

abbrev pub control_line : ℕ → Contents → Bool → List ℕ
control_line job control whole =
    codes "controlled" ++ (number job ++ (wholly whole ++ control_fields control))

abbrev pub act_line : ℕ → Act Outline → List ℕ
act_line job Granted = codes "granted" ++ number job
act_line job (Began name count) = codes "began" ++ (number job ++ (plain name ++ number count))
act_line job (Put file n page) = codes "put" ++ (number job ++ (number file ++ (number n ++ outline page)))
act_line job (FileEnded file whole) = codes "ended" ++ (number job ++ (number file ++ wholly whole))
act_line job (Controlled control whole) = control_line job control whole
act_line job Aborted = codes "aborted" ++ number job

abbrev pub turn_word : Turn → List ℕ
turn_word Handed = codes "handed"
turn_word (Printed Going) = codes "printed going"
turn_word (Printed Done) = codes "printed done"
turn_word (Printed Ended) = codes "printed ended"
turn_word Failed = codes "failed"

abbrev pub sheet_fields : Sheet Outline → List ℕ
sheet_fields sheet = number sheet.job ++ (number sheet.place ++ (number sheet.file ++ (number sheet.number ++ outline sheet.page)))

-- the line of an event, without its LF
abbrev pub event_line : Event Outline → List ℕ
event_line (Opened job sender queue) = codes "opened" ++ (number job ++ (number sender ++ number queue))
event_line (OfJob job act) = act_line job act
event_line (AtPrinter printer sheet turn) = turn_word turn ++ (number printer ++ sheet_fields sheet)
event_line (Removed queue jobs) = codes "removed" ++ (number queue ++ numbers jobs)
event_line (Started queue) = codes "started" ++ number queue
event_line Closed = codes "closed"
