-- How whole blocks are read.
use Rattle.std.specs.Prelude.{◌≡◌, ℕ, suc, Bool, true, false, List, [], ◌∷◌, ◌++◌, ◌<◌, ◌≤◌, ◌↔◌, length, not, ◌⊎◌, Option, Some, None, Ok, if◌then◌else◌}
use Rattle.lpd_values.specs.declared.limits.TheConstants.{MAX_LINE, MAX_CONTROL_TEXT}
use Rattle.std.specs.List.{concat, prefix_len}
use Rattle.lpd_commands.specs.Line.{command_of, sub_of}
use Rattle.lpd_values.specs.declared.refusal.Refusal.TheVariants.{Memory}
use Rattle.lpd_commands.specs.declared.command.Command.TheVariants as command
use Rattle.lpd_commands.specs.declared.sub.Sub.TheVariants as sub
use Rattle.lpd_values.specs.Contents.{Contents}
use Rattle.control_file.specs.Text.{control_of}
use Rattle.receiver.specs.Script.{Queue, Open, BeginFile, AskPage, Filled, EndFile, Control, AbortJob, Ack, Fault, Output, Wrote, Asked, Reply, Yes, Ticket, Later, Stored, Received, Item, FileOctets}
use Rattle.receiver.specs.Reading.{Progress, is_inner, start}
use Rattle.receiver.specs.Reads.{Reads}

-- at most MAX_LINE octets, none of them LF
abbrev pub IsLine : List ℕ → Type 0
IsLine line = (prefix_len is_inner line ≡ length line) × (length line ≤ MAX_LINE)

-- what is cut in pages of z octets: all but the last are full, and the last has an octet
abbrev pub AreCut : ℕ → List (List ℕ) → Type 0
AreCut z [] = Unit {0}
AreCut z (p ∷ []) = (0 < length p) × (length p ≤ z)
AreCut z (p ∷ q ∷ ps) = (length p ≡ z) × (0 < z) × AreCut z (q ∷ ps)

-- between blocks, in a queue that was admitted
abbrev pub between : List ℕ → Bool → Progress
between queue job = record { queue = Some queue; job = job; items = []; owed = None; tail = [] }

-- a job is opened where none is in hand
abbrev pub opened : Bool → List ℕ → List Output
opened job queue = if job then [] else Asked (Open queue) ∷ []

abbrev pub opened_told : Bool → List Reply
opened_told job = if job then [] else Yes ∷ []

-- for each piece, a page is asked for and handed out
abbrev pub asked_for : ℕ → List (List ℕ) → List Output
asked_for z [] = []
asked_for z (p ∷ ps) =
    Asked AskPage ∷ Asked (Filled (record { octets = p; page_size = z })) ∷ asked_for z ps

abbrev pub told_for : ℕ → List (List ℕ) → List Reply
told_for z [] = []
told_for z (p ∷ ps) = Ticket z ∷ Yes ∷ told_for z ps

-- how a file is answered: it makes the job whole or not
abbrev pub ended : Bool → Reply
ended whole = if whole then Received else Stored

abbrev pub aborted : Bool → List Output
aborted job = if job then Asked AbortJob ∷ [] else []

abbrev pub aborted_told : Bool → List Reply
aborted_told job = if job then Yes ∷ [] else []

-- A first line that asks to send jobs to a queue, which is admitted.
abbrev pub ReadsFirstLine : Type 0
ReadsFirstLine =
    (queue line : List ℕ) →
    (short : Bool) (rest : List ℕ) (a : List Reply) (os : List Output) →
    IsLine line → command_of line ≡ Ok (command.Receive queue) →
    Reads short os (between queue false) rest a →
    Reads short (Asked (Queue queue) ∷ Wrote Ack ∷ os) start (line ++ 10 ∷ rest) (Yes ∷ a)

-- A data file that is accepted: the job is opened where none is in hand, the file begun and acknowledged, each of its
-- pages asked for and handed out, and its octet 00 acknowledged. The job stays in hand unless it is whole now.
abbrev pub ReadsDataBlock : Type 0
ReadsDataBlock =
    (queue : List ℕ) (job whole : Bool) (line name : List ℕ) (z : ℕ) (ps : List (List ℕ)) →
    (short : Bool) (rest : List ℕ) (a : List Reply) (os : List Output) →
    IsLine line → AreCut z ps → sub_of line ≡ Ok (sub.DataFile (length (concat ps)) name) →
    Reads short os (between queue (not whole)) rest a →
    Reads short
    (opened job queue ++ Asked (BeginFile name (length (concat ps))) ∷ Wrote Ack
    ∷ (asked_for z ps ++ Asked EndFile ∷ Wrote Ack ∷ os))
    (between queue job)
    (line ++ 10 ∷ (concat ps ++ 0 ∷ rest))
    (opened_told job ++ Yes ∷ (told_for z ps ++ ended whole ∷ a))

-- A control file that is accepted: the job is opened where none is in hand, the file acknowledged, and what it says
-- handed out after its octet 00, which is acknowledged.
abbrev pub ReadsControlBlock : Type 0
ReadsControlBlock =
    (queue : List ℕ) (job whole : Bool) (line name text : List ℕ) (contents : Contents) →
    (short : Bool) (rest : List ℕ) (a : List Reply) (os : List Output) →
    IsLine line → 1 ≤ length text → length text ≤ MAX_CONTROL_TEXT →
    sub_of line ≡ Ok (sub.ControlFile (length text) name) → control_of name text ≡ Ok contents →
    Reads short os (between queue (not whole)) rest a →
    Reads short (opened job queue ++ Wrote Ack ∷ Asked (Control contents) ∷ Wrote Ack ∷ os)
    (between queue job)
    (line ++ 10 ∷ (text ++ 0 ∷ rest)) (opened_told job ++ ended whole ∷ a)

-- An abort: the job in hand is aborted, where there is one, and the line acknowledged.
abbrev pub ReadsAbortBlock : Type 0
ReadsAbortBlock =
    (queue : List ℕ) (job : Bool) (line : List ℕ) →
    (short : Bool) (rest : List ℕ) (a : List Reply) (os : List Output) →
    IsLine line → sub_of line ≡ Ok sub.Abort →
    Reads short os (between queue false) rest a →
    Reads short (aborted job ++ Wrote Ack ∷ os) (between queue job) (line ++ 10 ∷ rest)
    (aborted_told job ++ a)

-- in a file that lacks octets
abbrev pub in_file : Option (List ℕ) → Bool → ℕ → List Item → Progress
in_file queue job n items =
    record { queue = queue; job = job; items = FileOctets (suc n) ∷ items; owed = None; tail = [] }

-- Later is no answer: the same page is asked for again, and all goes on as if it had not been.
abbrev pub LaterAgain : Type 0
LaterAgain =
    (short : Bool) (queue : Option (List ℕ)) (job : Bool) (n b : ℕ) (items : List Item) (t : List ℕ)
    (a : List Reply) (os : List Output) →
    Reads short (Asked AskPage ∷ os) (in_file queue job n items) (b ∷ t) (Later ∷ a)
    ↔ Reads short os (in_file queue job n items) (b ∷ t) a

-- where memory is ample, a text and answers have one reading
abbrev pub OneReading : Type 0
OneReading =
    (os others : List Output) (s : Progress) (t : List ℕ) (a : List Reply) →
    Reads false os s t a → Reads false others s t a → os ≡ others

-- a text and answers have a reading
abbrev pub SomeReading : Type 0
SomeReading =
    (s : Progress) (t : List ℕ) (a : List Reply) → (os : List Output) × Reads false os s t a

-- Want of memory only cuts a reading short: outputs are the reading where memory is ample, or a beginning of it and then
-- the refusal Memory.
abbrev pub ShortReading : Type 0
ShortReading =
    (os : List Output) (s : Progress) (t : List ℕ) (a : List Reply) → Reads true os s t a →
    Reads false os s t a
    ⊎ ((front : List Output) × (rest : List Output) × (os ≡ front ++ Wrote (Fault Memory) ∷ [])
    × Reads false (front ++ rest) s t a)
