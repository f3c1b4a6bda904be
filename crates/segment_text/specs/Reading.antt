-- What these lines say, as functions of their octets.
use Rattle.std.specs.Prelude.{ℕ, Bool, true, false, ◌==◌, ◌&&◌, ◌^◌, not, List, [], ◌∷◌, ◌++◌, Option, Some, None, codes, if◌then◌else◌}
use Rattle.std.specs.Str.{bytes_eq}
use Rattle.lpd_values.specs.Digits.{count_of}
use Rattle.lpd_values.specs.Kinds.{is_digit}
use Rattle.config_values.specs.Config.{Config, Queue}
use Rattle.spool_history.specs.Base.{Base}
use Rattle.account_text.specs.Reading.{words_of, number_of, short_of, digest_of, hidden_of, spells}
use Rattle.segment_text.specs.Configs.{is_queue_name}
use Rattle.segment_text.specs.declared.head.Version.{Version}
use Rattle.segment_text.specs.declared.head.Version.TheVariants as version
use Rattle.segment_text.specs.declared.read.StartWord.{StartWord}
use Rattle.segment_text.specs.declared.read.StartWord.TheVariants as first
use Rattle.segment_text.specs.Heads.{Begin, Origin, Printer, Start, Last}
use Rattle.segment_text.specs.Heads.Begin.{AtBase, Amid}
use Rattle.segment_text.specs.Times.{is_before, is_date}

-- a time as 2026-11-26T22:00:00Z
abbrev pub fits_shape : List ℕ → List ℕ → Bool
fits_shape [] [] = true
fits_shape (b ∷ bs) (t ∷ ts) = (if t == 48 then is_digit b else b == t) && fits_shape bs ts
fits_shape _ _ = false

-- that of a day that there is
abbrev pub is_time : List ℕ → Bool
is_time word = fits_shape word (codes "0000-00-00T00:00:00Z") && is_date word

abbrev pub stamp_of : List ℕ → Option (List ℕ)
stamp_of word = if is_time word then Some word else None

abbrev pub after_with : Bool → Option (List ℕ) → Option (Option (List ℕ))
after_with true (Some digest) = Some (Some digest)
after_with _ _ = None

abbrev pub previous_in : List (List ℕ) → Option (Option (List ℕ))
previous_in (word ∷ []) = if bytes_eq word (codes "first") then Some None else None
previous_in (word ∷ digest ∷ []) = after_with (bytes_eq word (codes "after")) (digest_of digest)
previous_in _ = None

abbrev pub version_of : List ℕ → Option Version
version_of word = if bytes_eq word (codes "1") then Some version.One else if bytes_eq word (codes "2") then Some version.Two else None

-- these may be the times of the first and of the last entry: in version 2 the last is not before the first
abbrev pub are_ordered : Version → List ℕ → List ℕ → Bool
are_ordered version.One from to = true
are_ordered version.Two from to = not (is_before to from)

abbrev pub origin_with : Option Version → Option ℕ → Option ℕ → Option (List ℕ) → Option (List ℕ) → Option (Option (List ℕ)) → Option Origin
origin_with (Some version) (Some run) (Some segment) (Some first) (Some last) (Some previous) =
    if are_ordered version first last
    then Some (record { version = version; run = run; segment = segment; first = first; last = last; previous = previous })
    else None
origin_with _ _ _ _ _ _ = None

abbrev pub origin_in : List (List ℕ) → Option Origin
origin_in (version ∷ run ∷ segment ∷ first ∷ last ∷ words) =
    origin_with (version_of version) (number_of run) (number_of segment) (stamp_of first) (stamp_of last) (previous_in words)
origin_in _ = None

-- queues up to the end, behind those that were read
abbrev pub is_u32 : List ℕ → Bool
is_u32 word = spells (2 ^ 32) word

abbrev pub queues_onto : List Queue → List (List ℕ) → Option (List Queue)
queues_onto queues [] = Some queues
queues_onto queues (name ∷ limit ∷ printers ∷ words) =
    if is_queue_name name && (is_u32 limit && is_u32 printers)
    then queues_onto (queues ++ record { name = name; limit = count_of limit; printers = count_of printers } ∷ []) words
    else None
queues_onto queues _ = None

abbrev pub config_with : Option ℕ → Option ℕ → Option ℕ → Option ℕ → Option (List Queue) → Option Config
config_with (Some pages) (Some page_size) (Some max_jobs) (Some account) (Some queues) =
    Some (record { pages = pages; page_size = page_size; max_jobs = max_jobs; account = account; queues = queues })
config_with _ _ _ _ _ = None

abbrev pub config_in : List (List ℕ) → Option Config
config_in (pages ∷ page_size ∷ max_jobs ∷ account ∷ words) =
    config_with (short_of pages) (short_of page_size) (short_of max_jobs) (number_of account) (queues_onto [] words)
config_in _ = None

-- a number, or a dash where there is none
abbrev pub some_begins : Option ℕ → Option (Option ℕ)
some_begins (Some n) = Some (Some n)
some_begins None = None

abbrev pub begins_of : List ℕ → Option (Option ℕ)
begins_of word = if bytes_eq word (codes "-") then Some None else some_begins (number_of word)

abbrev pub printer_with : List ℕ → Option (Option ℕ) → Option Printer
printer_with place (Some begins) = Some (record { place = place; begins = begins })
printer_with place None = None

abbrev pub printer_in : List (List ℕ) → Option Printer
printer_in (place ∷ begins ∷ []) = printer_with (hidden_of place) (begins_of begins)
printer_in _ = None

abbrev pub closed_of : List ℕ → Option Bool
closed_of word = if bytes_eq word (codes "closed") then Some true else if bytes_eq word (codes "open") then Some false else None

abbrev pub stopped_onto : List Bool → List (List ℕ) → Option (List Bool)
stopped_onto stopped [] = Some stopped
stopped_onto stopped (word ∷ words) =
    if bytes_eq word (codes "stopped") then stopped_onto (stopped ++ true ∷ []) words
    else if bytes_eq word (codes "running") then stopped_onto (stopped ++ false ∷ []) words
    else None

abbrev pub base_with : Option ℕ → Option ℕ → Option Bool → Option (List Bool) → Option Base
base_with (Some accepted) (Some reserved) (Some closed) (Some stopped) =
    Some (record { accepted = accepted; reserved = reserved; closed = closed; stopped = stopped })
base_with _ _ _ _ = None

abbrev pub base_in : List (List ℕ) → Option Base
base_in (accepted ∷ reserved ∷ closed ∷ words) =
    base_with (number_of accepted) (number_of reserved) (closed_of closed) (stopped_onto [] words)
base_in _ = None

abbrev pub at_base : Option Base → Option Begin
at_base (Some base) = Some (AtBase base)
at_base None = None

abbrev pub amid_with : Option ℕ → Option ℕ → Option Begin
amid_with (Some since) (Some freed) = Some (Amid since freed)
amid_with _ _ = None

abbrev pub amid_in : List (List ℕ) → Option Begin
amid_in (since ∷ freed ∷ []) = amid_with (number_of since) (number_of freed)
amid_in _ = None

-- what entries begin from, behind this first word of the line
abbrev pub begin_in : StartWord → List (List ℕ) → Option Begin
begin_in first.Base words = at_base (base_in words)
begin_in first.Part words = amid_in words

abbrev pub start_with : Option ℕ → Option ℕ → Option ℕ → Option Begin → Option Start
start_with (Some entries) (Some kinds) (Some handed) (Some begin) =
    Some (record { entries = entries; kinds = kinds; handed = handed; begin = begin })
start_with _ _ _ _ = None

abbrev pub start_in : StartWord → List (List ℕ) → Option Start
start_in word (entries ∷ kinds ∷ handed ∷ words) =
    start_with (number_of entries) (number_of kinds) (number_of handed) (begin_in word words)
start_in _ _ = None

abbrev pub start_word_of : List ℕ → Option StartWord
start_word_of word = if bytes_eq word (codes "base") then Some first.Base else if bytes_eq word (codes "part") then Some first.Part else None

abbrev pub start_by : Option StartWord → List (List ℕ) → Option Start
start_by (Some word) words = start_in word words
start_by None words = None

abbrev pub start_at : List (List ℕ) → Option Start
start_at [] = None
start_at (word ∷ words) = start_by (start_word_of word) words

abbrev pub last_with : Option ℕ → Option (List ℕ) → Option Last
last_with (Some entries) (Some digest) = Some (record { entries = entries; digest = digest })
last_with _ _ = None

abbrev pub last_in : List (List ℕ) → Option Last
last_in (entries ∷ digest ∷ []) = last_with (number_of entries) (digest_of digest)
last_in _ = None

-- behind this first word
abbrev pub behind : {A : Type 0} → List ℕ → (List (List ℕ) → Option A) → List (List ℕ) → Option A
behind name read [] = None
behind name read (word ∷ words) = if bytes_eq word name then read words else None

abbrev pub origin_of : List ℕ → Option Origin
origin_of line = behind (codes "account") origin_in (words_of line)

abbrev pub config_of : List ℕ → Option Config
config_of line = behind (codes "config") config_in (words_of line)

abbrev pub printer_of : List ℕ → Option Printer
printer_of line = behind (codes "printer") printer_in (words_of line)

abbrev pub start_of : List ℕ → Option Start
start_of line = start_at (words_of line)

abbrev pub last_of : List ℕ → Option Last
last_of line = behind (codes "end") last_in (words_of line)
