-- The lines of a segment that are no entries: those at its head, and the last one.
use Rattle.std.specs.Prelude.{ℕ, Bool, List, [], ◌∷◌, ◌++◌, Option, Some, None, codes, if◌then◌else◌}
use Rattle.config_values.specs.Config.{Config, Queue}
use Rattle.spool_history.specs.Base.{Base}
use Rattle.segment_text.specs.declared.head.Version.{Version}
use Rattle.segment_text.specs.declared.head.Version.TheVariants as version
use Rattle.account_text.specs.Lines.{number, plain, hexed, shown}

-- where a segment stands: the version of its text, the number of the run, that of the segment in its run, when its first and its last entry were
-- written, and the digest of the segment before it, if there is one
pub record Origin : Type 0 where
  pub version : Version
  pub run : ℕ
  pub segment : ℕ
  pub first : List ℕ
  pub last : List ℕ
  pub previous : Option (List ℕ)

-- what entries begin from: a base, or the state in which the segment before left the spool, where so many entries came in the run
-- since its last base, and the account may have so many more
pub data Begin : Type 0 where
  AtBase : (base : Base) → Begin
  Amid : (since freed : ℕ) → Begin

-- a printer: its place, and where it was when the run began: of a regular file its length in octets, of a folder by version 2 the
-- number of the file that the first job becomes there
pub record Printer : Type 0 where
  pub place : List ℕ
  pub begins : Option ℕ

-- what is before in the run: entries, the sum of the numbers of their kinds, hand-outs; and what its own begin from
pub record Start : Type 0 where
  pub entries : ℕ
  pub kinds : ℕ
  pub handed : ℕ
  pub begin : Begin

-- how many entries there are, and the digest of all lines before
pub record Last : Type 0 where
  pub entries : ℕ
  pub digest : List ℕ

-- what stands before the entries
pub record Head : Type 0 where
  pub origin : Origin
  pub config : Config
  pub printers : List Printer
  pub start : Start

abbrev pub previous_words : Option (List ℕ) → List ℕ
previous_words None = codes " first"
previous_words (Some digest) = codes " after" ++ hexed digest

abbrev pub version_word : Version → List ℕ
version_word version.One = codes " 1"
version_word version.Two = codes " 2"

abbrev pub origin_line : Origin → List ℕ
origin_line o = codes "account" ++ (version_word o.version ++ (number o.run ++ (number o.segment ++ (plain o.first ++ (plain o.last ++ previous_words o.previous)))))

abbrev pub queues_words : List Queue → List ℕ
queues_words [] = []
queues_words (q ∷ qs) = plain q.name ++ (number q.limit ++ (number q.printers ++ queues_words qs))

abbrev pub config_line : Config → List ℕ
config_line c = codes "config" ++ (number c.pages ++ (number c.page_size ++ (number c.max_jobs ++ (number c.account ++ queues_words c.queues))))

abbrev pub begins_word : Option ℕ → List ℕ
begins_word None = codes " -"
begins_word (Some n) = number n

abbrev pub printer_line : Printer → List ℕ
printer_line p = codes "printer" ++ (shown p.place ++ begins_word p.begins)

abbrev pub closed_word : Bool → List ℕ
closed_word closed = if closed then codes " closed" else codes " open"

abbrev pub stopped_word : Bool → List ℕ
stopped_word stopped = if stopped then codes " stopped" else codes " running"

abbrev pub stopped_words : List Bool → List ℕ
stopped_words [] = []
stopped_words (b ∷ bs) = stopped_word b ++ stopped_words bs

abbrev pub base_words : Base → List ℕ
base_words b = number b.accepted ++ (number b.reserved ++ (closed_word b.closed ++ stopped_words b.stopped))

abbrev pub start_word : Begin → List ℕ
start_word (AtBase b) = codes "base"
start_word (Amid since freed) = codes "part"

abbrev pub begin_words : Begin → List ℕ
begin_words (AtBase b) = base_words b
begin_words (Amid since freed) = number since ++ number freed

abbrev pub start_line : Start → List ℕ
start_line s = start_word s.begin ++ (number s.entries ++ (number s.kinds ++ (number s.handed ++ begin_words s.begin)))

abbrev pub last_line : Last → List ℕ
last_line l = codes "end" ++ (number l.entries ++ hexed l.digest)
