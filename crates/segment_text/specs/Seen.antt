-- What values at the head and at the end of a segment say.
use Rattle.std.specs.Prelude.{◌≡◌, ◌<◌, ℕ, true, List, Option, Some, None, map, length}
use Rattle.hex.specs.Hex.{IsBytes}
use Rattle.account.specs.Seen.{base_seen}
use Rattle.segment_text.specs.declared.head.Begin as G
use Rattle.segment_text.specs.declared.head.Begin.TheVariants as begin
use Rattle.segment_text.specs.declared.head.Origin as O
use Rattle.segment_text.specs.declared.head.HeadPrinter as P
use Rattle.segment_text.specs.declared.head.Start as B
use Rattle.segment_text.specs.declared.head.Last as L
use Rattle.segment_text.specs.declared.head.Head as D
use Rattle.segment_text.specs.Heads.{Begin, Head, Origin, Printer, Start, Last}
use Rattle.segment_text.specs.Heads.Begin.{AtBase, Amid}
use Rattle.segment_text.specs.Reading.{are_ordered, stamp_of}
use Rattle.account_text.specs.Told.{IsU64}

abbrev pub origin_seen : O.Origin → Origin
origin_seen o = record { version = o.version; run = o.run; segment = o.segment; first = o.first; last = o.last; previous = o.previous }

abbrev pub printer_seen : P.HeadPrinter → Printer
printer_seen p = record { place = p.place; begins = p.begins }

abbrev pub begin_seen : G.Begin → Begin
begin_seen (begin.Base b) = AtBase (base_seen b)
begin_seen (begin.Amid since freed) = Amid since freed

abbrev pub start_seen : B.Start → Start
start_seen s = record { entries = s.entries; kinds = s.kinds; handed = s.handed; begin = begin_seen s.begin }

abbrev pub last_seen : L.Last → Last
last_seen l = record { entries = l.entries; digest = l.digest }

abbrev pub head_seen : D.Head → Head
head_seen h = record { origin = origin_seen h.origin; config = h.config; printers = map printer_seen h.printers.items; start = start_seen h.start }

-- those that can be told: numbers within their ranges, times of days that there are and in their order, places of one octet or more, digests of 32 octets
abbrev pub IsDigest : List ℕ → Type 0
IsDigest d = (length d ≡ 32) × IsBytes d

abbrev pub IsPrevious : Option (List ℕ) → Type 0
IsPrevious None = Unit {0}
IsPrevious (Some d) = IsDigest d

abbrev pub IsOrigin : Origin → Type 0
IsOrigin o = IsU64 o.run × IsU64 o.segment × (stamp_of o.first ≡ Some o.first) × (stamp_of o.last ≡ Some o.last) × IsPrevious o.previous
    × (are_ordered o.version o.first o.last ≡ true)

abbrev pub IsBeginning : Option ℕ → Type 0
IsBeginning None = Unit {0}
IsBeginning (Some n) = IsU64 n

abbrev pub IsPrinter : Printer → Type 0
IsPrinter p = (0 < length p.place) × IsBytes p.place × IsBeginning p.begins

abbrev pub IsBegin : Begin → Type 0
IsBegin (AtBase b) = IsU64 b.accepted × IsU64 b.reserved
IsBegin (Amid since freed) = IsU64 since × IsU64 freed

abbrev pub IsStart : Start → Type 0
IsStart s = IsU64 s.entries × IsU64 s.kinds × IsU64 s.handed × IsBegin s.begin

abbrev pub IsLast : Last → Type 0
IsLast l = IsU64 l.entries × IsDigest l.digest
