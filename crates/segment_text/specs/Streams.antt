-- What a writer of a segment has written, and what a reader of one has read.
use Rattle.std.specs.Prelude.{◌≡◌, ◌<◌, ◌≤◌, ◌^◌, ℕ, List}
use Rattle.sha2.specs.Hashers.{Holds256}
use Rattle.segment_text.specs.declared.reader.SegmentReader.{SegmentReader}
use Rattle.segment_text.specs.declared.writer.SegmentWriter.{SegmentWriter}
use Rattle.segment_text.specs.Items.{Item, text_of, entries_of, stage_of}

-- these lines were written
abbrev pub HasWritten : SegmentWriter → List Item → Type 0
HasWritten writer is = Holds256 writer.hash (text_of is) × (writer.entries ≡ entries_of is)

-- no more entries than so many were written
abbrev pub HasWrittenAtMost : SegmentWriter → ℕ → Type 0
HasWrittenAtMost writer n = writer.entries ≤ n

-- one entry more can be counted
abbrev pub CanWrite : SegmentWriter → Type 0
CanWrite writer = writer.entries < 2 ^ 63

-- these lines were read
abbrev pub HasRead : SegmentReader → List Item → Type 0
HasRead reader is =
    Holds256 reader.hash (text_of is) × (reader.entries ≡ entries_of is) × (reader.stage ≡ stage_of is)

-- no more entries than so many were read
abbrev pub HasReadAtMost : SegmentReader → ℕ → Type 0
HasReadAtMost reader n = reader.entries ≤ n

-- one entry more can be counted
abbrev pub CanRead : SegmentReader → Type 0
CanRead reader = reader.entries < 2 ^ 63
