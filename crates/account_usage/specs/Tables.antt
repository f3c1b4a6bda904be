-- What a table has counted.
use Rattle.std.specs.Prelude.{◌≡◌, ◌<◌, ◌+◌, ◌^◌, ℕ, Bool, List, if◌then◌else◌}
use Rattle.lpd_values.specs.Contents.{Contents}
use Rattle.segment_text.specs.Items.{Item}
use Rattle.segment_text.specs.Items.Item.{OfStart}
use Rattle.account_usage.specs.declared.grouping.Grouping.{Grouping}
use Rattle.account_usage.specs.declared.grouping.Grouping.TheVariants as grouping
use Rattle.account_usage.specs.declared.table.UsageTable.{UsageTable}
use Rattle.account_usage.specs.Rows.{rows_sent, rows_printed, held_sent, held_printed}

-- all octets that were sent, and that were printed: of the rows, and of the jobs that haven't ended
abbrev pub all_sent : UsageTable → ℕ
all_sent t = rows_sent t.rows.entries + held_sent t.held.items

abbrev pub all_printed : UsageTable → ℕ
all_printed t = rows_printed t.rows.entries + held_printed t.held.items

-- what counts of so many octets, in a segment that counts or not
abbrev pub counted : Bool → ℕ → ℕ
counted counts n = if counts then n else 0

-- so many were sent more, as long as all have 64 bits
abbrev pub HasSent : ℕ → UsageTable → UsageTable → Type 0
HasSent n was is = all_sent was + n < 2 ^ 64 → all_sent is ≡ all_sent was + n

abbrev pub HasPrinted : ℕ → UsageTable → UsageTable → Type 0
HasPrinted n was is = all_printed was + n < 2 ^ 64 → all_printed is ≡ all_printed was + n

-- by what is told, which segments count and the names of queues stay
abbrev pub Keeps : UsageTable → UsageTable → Type 0
Keeps was is = (is.grouping ≡ was.grouping) × (is.counts ≡ was.counts) × (is.queues ≡ was.queues)

-- whether the segment that is read counts, behind a line of one that counts or not
abbrev pub counts_after : Item → Bool → Bool → Bool
counts_after (OfStart start) counts was = counts
counts_after _ counts was = was

-- the name of the row that a job of this control file counts in, where it has this name without it
abbrev pub name_by : Grouping → Contents → List ℕ → List ℕ
name_by grouping.User control name = control.user
name_by grouping.Host control name = control.host
name_by grouping.Queue control name = name
