-- What a tally says.
use Rattle.std.specs.Prelude.{◌≡◌, ◌≤◌, ◌-◌, ◌^◌, ℕ, List, min, count_by, sum_by}
use Rattle.segment_text.specs.Items.{Item}
use Rattle.segment_audit.specs.Counted.{is_last, is_entry, is_opening, is_done, removed_in, is_failed, is_aborted}
use Rattle.segment_audit.specs.declared.tally.Tally.{Tally}

-- it is that of these lines
abbrev pub IsTallyOf : Tally → List Item → Type 0
IsTallyOf tally is =
    (tally.segments ≡ count_by is_last is) × (tally.entries ≡ count_by is_entry is) × (tally.jobs ≡ count_by is_opening is)
    × (tally.done ≡ count_by is_done is) × (tally.removed ≡ min (sum_by removed_in is) (2 ^ 64 - 1))
    × (tally.failed ≡ count_by is_failed is) × (tally.aborted ≡ count_by is_aborted is)

-- no number that counts lines is more than this
abbrev pub IsAtMost : ℕ → Tally → Type 0
IsAtMost n tally =
    (tally.segments ≤ n) × (tally.entries ≤ n) × (tally.jobs ≤ n) × (tally.done ≤ n) × (tally.failed ≤ n) × (tally.aborted ≤ n)
