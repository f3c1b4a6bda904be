use Rattle.std.proofs.Common.{◌-◌, ◌^◌}
use Rattle.segment_text.specs.Items.{item_seen}
use Rattle.segment_audit.specs.Counted as C
use Rattle.segment_audit.proofs.Counts.{many_more, one_more}
use Rattle.segment_audit.proofs.tally.Tally.with.Goals as goal

pub returns-clause-value : goal.returns-clause-value
returns-clause-value c = λ is h.
    let i = item_seen c.args.got.now in (
      one_more C.is_last i is _ _ c.is_last.result h.0 c.is_last.ensures c.count_if-segments.ensures.value,
      one_more C.is_entry i is _ _ c.is_entry.result h.1 c.is_entry.ensures c.count_if-entries.ensures.value,
      one_more C.is_opening i is _ _ c.is_opening.result h.2 c.is_opening.ensures c.count_if-jobs.ensures.value,
      one_more C.is_done i is _ _ c.is_done.result h.3 c.is_done.ensures c.count_if-done.ensures.value,
      many_more (2 ^ 64 - 1) C.removed_in i is _ _ c.removed_in.result h.4 c.removed_in.ensures c.saturating_add-removed.ensures,
      one_more C.is_failed i is _ _ c.is_failed.result h.5 c.is_failed.ensures c.count_if-failed.ensures.value,
      one_more C.is_aborted i is _ _ c.is_aborted.result h.6 c.is_aborted.ensures c.count_if-aborted.ensures.value,
    )
