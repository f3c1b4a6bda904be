use Rattle.std.proofs.Common.{◌≡◌, ◌∙◌, sym, ap, Some, option_map, map, inl, inr, arith, length, ◌⊎◌, ◌<◌}
use Rattle.std.proofs.lemmas.Bool.Decides.{nat_tests}
use Rattle.std.proofs.lemmas.List.{length-map}
use Rattle.toml.specs.View.{view, array_view, items_view, table_view}
use Rattle.spool_config.specs.declared.settings.Key.TheVariants.{Queue}
use Rattle.spool_config.specs.Keys as K
use Rattle.spool_config.specs.Faults.{rows_faults, array_faults}
use Rattle.spool_config.proofs.Rows.{rows_faults-array, wrong_rows, uncounted_rows}
use Rattle.spool_config.proofs.reading.rows.Goals as goal
use Rattle.spool_config.proofs.reading.rows.Goals.{After-as_slice-rows, then-is_empty-via-then-is_empty, then-is_empty-via-else-is_empty+then-rows-most}

-- the faults of the value at `queue` are those of the array
array : (c : After-as_slice-rows) → rows_faults (K.value_at Queue (table_view c.args.document.now)) ≡ array_faults (Some (map view c.as_slice-rows.result.now))
array c =
    let there = sym c.value_at.ensures ∙ ap (option_map (λ v. view v.now)) c.in-Some.is in
    let is = sym c.as_array.ensures ∙ ap (option_map (λ v. array_view v.now)) c.in-Some-as_array.is
    ∙ ap (λ vs. Some (items_view vs)) (sym c.as_slice-rows.ensures.value) in
    rows_faults-array _ _ c.as_slice-rows.result.now there is

pub returns-then-not-are_tables-clause-fault : goal.returns-then-not-are_tables-clause-fault
returns-then-not-are_tables-clause-fault c =
    rw (array (goal.at.returns-then-not-are_tables-clause-fault c).After-as_slice-rows)
    (wrong_rows (map view c.as_slice-rows.result.now) (sym c.are_tables.ensures ∙ c.if-not-are_tables.true))

pub returns-then-is_empty-clause-fault : goal.returns-then-is_empty-clause-fault
returns-then-is_empty-clause-fault c =
    let rows = c.as_slice-rows.result.now in
    let out : (length rows ≡ 0) ⊎ (64 < length rows) =
    elim c.then-is_empty.branch [
      | then-is_empty-via-then-is_empty w ↦ inl (grind (arith, nat_tests, c.is_empty.ensures, w.if-is_empty.true))
      | then-is_empty-via-else-is_empty+then-rows-most w ↦ inr (omega (arith, w.if-rows-most.true, w.most.ensures))
    ] in
    rw (array (goal.at.returns-then-is_empty-clause-fault c).After-as_slice-rows)
    (uncounted_rows (map view rows) (sym c.are_tables.ensures ∙ c.if-not-are_tables.false) (rw (length-map rows view) out))
