use Rattle.std.proofs.Common.{◌≡◌, ◌≢◌, ◌∙◌, sym, ap, option_map, slice_get, map, Some, rules, [], ◌∷◌, ◌++◌}
use Rattle.std.proofs.lemmas.List.Elements.{All-push}
use Rattle.std.specs.List.{flat_map}
use Rattle.toml.specs.View.{view, table_view}
use Rattle.config_values.specs.Ranges.{IsWithin}
use Rattle.spool_config.specs.Faults.{row_faults}
use Rattle.spool_config.specs.declared.settings.ConfigFault.TheVariants.{Memory}
use Rattle.spool_config.proofs.Fitting.{queue_fit}
use Rattle.spool_config.proofs.Lists.{err_is}
use Rattle.spool_config.proofs.OneMore.{rest_of, first_row_faults, one_more_told, all_told, rest_faults, rest_tables}
use Rattle.spool_config.proofs.reading.queues.Goals as goal

pub returns-in_err-queue-clause-fault : goal.returns-in_err-queue-clause-fault
returns-in_err-queue-clause-fault c =
    let rows = c.args.rows.now in
    let row = c.row-item.result in
    let read = sym c.as_table.ensures ∙ ap (option_map (λ m. table_view m.now)) c.in-Some.is in
    let rest = rest_of rows c.loop-row.row-index row c.loop-row-test.true c.row-item.is in
    err_is (λ fault. fault ≢ Memory → slice_get (flat_map row_faults (map view rows)) 0 ≡ Some fault) c.from_residual.result c.in_err-queue.field-0.0 c.from_residual.ensures.1
    (λ other. ap (λ faults. slice_get faults 0) (sym c.loop-row.invariant.faults)
    ∙ first_row_faults _ (view row) _ _ c.in_err-queue.field-0.0 rest read (c.in_err-queue.ensures.fault other))

pub loop-row-preserved : goal.loop-row-preserved
loop-row-preserved c =
    let rows = c.args.rows.now in
    let row = c.row-item.result in
    let read = sym c.as_table.ensures ∙ ap (option_map (λ m. table_view m.now)) c.in-Some.is in
    let rest = rest_of rows c.loop-row.row-index row c.loop-row-test.true c.row-item.is in
    let q = c.in_ok-queue.field-0 in
    let pushed : c.push.new.self.items ≡ c.loop-row.queues.items ++ q ∷ [] = search rules in
    record {
      within = rw pushed (All-push (IsWithin 65536) c.loop-row.queues.items q c.loop-row.invariant.within c.in_ok-queue.ensures.within);
      told = rw pushed (one_more_told _ (view row) _ _ _ c.loop-row.queues.items q rest read c.in_ok-queue.ensures.told c.loop-row.invariant.told);
      faults = rest_faults _ (view row) _ _ rest read (queue_fit _ q c.in_ok-queue.ensures.told c.in_ok-queue.ensures.within) ∙ c.loop-row.invariant.faults;
      tables = rest_tables _ (view row) _ rest c.loop-row.invariant.tables;
    }

pub returns-clause-told : goal.returns-clause-told
returns-clause-told c = all_told c.args.rows.now c.loop-row.row-index _ c.loop-row.queues.items c.loop-row-test.false c.loop-row.invariant.told
