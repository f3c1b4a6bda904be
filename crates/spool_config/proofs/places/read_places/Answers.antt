use Rattle.std.proofs.Common.{◌≡◌, ◌≢◌, ◌∙◌, ◌≤◌, ◌<◌, [], Err, length, map, sym, arith, rules}
use Rattle.std.proofs.lemmas.Bool.{false≢true}
use Rattle.std.proofs.lemmas.List.{length-map}
use Rattle.toml.specs.View.{table_view, view}
use Rattle.spool_config.specs.Places.{IsToldBehind, places_told, rows_told, told_view}
use Rattle.spool_config.specs.declared.places.PlacesFault.TheVariants.{Memory}
use Rattle.spool_config.proofs.Lists.{err_is}
use Rattle.spool_config.proofs.PlaceTexts.{all_told, few_rows, many_rows, no_document_told}
use Rattle.spool_config.proofs.places.read_places.Goals as goal

pub returns-in-Err-2-clause-fault : goal.returns-in-Err-2-clause-fault
returns-in-Err-2-clause-fault c = λ other.
    no_document_told c.args.text.now (c.in-Err.ensures.refused
    (λ memory. false≢true (sym c.if-is_memory.false ∙ c.is_memory.ensures.1 memory)))

pub returns-then-rows-most-clause-fault : goal.returns-then-rows-most-clause-fault
returns-then-rows-most-clause-fault c = λ other.
    let rows = c.queue_rows-rows.result.now in
    let many : 64 < length (map view rows) = rw (length-map rows view) (omega (arith, c.most.ensures, c.if-rows-most.true)) in
    many_rows c.args.text.now (table_view c.in-Ok.document) (map view rows) c.in-Ok.ensures.ok c.queue_rows-rows.ensures many

pub returns-in_err-push_rows-clause-fault : goal.returns-in_err-push_rows-clause-fault
returns-in_err-push_rows-clause-fault c =
    let rows = c.queue_rows-rows.result.now in
    let few : length (map view rows) ≤ 64 = rw (length-map rows view) (omega (arith, c.most.ensures, c.if-rows-most.false)) in
    err_is (λ fault. fault ≢ Memory → places_told c.args.text.now ≡ Err fault) c.from_residual.result c.in_err-push_rows.field-0.0 c.from_residual.ensures.1
    (λ other. few_rows c.args.text.now (table_view c.in-Ok.document) (map view rows) c.in-Ok.ensures.ok c.queue_rows-rows.ensures few ∙ c.in_err-push_rows.ensures.fault other)

pub returns-clause-told : goal.returns-clause-told
returns-clause-told c =
    let rows = c.queue_rows-rows.result.now in
    let few : length (map view rows) ≤ 64 = rw (length-map rows view) (omega (arith, c.most.ensures, c.if-rows-most.false)) in
    let told : IsToldBehind (rows_told 1 (map view rows)) [] (map told_view c.push_rows.new.told.items) = search rules in
    few_rows c.args.text.now (table_view c.in-Ok.document) (map view rows) c.in-Ok.ensures.ok c.queue_rows-rows.ensures few
    ∙ all_told (rows_told 1 (map view rows)) (map told_view c.push_rows.new.told.items) told
