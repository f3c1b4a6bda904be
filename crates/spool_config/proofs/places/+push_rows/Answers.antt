use Rattle.std.proofs.Common.{◌+◌, map}
use Rattle.std.proofs.lemmas.Result.{on_ok_weaker}
use Rattle.toml.specs.View.{view}
use Rattle.spool_config.specs.Places.{places_in, rows_told, told_view, value_texts}
use Rattle.spool_config.proofs.PlaceTexts.{one_more_row}
use Rattle.spool_config.proofs.places.+push_rows.Goals as goal

pub returns-clause-told : goal.returns-clause-told
returns-clause-told t c =
    rw c.in-Some.ensures.cases.0 (
    on_ok_weaker c.push_rows.result
    (one_more_row c.args.queue (value_texts (places_in (view c.in-Some.row.now))) (map view c.in_ok-texts_in.field-0.now)
    (rows_told (c.args.queue + 1) (map view c.in-Some.rest.now)) (map told_view c.args.told.now.items) (map told_view c.push_texts.new.told.items)
    (map told_view c.push_rows.new.told.items) c.in_ok-texts_in.ensures c.in_ok-push_texts.ensures)
    c.push_rows.ensures.told
    )
