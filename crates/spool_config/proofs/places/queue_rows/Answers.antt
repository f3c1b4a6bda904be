use Rattle.std.proofs.Common.{◌∙◌, [], sym, ap, Some, option_map}
use Rattle.std.specs.Option.{option_and_then, option_map_or}
use Rattle.toml.specs.View.{view, array_view, items_view}
use Rattle.spool_config.specs.Faults.{rows_of}
use Rattle.spool_config.specs.Told.{elements}
use Rattle.spool_config.proofs.Rows.{elements-view}
use Rattle.spool_config.proofs.places.queue_rows.Goals as goal

pub returns-in-Some-as_array : goal.returns-in-Some-as_array
returns-in-Some-as_array c =
    let there = sym c.value_at.ensures ∙ ap (option_map (λ v. view v.now)) c.in-Some.is in
    let is = sym c.as_array.ensures ∙ ap (option_map (λ v. array_view v.now)) c.in-Some-as_array.is
    ∙ ap (λ vs. Some (items_view vs)) (sym c.as_slice.ensures.value) in
    sym (ap (λ value. option_map_or (λ rows. rows) (option_and_then rows_of value) []) there
    ∙ ap (λ items. option_map_or (λ rows. rows) (option_map elements items) []) is
    ∙ elements-view c.as_slice.result.now)
