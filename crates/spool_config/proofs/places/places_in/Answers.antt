use Rattle.std.proofs.Common.{◌∙◌, ap, option_map, sym}
use Rattle.std.specs.Option.{option_and_then}
use Rattle.std.specs.Prelude.{codes}
use Rattle.toml.specs.Data.{get_member}
use Rattle.toml.specs.View.{table_view}
use Rattle.toml.proofs.Views.{table_get}
use Rattle.spool_config.proofs.places.places_in.Goals as goal

pub returns : goal.returns
returns c =
    let read = sym c.as_table.ensures ∙ ap (option_map (λ m. table_view m.now)) c.in_ok-as_table.was in
    table_get c.get.result (codes "places") c.in_ok-as_table.field-0.now.entries c.get.ensures.value
    ∙ sym (ap (option_and_then (get_member (codes "places"))) read)
