use Rattle.std.proofs.Common.{rules, tests, ◌≡◌, ◌∙◌, sym}
use Rattle.std.specs.List.{list_all}
use Rattle.std.proofs.lemmas.Iterator.{YieldsList-from_slice}
use Rattle.std.proofs.lemmas.Iterator.Search.{all_from_yields_List}
use Rattle.std.proofs.lemmas.List.Folds.{list_all-map}
use Rattle.toml.specs.View.{view}
use Rattle.spool_config.specs.Faults.{is_row}
use Rattle.spool_config.proofs.reading.are_tables.Goals as goal

pub returns : goal.returns
returns c =
    let rows = c.args.rows.now in
    let plain : c.all.result ≡ list_all (λ row. is_row (view row)) rows =
    all_from_yields_List (λ row. is_row (view row)) _ _ c.all.result c.all.ensures.ran (YieldsList-from_slice rows cc) (λ x b q k. search (rules, tests)) in
    plain ∙ sym (list_all-map is_row view rows)
