use Rattle.std.proofs.Common.{rules, tests, ◌≡◌, ◌∙◌, is_some, sym}
use Rattle.std.specs.List.{list_all}
use Rattle.std.proofs.lemmas.Iterator.{YieldsList-from_slice}
use Rattle.std.proofs.lemmas.Iterator.Search.{all_from_yields_List}
use Rattle.std.proofs.lemmas.List.Folds.{list_all-map}
use Rattle.toml.specs.Data.{as_str}
use Rattle.toml.specs.View.{view}
use Rattle.spool_config.proofs.places.are_texts.Goals as goal

pub returns : goal.returns
returns c =
    let values = c.args.values.now in
    let plain : c.all.result ≡ list_all (λ value. is_some (as_str (view value))) values =
    all_from_yields_List (λ value. is_some (as_str (view value))) _ _ c.all.result c.all.ensures.ran (YieldsList-from_slice values cc) (λ x b q k. search (rules, tests)) in
    plain ∙ sym (list_all-map (λ value. is_some (as_str value)) view values)
