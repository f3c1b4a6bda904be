use Rattle.std.proofs.Common.{◌≡◌, ◌∙◌, ◌≤◌, ◌<◌, length, sym, ap, Some, option_map, map, arith}
use Rattle.std.proofs.lemmas.List.{length-map}
use Rattle.toml.specs.View.{view, array_view, items_view}
use Rattle.spool_config.specs.Places.{array_texts, places_in, value_texts}
use Rattle.spool_config.proofs.PlaceTexts.{few_texts, many_texts, no_texts, value_texts-array}
use Rattle.spool_config.proofs.places.texts_in.Goals as goal
use Rattle.spool_config.proofs.places.texts_in.Goals.{After-as_slice-values}

-- what is said of the value at `places` is what is said of the array
texts : (c : After-as_slice-values) → value_texts (places_in (view c.args.row.now)) ≡ array_texts (Some (map view c.as_slice-values.result.now))
texts c =
    let there = sym c.places_in.ensures ∙ ap (option_map (λ v. view v.now)) c.in-Some.is in
    let is = sym c.as_array.ensures ∙ ap (option_map (λ v. array_view v.now)) c.in-Some-as_array.is
    ∙ ap (λ vs. Some (items_view vs)) (sym c.as_slice-values.ensures.value) in
    value_texts-array _ _ c.as_slice-values.result.now there is

pub returns-then-not-are_texts : goal.returns-then-not-are_texts
returns-then-not-are_texts c =
    texts (goal.at.returns-then-not-are_texts c).After-as_slice-values
    ∙ no_texts (map view c.as_slice-values.result.now) (sym c.are_texts.ensures ∙ c.if-not-are_texts.true)

pub returns-then-values-most : goal.returns-then-values-most
returns-then-values-most c =
    let values = c.as_slice-values.result.now in
    let many : 16 < length (map view values) = rw (length-map values view) (omega (arith, c.most.ensures, c.if-values-most.true)) in
    texts (goal.at.returns-then-values-most c).After-as_slice-values
    ∙ many_texts (map view values) (sym c.are_texts.ensures ∙ c.if-not-are_texts.false) many

pub returns : goal.returns
returns c =
    let values = c.as_slice-values.result.now in
    let few : length (map view values) ≤ 16 = rw (length-map values view) (omega (arith, c.most.ensures, c.if-values-most.false)) in
    texts (goal.at.returns c).After-as_slice-values
    ∙ few_texts (map view values) (sym c.are_texts.ensures ∙ c.if-not-are_texts.false) few
