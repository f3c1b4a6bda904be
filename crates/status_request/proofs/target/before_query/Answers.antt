use Rattle.std.proofs.Common.{eqb, take, ap, sym, ◌∙◌, rules, tests}
use Rattle.std.proofs.lemmas.Iterator.{YieldsList-from_slice}
use Rattle.std.proofs.lemmas.Iterator.Search.{position_from_yields_List}
use Rattle.status_request.proofs.PieceLemmas.{place_of, none_past}
use Rattle.status_request.proofs.target.before_query.Goals as goal

pub returns-in-Some : goal.returns-in-Some
returns-in-Some c =
    let target = c.args.target.now in
    let e = position_from_yields_List (λ b. eqb b 63) _ _ _ c.position.ensures.ran (YieldsList-from_slice target cc) (λ x b q k. search (rules, tests)) in
    ap (λ n. take n target) (place_of _ _ _ (sym c.in-Some.is ∙ e))

pub returns-in-None : goal.returns-in-None
returns-in-None c =
    let target = c.args.target.now in
    let e = position_from_yields_List (λ b. eqb b 63) _ _ _ c.position.ensures.ran (YieldsList-from_slice target cc) (λ x b q k. search (rules, tests)) in
    none_past _ target (sym c.in-None.is ∙ e)
