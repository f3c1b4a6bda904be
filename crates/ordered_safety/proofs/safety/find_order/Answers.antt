use Rattle.std.proofs.Common.{length, ap, ◌∙◌, arith}
use Rattle.std.proofs.lemmas.Bool.{not-false}
use Rattle.std.proofs.lemmas.Grind.{common_steps}
use Rattle.ordered_safety.proofs.Walks.{as_many}
use Rattle.ordered_safety.proofs.safety.find_order.Goals as goal

pub put_numbers-requires-clause-room : goal.put_numbers-requires-clause-room
put_numbers-requires-clause-room c =
    let rows = c.plain-rows.result in
    let places = c.scan-verdict.new.work.places.items in
    let order = c.scan-verdict.ensures.order (not-false c.scan-verdict.result.safe c.if-not-verdict.false) in
    let long = as_many rows places order.each_once in
    let same = ap length c.as_slice-places.ensures.value in
    let table = ap length (c.plain-rows.ensures ∙ c.rows.ensures.rows) in
    grind (arith, common_steps)
