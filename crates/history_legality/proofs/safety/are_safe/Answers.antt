use Rattle.std.proofs.Common.{◌∙◌, ap, ℕ, List}
use Rattle.counts.specs.Amounts.{amount}
use Rattle.history_legality.specs.Claimed.{rows_seen, free_beside}
use Rattle.history_legality.proofs.OrderLaws.{if_ok_iff, order_same}
use Rattle.history_legality.proofs.safety.are_safe.Goals as goal

pub returns : goal.returns
returns c =
    let rows = rows_seen c.args.config.now c.args.claims.now in
    let same = order_same (amount c.as_slice.result.now) (free_beside c.args.config.now rows) rows (λ k. ap (λ (r : List ℕ). amount r k) c.as_slice.ensures.value ∙ c.in_ok-free.ensures k) in
    if_ok_iff c.has_finishing_order.result same.0 same.1 c.has_finishing_order.ensures
