use Rattle.std.proofs.Common.{[], arith}
use Rattle.counts.specs.Amounts.{amount}
use Rattle.history_legality.specs.Claimed.{rows_seen, with_back}
use Rattle.history_legality.proofs.OrderLaws.{if_ok_iff, order_same}
use Rattle.history_legality.proofs.orders.has_finishing_order.Goals as goal

pub returns : goal.returns
returns c =
    let f = amount c.args.free.now in
    let same = order_same (with_back c.args.config.now f []) f (rows_seen c.args.config.now c.args.claims.now) (λ k. omega arith) in
    if_ok_iff c.has_order.result same.0 same.1 c.has_order.ensures
