use Rattle.std.proofs.Common.{arith, refl}
use Rattle.counts.specs.Amounts.{amount}
use Rattle.history_legality.specs.Claimed.{with_back}
use Rattle.history_legality.proofs.KindLaws.{fits_kinds}
use Rattle.history_legality.proofs.orders.fits.Goals as goal

pub returns : goal.returns
returns c =
    let s = c.args.config.now in
    let x = c.args.claim.now in (
      λ _. fits_kinds s x.need_pages x.queue x.need_printers (with_back s (amount c.args.free.now) c.args.gone.now) (λ k lt. c.loop-kind.invariant k (omega arith)),
      λ _. refl,
    )
