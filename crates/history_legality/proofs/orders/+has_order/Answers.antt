use Rattle.std.proofs.Common.{◌≡◌, ◌<◌, [], ◌∷◌, ◌++◌, length, get_or, arith, refl, below_more}
use Rattle.std.specs.Prelude.{remove}
use Rattle.std.proofs.lemmas.Bool.Decides.{nat_tests}
use Rattle.counts.specs.Amounts.{amount}
use Rattle.history_legality.specs.Claimed.{with_back}
use Rattle.history_legality.proofs.OrderLaws.{found, not_first, not_fitting, no_order_after, place_from_order}
use Rattle.history_legality.proofs.orders.+has_order.Goals as goal
use Rattle.history_legality.proofs.orders.+has_order.Goals.{then-stands_first+then-fits+in_ok-more+in_ok-push+in_ok-has_order+else-branch, else-stands_first, else-stands_first-via-then-stands_first+else-fits, else-stands_first-via-else-stands_first}

pub returns-then-branch : goal.returns-then-branch
returns-then-branch t c =
    let xs = c.args.claims.now in
    let k = c.loop-place.place in
    let x = c.remove-claim.result in
    let lt : k < length xs = omega arith in
    let others : c.deref.result.now ≡ remove xs k = cc (c.deref.ensures.value, c.remove-claim.ensures.items, c.in_ok-others.ensures.items) in
    let again : c.deref-then-fits-2.result.now ≡ remove xs k = cc (c.deref-then-fits-2.ensures.value, c.remove-claim.ensures.items, c.in_ok-others.ensures.items) in
    let at : x ≡ get_or xs k x = cc (c.remove-claim.ensures.value, c.in_ok-others.ensures.items) in
    let more : c.deref-then-fits.result.now ≡ c.args.gone.now ++ x ∷ [] = cc (c.deref-then-fits.ensures.value, c.in_ok-push.ensures.items, c.in_ok-more.ensures.items) in (
      λ _. found c.args.config.now (amount c.args.free.now) xs c.args.gone.now k c.deref.result.now c.deref-then-fits-2.result.now c.deref-then-fits.result.now x
          c.stands_first.result c.fits.result c.in_ok-has_order.field-0 lt others again at more c.stands_first.ensures c.fits.ensures c.in_ok-has_order.ensures c.if-stands_first.true c.if-fits.true c.if-branch.true,
      λ _. refl,
    )

pub loop-place-preserved : goal.loop-place-preserved
loop-place-preserved t c =
    let s = c.args.config.now in
    let f = amount c.args.free.now in
    let xs = c.args.claims.now in
    let gone = c.args.gone.now in
    let k = c.loop-place.place in
    let x = c.remove-claim.result in
    let lt : k < length xs = omega arith in
    let others : c.deref.result.now ≡ remove xs k = cc (c.deref.ensures.value, c.remove-claim.ensures.items, c.in_ok-others.ensures.items) in
    let at : x ≡ get_or xs k x = cc (c.remove-claim.ensures.value, c.in_ok-others.ensures.items) in
    below_more _ _ c.loop-place.invariant (elim c.if-stands_first.branch [
      | then-stands_first+then-fits+in_ok-more+in_ok-push+in_ok-has_order+else-branch w ↦
          let again : w.deref-then-fits-2.result.now ≡ remove xs k = cc (w.deref-then-fits-2.ensures.value, c.remove-claim.ensures.items, c.in_ok-others.ensures.items) in
          let more : w.deref-then-fits.result.now ≡ gone ++ x ∷ [] = cc (w.deref-then-fits.ensures.value, w.in_ok-push.ensures.items, w.in_ok-more.ensures.items) in
          no_order_after s f xs gone k w.deref-then-fits-2.result.now w.deref-then-fits.result.now x w.in_ok-has_order.field-0 lt again at more w.in_ok-has_order.ensures w.if-branch.false
      | else-stands_first w ↦ elim w.else-stands_first.branch [
        | else-stands_first-via-then-stands_first+else-fits v ↦ not_fitting s (with_back s f gone) xs k x v.fits.result lt at v.fits.ensures v.if-fits.false
        | else-stands_first-via-else-stands_first v ↦ not_first s (with_back s f gone) xs k c.deref.result.now x c.stands_first.result lt others at c.stands_first.ensures v.if-stands_first.false
      ]
    ])

pub returns : goal.returns
returns t c =
    let s = c.args.config.now in
    let some : 0 < length c.args.claims.now = grind (arith, nat_tests) in (
      λ e. absurd (cc),
      λ h. let w = place_from_order s (with_back s (amount c.args.free.now) c.args.gone.now) c.args.claims.now some h in
          let lt = w.1 in
          absurd (c.loop-place.invariant w.0 (omega arith) w.2),
    )
