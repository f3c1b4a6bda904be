use Rattle.std.proofs.Common.{arith}
use Rattle.page_chain.proofs.Forgetting.{all_kept}
use Rattle.page_chain.proofs.drain.forget.Goals as goal

pub returns : goal.returns
returns c =
    let i = c.loop-i.invariant in
    let t = c.loop-i-test.false in
    all_kept c.args.kept.now c.args.files.now c.loop-i.files i.count (λ j lt. i.done j (omega (arith, t, lt)))
