use Rattle.std.proofs.Common.{arith, ap, length, ◌∙◌}
use Rattle.std.proofs.lemmas.List.{take_at}
use Rattle.counts.proofs.Sums.{rest_of_each}
use Rattle.counts.proofs.amounts.Counts.sub.Goals as goal

pub returns : goal.returns
returns c =
    take_at c.loop-k.rests _ _ (omega (arith, c.loop-k.invariant.len))
    ∙ rest_of_each c.args.self.now c.args.less.now c.loop-k.rests (omega (arith, c.loop-k.invariant.len)) (omega arith) (λ k lt. c.loop-k.invariant.done k (omega (arith, ap length c.as_slice-taken.ensures)))
