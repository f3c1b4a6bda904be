use Rattle.std.proofs.Common.{arith, ap, length, ◌∙◌}
use Rattle.std.proofs.lemmas.List.{take_at}
use Rattle.counts.proofs.Sums.{sum_of_each}
use Rattle.counts.proofs.amounts.Counts.add.Goals as goal

pub returns : goal.returns
returns c =
    take_at c.loop-k.sums _ _ (omega (arith, c.loop-k.invariant.len))
    ∙ sum_of_each c.args.self.now c.args.more.now c.loop-k.sums (omega (arith, c.loop-k.invariant.len)) (omega arith) (λ k lt. c.loop-k.invariant.done k (omega (arith, ap length c.as_slice-added.ensures)))
