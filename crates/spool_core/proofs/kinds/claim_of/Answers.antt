use Rattle.std.proofs.Common.{◌≡◌, ℕ, ◌+◌, length, replicate, set, ap, ◌∙◌}
use Rattle.config_values.specs.Config as C
use Rattle.spool_core.proofs.Amounts.{claim}
use Rattle.spool_core.proofs.kinds.claim_of.Goals as goal

pub returns : goal.returns
returns c =
    let n : length c.queues.result.now ≡ length c.args.config.now.queues = ap length c.queues.ensures.value in
    claim c.args.config.now c.args.queue (C.limit_of c.args.config.now c.args.queue) c.in_ok-all.all c.set.new.self c.set-2.new.self
    (c.in_ok-all.ensures ∙ ap (λ (m : ℕ). replicate (m + 1) 0) n) c.requires.0 c.requires.1
    (c.set.ensures ∙ ap (set c.in_ok-all.all 0) c.limit_of.ensures) c.set-2.ensures
