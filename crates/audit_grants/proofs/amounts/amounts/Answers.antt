use Rattle.std.proofs.Common.{◌≡◌, ℕ, ◌+◌, length, replicate, ap, ◌∙◌}
use Rattle.audit_grants.proofs.Made.{claim}
use Rattle.audit_grants.proofs.amounts.amounts.Goals as goal

pub returns : goal.returns
returns c =
    let n : length c.queues.result.now ≡ length c.args.config.now.queues = ap length c.queues.ensures.value in
    claim c.args.config.now c.args.queue c.args.pages c.args.printers c.in_ok-all.all c.set.new.self c.set-2.new.self
    (c.in_ok-all.ensures ∙ ap (λ (m : ℕ). replicate (m + 1) 0) n) c.requires.0 c.requires.1 c.set.ensures c.set-2.ensures
