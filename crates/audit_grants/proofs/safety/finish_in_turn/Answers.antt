use Rattle.audit_grants.proofs.safety.finish_in_turn.Goals as goal

pub returns-clause-safe : goal.returns-clause-safe
returns-clause-safe c = λ e. (let f = c.check_order-verdict.ensures.exact.0 e in (f.0, f.1))
