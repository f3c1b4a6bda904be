use Rattle.std.proofs.Common.{◌↔◌, List, map, refl, subst}
use Rattle.std.specs.Prelude.{Option, IfSome}
use Rattle.claims.specs.Claims.{Claims}
use Rattle.claims.specs.Safety.{IsSafe}
use Rattle.spool_history.specs.Now.{IsSafeNow}
use Rattle.history_reader.specs.declared.state.Job.{Job}
use Rattle.history_reader.specs.Seen.{job_seen, state_seen}
use Rattle.audit_grants.specs.Lent.{IsTableFor}
use Rattle.audit_grants.proofs.Held.{safe_both}
use Rattle.audit_grants.proofs.safety.is_safe.Goals as goal

pub returns : goal.returns
returns c =
    let config = c.args.config.now in
    let t = c.in-Some.table in
    let made : IsTableFor config (map job_seen c.as_slice.result.now) t =
    subst (λ (r : Option Claims). IfSome r (IsTableFor config (map job_seen c.as_slice.result.now))) c.in-Some.is c.in_ok-table.ensures in
    let both : IsSafe t ↔ IsSafeNow (state_seen config c.args.state.now) =
    safe_both config c.args.state.now t c.capacity.ensures.table (subst (λ (l : List Job). IsTableFor config (map job_seen l) t) c.as_slice.ensures.value made) in
    (λ e. both.0 (c.is_safe-verdict.ensures.exact.0 e), λ h. c.is_safe-verdict.ensures.exact.1 (both.1 h))

pub returns-then-branch : goal.returns-then-branch
returns-then-branch c =
    let config = c.args.config.now in
    let t = c.in-Some.table in
    let made : IsTableFor config (map job_seen c.as_slice.result.now) t =
    subst (λ (r : Option Claims). IfSome r (IsTableFor config (map job_seen c.as_slice.result.now))) c.in-Some.is c.in_ok-table.ensures in
    let both : IsSafe t ↔ IsSafeNow (state_seen config c.args.state.now) =
    safe_both config c.args.state.now t c.capacity.ensures.table (subst (λ (l : List Job). IsTableFor config (map job_seen l) t) c.as_slice.ensures.value made) in
    (λ _. both.0 (c.in_ok-finish_in_turn.ensures.safe c.if-branch.true), λ _. refl)
