use Rattle.std.proofs.Common.{◌∷◌, sym, subst}
use Rattle.spool_history.specs.Legal as L
use Rattle.spool_history.specs.Now as N
use Rattle.account.specs.declared.entry.Outline.{Outline}
use Rattle.account.specs.Seen.{event_seen, octets}
use Rattle.history_reader.specs.Seen.{state_seen}
use Rattle.account_audit.specs.Audited.{Audited}
use Rattle.account_audit.proofs.audit.Audit.step.Goals as goal

pub returns-clause-decides : goal.returns-clause-decides
returns-clause-decides c = λ b h left.
    let config = c.args.config.now in
    let v = state_seen config c.self.inside.state in
    let e = event_seen c.args.entry.now in
    let left' : L.IsLeftBy octets b h v = subst (λ (a : Audited). L.IsLeftBy octets b h (state_seen config a.state)) (sym c.self.view_is) left in
    subst (λ (w : N.State Outline). L.IsLeftBy octets b (e ∷ h) w) (sym (c.in_ok-enter.ensures.value c.if-not-branch.false))
    (c.step_leads.ensures.keeps octets b h e v left' (c.in_ok-enter.ensures.exact.0 c.if-not-branch.false))
