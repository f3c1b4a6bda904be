use Rattle.std.proofs.Common.{◌≡◌, ◌<◌, length, sym, ◌∙◌, ap, subst, arith}
use Rattle.counts.specs.Amounts.{amount}
use Rattle.claims.specs.Claims.{Claims, row_at}
use Rattle.claims.specs.Changes.{granted}
use Rattle.audit_grants.specs.Lent.{lent}
use Rattle.audit_grants.proofs.Held.{lent_none, lent_more, lent_here, lent_free, lent_needed}
use Rattle.audit_grants.proofs.rows.lend.Goals as goal

pub loop-n-init : goal.loop-n-init
loop-n-init c = sym (lent_none c.args.table.now c.args.row c.args.kind)

pub grant-requires-clause-here : goal.grant-requires-clause-here
grant-requires-clause-here c =
    subst (λ (t : Claims). c.args.row < length t.rows) (sym c.loop-n.invariant) (lent_here c.args.table.now c.args.row c.args.kind c.loop-n.n c.requires.here)

pub grant-requires-clause-kind : goal.grant-requires-clause-kind
grant-requires-clause-kind c = subst (λ (t : Claims). c.args.kind < length t.capacity) (sym c.loop-n.invariant) c.requires.kind

pub grant-requires-clause-free : goal.grant-requires-clause-free
grant-requires-clause-free c =
    subst (λ (t : Claims). 0 < amount t.free c.args.kind) (sym c.loop-n.invariant)
    (lent_free c.args.table.now c.args.row c.args.kind c.loop-n.n c.args.count c.capacity.ensures.table c.requires.kind c.loop-n-test.true c.requires.free)

pub grant-requires-clause-needed : goal.grant-requires-clause-needed
grant-requires-clause-needed c =
    subst (λ (t : Claims). 0 < amount (row_at t.rows c.args.row).need c.args.kind) (sym c.loop-n.invariant)
    (lent_needed c.args.table.now c.args.row c.args.kind c.loop-n.n c.args.count c.capacity.ensures.table c.requires.here c.requires.kind c.loop-n-test.true c.requires.needed)

pub loop-n-preserved : goal.loop-n-preserved
loop-n-preserved c =
    c.grant.ensures
    ∙ (ap (λ (t : Claims). granted t c.args.row c.args.kind) c.loop-n.invariant
    ∙ lent_more c.args.table.now c.args.row c.args.kind c.loop-n.n c.capacity.ensures.table c.requires.here c.requires.kind)

pub returns : goal.returns
returns c =
    let t = c.loop-n-test.false in
    let m = c.loop-n.auto.n-end in
    let all : c.loop-n.n ≡ c.args.count = omega arith in
    c.loop-n.invariant ∙ ap (lent c.args.table.now c.args.row c.args.kind) all
