use Rattle.std.proofs.Common.{◌+◌, ℕ, List, length, sym, ◌∙◌, ap, arith}
use Rattle.claims.specs.Changes.{opened}
use Rattle.history_reader.specs.Seen.{job_seen}
use Rattle.audit_grants.proofs.Held.{amounts_kinds, needs_printers, row_added}
use Rattle.audit_grants.proofs.rows.add_row.Goals as goal

pub open_row-requires-clause-kinds : goal.open_row-requires-clause-kinds
open_row-requires-clause-kinds c =
    ap length c.in_ok-need.ensures
    ∙ (amounts_kinds c.args.config.now c.in-Some-sum.total c.args.job.now.queue (c.printers_held-taken.result + c.printers_needed.result) ∙ sym (ap length c.requires.capacity))

pub lend-requires-2-clause-needed : goal.lend-requires-2-clause-needed
lend-requires-2-clause-needed c =
    let x = c.args.job.now in
    let t0 = c.args.table.now in
    needs_printers c.args.config.now (job_seen x) t0 c.open_row.new.self c.lend.new.table c.len-row.result c.in-Some.held c.in-Some-sum.total (c.printers_held-taken.result + c.printers_needed.result) c.printers_held-taken.result
    (c.is_queue.ensures.0 c.if-not-is_queue.false) (c.in-Ok.ensures.opened ∙ ap (λ (l : List ℕ). opened t0 x.number x.sender x.queue l) c.in_ok-need.ensures) c.len-row.ensures c.lend.ensures (omega arith)

pub returns : goal.returns
returns c =
    let x = c.args.job.now in
    let t0 = c.args.table.now in
    λ _. row_added c.args.config.now (job_seen x) t0 c.open_row.new.self c.lend.new.table c.len-row.result c.in-Some.held c.in-Some-sum.total (c.printers_held-taken.result + c.printers_needed.result) c.printers_held-taken.result
    (c.is_queue.ensures.0 c.if-not-is_queue.false) (c.in-Ok.ensures.opened ∙ ap (λ (l : List ℕ). opened t0 x.number x.sender x.queue l) c.in_ok-need.ensures) c.len-row.ensures c.lend.ensures
    c.lend-2.new.table c.lend-2.ensures (c.in-Some.ensures ∙ c.in_ok-pages_held.ensures) (c.in-Some-sum.ensures ∙ ap (λ (n : ℕ). c.in-Some.held + n) c.pages_needed.ensures) c.printers_held-taken.ensures.value
    (ap (λ (n : ℕ). c.printers_held-taken.result + n) c.printers_needed.ensures.value)
