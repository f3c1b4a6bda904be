use Rattle.std.proofs.Common.{◌≡◌, ◌↔◌, ◌<◌, ◌∙◌, sym, ap, ℕ, List, Bool, subst, map, arith}
use Rattle.std.specs.Prelude.{IsTrue, IfOk, filter}
use Rattle.claims.specs.declared.row.Row.{Row}
use Rattle.spool_history.specs.Events as E
use Rattle.spool_history.specs.Now.{Job, row_of, is_held, free_pages}
use Rattle.spool_history.specs.Steps.{change, after}
use Rattle.account.specs.declared.entry.Outline.{Outline}
use Rattle.history_reader.specs.Seen.{job_seen, state_seen}
use Rattle.history_legality.specs.Claimed.{rows_seen, AreSafe}
use Rattle.history_legality.proofs.OrderLaws.{if_ok_iff}
use Rattle.history_legality.proofs.safety.may_grant.Goals as goal
use Rattle.std.proofs.lemmas.List.{append-nil}

pub returns : goal.returns
returns c =
    let s = c.args.config.now in
    let v = state_seen c.args.config.now c.args.state.now in
    let e : E.Event Outline = E.Event.OfJob c.args.number E.Act.Granted in
    let jobs : List (Job Outline) = filter is_held (map (change e) (map job_seen c.args.state.now.jobs.items)) in
    let some : 0 < c.in_ok-free_pages.field-0 = omega arith in
    let free : 0 < free_pages v = subst (λ (n : ℕ). 0 < n) c.in_ok-free_pages.ensures some in
    let same : rows_seen s c.as_slice-2.result.now ≡ map (row_of s) jobs = cc (c.as_slice.ensures.value, c.as_slice-2.ensures.value, c.in_ok-claims.ensures) in
    let rows : rows_seen s c.as_slice-2.result.now ≡ map (row_of s) (after e v).jobs = same ∙ ap (λ (r : List (Job Outline)). map (row_of s) r) (sym (append-nil jobs)) in
    if_ok_iff c.are_safe.result (λ safe. (free, safe)) (λ m. m.1)
    (subst (λ (r : List Row). IfOk c.are_safe.result (λ (b : Bool). IsTrue b ↔ AreSafe s r)) rows c.are_safe.ensures)
