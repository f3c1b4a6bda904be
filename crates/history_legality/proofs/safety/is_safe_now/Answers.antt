use Rattle.std.proofs.Common.{◌≡◌, ◌↔◌, List, Bool, subst, map}
use Rattle.std.specs.Prelude.{IsTrue, IfOk}
use Rattle.claims.specs.declared.row.Row.{Row}
use Rattle.spool_history.specs.Now.{row_of}
use Rattle.history_reader.specs.Seen.{job_seen}
use Rattle.history_legality.specs.Claimed.{rows_seen, AreSafe}
use Rattle.history_legality.proofs.safety.is_safe_now.Goals as goal

pub returns : goal.returns
returns c =
    let s = c.args.config.now in
    let same : rows_seen s c.as_slice-2.result.now ≡ map (row_of s) (map job_seen c.args.state.now.jobs.items) = cc (c.as_slice.ensures.value, c.as_slice-2.ensures.value, c.in_ok-claims.ensures) in
    subst (λ (rows : List Row). IfOk c.are_safe.result (λ (b : Bool). IsTrue b ↔ AreSafe s rows)) same c.are_safe.ensures
