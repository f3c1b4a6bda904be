use Rattle.std.proofs.Common.{◌≡◌, ◌<◌, ◌↔◌, get_or, subst, sym, ◌∙◌, below_more, arith}
use Rattle.std.specs.Prelude.{IsTrue}
use Rattle.std.proofs.lemmas.List.{length-map}
use Rattle.counts.specs.Amounts.{amount, Fits}
use Rattle.claims.specs.declared.row.Row.{Row}
use Rattle.claims.specs.Claims.{row_at}
use Rattle.ordered_safety.specs.Scan.{rows_at}
use Rattle.ordered_safety.specs.Compared.{HasNoEarlier}
use Rattle.ordered_safety.proofs.Picks.{row_there, can_go, may_go_at}
use Rattle.ordered_safety.proofs.Waiting.{head_where, compared_head, compared_other}
use Rattle.ordered_safety.proofs.scan.pick.Goals as goal
use Rattle.ordered_safety.proofs.scan.pick.Goals.{In-loop-at, then-ahead-at-eq0+else-le, else-ahead-at-eq0}

-- whether the row at the place waits for none
head : (c : In-loop-at) → (get_or c.args.ahead.now c.loop-at.at 0 ≡ 0) ↔ HasNoEarlier (rows_at c.args.rows.now c.args.left.now) c.loop-at.at
head c =
    let lt = c.loop-at-test.true in
    head_where (rows_at c.args.rows.now c.args.left.now) c.args.ahead.now c.loop-at.at c.requires.ahead (omega (arith, length-map c.args.left.now (row_at c.args.rows.now)))

pub loop-at-preserved : goal.loop-at-preserved
loop-at-preserved c =
    let rows = c.args.rows.now in
    let left = c.args.left.now in
    let at = c.loop-at.at in
    let old = c.loop-at.invariant in
    let is_head = head (goal.at.loop-at-preserved c).In-loop-at in
    elim c.if-ahead-at-eq0.branch [
      | then-ahead-at-eq0+else-le w ↦
          let more = compared_head (rows_at rows left) at (is_head.0 w.if-ahead-at-eq0.true) in
          record {
            none = below_more _ _ old.none (λ m. absurd (
                let yes : IsTrue w.le.result = w.le.ensures.1 (subst (λ (r : Row). Fits r.need (amount c.args.free.now)) (sym w.get.ensures) m.fits) in
                let no_fit = w.if-le.false in
                cc));
            tests = let t = old.tests in omega arith;
            most = omega arith;
            least = λ some. omega arith;
          }
      | else-ahead-at-eq0 w ↦
          let same = compared_other (rows_at rows left) at (let lt = c.loop-at-test.true in omega (arith, length-map left (row_at rows))) (λ h. w.if-ahead-at-eq0.false (is_head.1 h)) in
          record {
            none = below_more _ _ old.none (λ m. w.if-ahead-at-eq0.false (is_head.1 (can_go rows left at c.args.free.now m).in_line));
            tests = let t = old.tests in omega arith;
            most = omega arith;
            least = λ some.
                let later : 0 < at = omega (arith, λ (e : at ≡ 0). w.if-ahead-at-eq0.false (is_head.1 (λ j below. absurd (omega arith)))) in
                let l = old.least later in
                omega arith;
          }
    ]

pub returns-then-le-clause-found : goal.returns-then-le-clause-found
returns-then-le-clause-found c =
    let rows = c.args.rows.now in
    let left = c.args.left.now in
    let at = c.loop-at.at in
    let yes : IsTrue c.le.result = c.if-le.true in
    may_go_at rows left at c.args.free.now (record {
      there = let lt = c.loop-at-test.true in omega (arith, length-map left (row_at rows));
      fits = subst (λ (r : Row). Fits r.need (amount c.args.free.now)) (c.get.ensures ∙ sym (row_there rows left at c.loop-at-test.true)) (c.le.ensures.0 yes);
      in_line = (head (goal.at.returns-then-le-clause-found c).In-loop-at).0 c.if-ahead-at-eq0.true;
    })

pub returns-then-le-clause-tests : goal.returns-then-le-clause-tests
returns-then-le-clause-tests c =
    let more = compared_head (rows_at c.args.rows.now c.args.left.now) c.loop-at.at ((head (goal.at.returns-then-le-clause-tests c).In-loop-at).0 c.if-ahead-at-eq0.true) in
    let old = c.loop-at.invariant.tests in
    omega arith

pub returns-clause-none : goal.returns-clause-none
returns-clause-none c = λ at m. c.loop-at.invariant.none at (let t = c.loop-at-test.false in let th = m.there in omega arith) m
