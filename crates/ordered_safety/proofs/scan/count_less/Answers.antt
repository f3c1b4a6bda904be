use Rattle.std.proofs.Common.{◌≡◌, ℕ, ◌<◌, ◌≤◌, ◌+◌, ◌-◌, List, get_or, false, subst, ap₂, sym, ◌∙◌, arith, length}
use Rattle.std.specs.Prelude.{remove}
use Rattle.std.proofs.lemmas.Bool.{false_from_ne_true}
use Rattle.std.proofs.lemmas.List.{length-map, get_or_default}
use Rattle.claims.specs.declared.row.Row.{Row}
use Rattle.claims.specs.Claims.{row_at}
use Rattle.claims.specs.Safety.{same_line}
use Rattle.ordered_safety.specs.Scan.{rows_at, row_of, CountsAhead}
use Rattle.ordered_safety.proofs.Picks.{row_there}
use Rattle.ordered_safety.proofs.Waiting.{Less, less_first, less_kept, less_taken, less_removed, waits}
use Rattle.ordered_safety.proofs.scan.count_less.Goals as goal
use Rattle.ordered_safety.proofs.scan.count_less.Goals.{then-index-gt0+then-are_of_one_line, else-index-gt0, else-index-gt0-via-then-index-gt0+else-are_of_one_line, else-index-gt0-via-else-index-gt0}

pub loop-at-init : goal.loop-at-init
loop-at-init c =
    let n = length-map c.args.left.now (row_at c.args.rows.now) in
    record { less = less_first (rows_at c.args.rows.now c.args.left.now) c.args.ahead.now.items c.args.gone (omega arith) c.requires.counts; room = omega arith }

-- a row that waits for none is of another line
not_waiting : (xs : List Row) (counts : List ℕ) (gone at n : ℕ) → gone < at → at < length xs → n ≡ get_or counts at 0 → n ≤ 0 → Less xs counts gone at → same_line (row_at xs at) (row_at xs gone) ≡ false
not_waiting xs counts gone at n lt there count zero h =
    false_from_ne_true (same_line (row_at xs at) (row_at xs gone)) (λ same. omega (arith, waits xs gone at lt there same, h.rest at (omega arith) there))

pub loop-at-preserved : goal.loop-at-preserved
loop-at-preserved c =
    let xs = rows_at c.args.rows.now c.args.left.now in
    let at = c.loop-at.at in
    let gone = c.args.gone in
    let old = c.loop-at.invariant.less in
    let n = length-map c.args.left.now (row_at c.args.rows.now) in
    let there : at < length xs = (let t = c.loop-at-test.true in omega arith) in
    let count : c.index.result.now ≡ get_or c.loop-at.ahead.items at 0 = c.index.ensures ∙ get_or_default c.loop-at.ahead.items at c.index.result.now 0 (let l = old.len in omega arith) in
    let same : same_line (row_at xs at) (row_at xs gone) ≡ same_line (row_of c.args.rows.now c.args.left.now at) (row_of c.args.rows.now c.args.left.now gone) =
    ap₂ same_line (row_there c.args.rows.now c.args.left.now at (omega arith)) (row_there c.args.rows.now c.args.left.now gone c.requires.gone) in
    elim c.if-index-gt0.branch [
      | then-index-gt0+then-are_of_one_line w ↦
          let read : w.index_mut.result.now ≡ get_or c.loop-at.ahead.items at 0 = w.index_mut.ensures.value ∙ get_or_default c.loop-at.ahead.items at w.index_mut.result.now 0 (let l = old.len in omega arith) in
          let some = w.if-index-gt0.true in
          let less : (w.index_mut.result.now - 1) + 1 ≡ get_or c.loop-at.ahead.items at 0 = omega arith in
          record {
            less = rw w.ahead-is (less_taken xs c.loop-at.ahead.items gone at (w.index_mut.result.now - 1) (let a = c.loop-at.auto.at in omega arith) there less (same ∙ (sym w.are_of_one_line.ensures ∙ w.if-are_of_one_line.true)) old);
            room = rw w.ahead-is c.loop-at.invariant.room;
          }
      | else-index-gt0 w ↦ elim w.else-index-gt0.branch [
        | else-index-gt0-via-then-index-gt0+else-are_of_one_line v ↦ record {
          less = rw w.ahead-is (less_kept xs c.loop-at.ahead.items gone at there (same ∙ (sym v.are_of_one_line.ensures ∙ v.if-are_of_one_line.false)) old);
          room = rw w.ahead-is c.loop-at.invariant.room;
        }
        | else-index-gt0-via-else-index-gt0 v ↦ record {
          less = rw w.ahead-is (less_kept xs c.loop-at.ahead.items gone at there (not_waiting xs c.loop-at.ahead.items gone at c.index.result.now (let a = c.loop-at.auto.at in omega arith) there count v.if-index-gt0.false old) old);
          room = rw w.ahead-is c.loop-at.invariant.room;
        }
      ]
    ]

pub returns-clause-counts : goal.returns-clause-counts
returns-clause-counts c =
    let n = length-map c.args.left.now (row_at c.args.rows.now) in
    let gone = c.requires.gone in
    let end = c.loop-at-test.false in
    subst (CountsAhead (remove (rows_at c.args.rows.now c.args.left.now) c.args.gone)) (sym c.remove.ensures.items)
    (less_removed (rows_at c.args.rows.now c.args.left.now) c.loop-at.ahead.items c.args.gone c.loop-at.at (omega arith) (omega arith) c.loop-at.invariant.less)
