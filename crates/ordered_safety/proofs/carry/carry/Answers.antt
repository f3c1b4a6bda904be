use Rattle.claims.specs.Safety.{IsOrderOf}
use Rattle.ordered_safety.specs.Scan.{rows_at}
use Rattle.ordered_safety.specs.Carried.{AreMet}
use Rattle.ordered_safety.specs.Kept.{kept_numbers}
use Rattle.ordered_safety.proofs.Carries.{carried_once, carried_line}
use Rattle.ordered_safety.proofs.carry.carry.Goals as goal
use Rattle.ordered_safety.proofs.carry.carry.Goals.{After-put_others-above}

marks : (c : After-put_others-above) → AreMet c.args.rows.now (kept_numbers c.args.kept.now) c.as_slice.result.now
marks c = rw c.as_slice.ensures.value c.put_met-same.ensures.marks

-- all rows are in the order, whichever branch answers
once : (c : After-put_others-above) → IsOrderOf c.args.rows.now (rows_at c.args.rows.now c.put_others-above.new.places.items)
once c =
    let rows = c.args.rows.now in
    let ns = kept_numbers c.args.kept.now in
    let others = c.put_others-above.ensures.others ns (marks c) in
    carried_once rows (rows_at rows c.put_met-same.new.places.items) (rows_at rows c.put_others-above.new.places.items) ns c.put_met-same.ensures.once others

pub returns-then-same-clause-once : goal.returns-then-same-clause-once
returns-then-same-clause-once c = once (goal.at.returns-then-same-clause-once c).After-put_others-above

pub returns-else-same-clause-once : goal.returns-else-same-clause-once
returns-else-same-clause-once c = once (goal.at.returns-else-same-clause-once c).After-put_others-above

pub returns-then-same-clause-line : goal.returns-then-same-clause-line
returns-then-same-clause-line c = λ yes.
    let rows = c.args.rows.now in
    let found = c.put_met-same in
    let ns = kept_numbers c.args.kept.now in
    let marks = marks (goal.at.returns-then-same-clause-line c).After-put_others-above in
    carried_line rows (rows_at rows c.put_others-above.new.places.items) found.new.places.items c.as_slice.result.now ns found.result.1 c.requires.rising marks
    (found.ensures.line c.if-same.true) found.ensures.among found.ensures.greatest (c.put_others-above.ensures.above yes) (c.put_others-above.ensures.others ns marks)
