use Rattle.std.proofs.Common.{◌≡◌, ℕ, ◌+◌, ◌<◌, ◌≤◌, length, refl, subst, ap, sym, ◌∙◌, zero-add, arith}
use Rattle.std.specs.Prelude.{IsTrue}
use Rattle.std.proofs.lemmas.List.{drop_all, drop_more, length-map}
use Rattle.std.proofs.lemmas.List.Sums.{sum_by-drop_more}
use Rattle.counts.specs.Amounts.{amount, Fits}
use Rattle.counts.proofs.Sums.{length-sum_of}
use Rattle.claims.specs.declared.row.Row.{Row}
use Rattle.claims.specs.Claims.{row_at, no_row}
use Rattle.claims.specs.Safety.{CanFinish}
use Rattle.ordered_safety.specs.Scan.{rows_at}
use Rattle.ordered_safety.proofs.Picks.{row_there}
use Rattle.ordered_safety.proofs.Turns.{given, kinds_at}
use Rattle.ordered_safety.proofs.Walks.{WalkTakes, walked_over, walked_more, check_as_walked, finishing_is, as_many, held_same}
use Rattle.ordered_safety.proofs.trial.walk.Goals as goal
use Rattle.ordered_safety.proofs.trial.walk.Goals.{After-get-row, After-loop-place, Then-not-le}

pub loop-place-init : goal.loop-place-init
loop-place-init c =
    let order = rows_at c.args.rows.now c.args.places.now in
    record {
      tests = refl;
      small = λ kind. omega (arith, c.requires.small kind, held_same kind c.args.rows.now order c.requires.once);
      kinds = refl;
      walked = record { finish = (λ h. h, λ h. h); taken = λ n m e h. subst (WalkTakes (amount c.args.free.now) order) (sym (zero-add n) ∙ e) h };
    }

-- the row that is read is the next one of the order
there : (c : After-get-row) → c.loop-place.place-index < length (rows_at c.args.rows.now c.args.places.now)
there c = let lt = c.loop-place-test.true in omega (arith, length-map c.args.places.now (row_at c.args.rows.now))

row_is : (c : After-get-row) → c.get-row.result.now ≡ row_at (rows_at c.args.rows.now c.args.places.now) c.loop-place.place-index
row_is c = c.get-row.ensures ∙ sym (row_there c.args.rows.now c.args.places.now c.loop-place.place-index c.loop-place-test.true)

-- it needs too much
over : (c : Then-not-le)
    → ¬ (CanFinish (amount c.args.free.now) (rows_at c.args.rows.now c.args.places.now)) × WalkTakes (amount c.args.free.now) (rows_at c.args.rows.now c.args.places.now) (c.loop-place.tests + 1)
over c =
    let order = rows_at c.args.rows.now c.args.places.now in
    let s = (goal.at.returns-then-not-le-clause-exact c).After-get-row in
    walked_over (rw (drop_more order c.loop-place.place-index no_row (there s)) at c.loop-place.invariant.walked) (λ fits. absurd (
    let yes : IsTrue c.le.result = c.le.ensures.1 (subst (λ (r : Row). Fits r.need (amount c.loop-place.free)) (sym (row_is s)) fits) in
    cc))

pub returns-then-not-le-clause-exact : goal.returns-then-not-le-clause-exact
returns-then-not-le-clause-exact c = (
  λ h. absurd cc,
  λ h. absurd ((over c).0 (finishing_is (amount c.args.free.now) c.args.rows.now (rows_at c.args.rows.now c.args.places.now) c.requires.rising c.requires.once h).fits),
)

pub returns-then-not-le-clause-tests : goal.returns-then-not-le-clause-tests
returns-then-not-le-clause-tests c =
    check_as_walked (amount c.args.free.now) c.args.rows.now (rows_at c.args.rows.now c.args.places.now) (c.loop-place.tests + 1) c.requires.rising c.requires.once c.requires.line (over c).1

pub returns-then-not-le-clause-most : goal.returns-then-not-le-clause-most
returns-then-not-le-clause-most c = omega (arith, as_many c.args.rows.now c.args.places.now c.requires.once)

pub add-requires-clause-room : goal.add-requires-clause-room
add-requires-clause-room c = λ kind.
    let f : Row → ℕ = λ row. amount row.held kind in
    let s = (goal.at.add-requires-clause-room c).After-get-row in
    let held = sum_by-drop_more f (rows_at c.args.rows.now c.args.places.now) c.loop-place.place-index no_row (there s) in
    omega (arith, ap f (row_is s), c.loop-place.invariant.small kind)

pub loop-place-preserved : goal.loop-place-preserved
loop-place-preserved c =
    let order = rows_at c.args.rows.now c.args.places.now in
    let i = c.loop-place.place-index in
    let old = c.loop-place.invariant in
    let s = (goal.at.loop-place-preserved c).After-get-row in
    let yes : IsTrue c.le.result = c.if-not-le.false in
    let fits = subst (λ (r : Row). Fits r.need (amount c.loop-place.free)) (row_is s) (c.le.ensures.0 yes) in
    let kinds = kinds_at (length c.args.free.now) c.args.rows.now c.args.places.now c.requires.kinds c.requires.there in
    let more = given order c.args.free.now c.loop-place.free c.add.new.self c.get-row.result.now i kinds (there s) (row_is s) old.kinds c.add.ensures in
    record {
      tests = omega arith;
      small = λ kind.
          let held = sum_by-drop_more (λ (row : Row). amount row.held kind) order i no_row (there s) in
          omega (arith, ap (λ (f : ℕ → ℕ). f kind) more, old.small kind);
      kinds = ap length c.add.ensures ∙ (length-sum_of c.loop-place.free c.get-row.result.now.held ∙ old.kinds);
      walked = rw more (walked_more (rw (drop_more order i no_row (there s)) at old.walked) fits);
    }

-- all places are passed
all : (c : After-loop-place)
    → CanFinish (amount c.args.free.now) (rows_at c.args.rows.now c.args.places.now) × WalkTakes (amount c.args.free.now) (rows_at c.args.rows.now c.args.places.now) c.loop-place.tests
all c =
    let end : length (rows_at c.args.rows.now c.args.places.now) ≤ c.loop-place.place-index = omega (arith, c.loop-place-test.false, length-map c.args.places.now (row_at c.args.rows.now)) in
    let passed = rw (drop_all c.loop-place.place-index (rows_at c.args.rows.now c.args.places.now) end) at c.loop-place.invariant.walked in
    (passed.finish.0 tt, passed.taken 0 c.loop-place.tests (omega arith) refl)

pub returns-clause-tests : goal.returns-clause-tests
returns-clause-tests c =
    check_as_walked (amount c.args.free.now) c.args.rows.now (rows_at c.args.rows.now c.args.places.now) c.loop-place.tests c.requires.rising c.requires.once c.requires.line (all c).1

pub returns-clause-exact : goal.returns-clause-exact
returns-clause-exact c = (λ h. (rows_at c.args.rows.now c.args.places.now, record { each_once = c.requires.once; in_line = c.requires.line; fits = (all c).0 }, refl), λ h. refl)

pub returns-clause-most : goal.returns-clause-most
returns-clause-most c = omega (arith, as_many c.args.rows.now c.args.places.now c.requires.once)

pub returns-clause-each : goal.returns-clause-each
returns-clause-each c = λ h. omega (arith, as_many c.args.rows.now c.args.places.now c.requires.once)
