use Rattle.std.proofs.Common.{◌≡◌, ℕ, ◌+◌, ◌<◌, ◌↔◌, List, [], ◌∷◌, length, get_or, drop, zero-add, subst, ap, sym, ◌∙◌, arith}
use Rattle.std.specs.Prelude.{IsTrue}
use Rattle.std.proofs.lemmas.Grind.{common_steps}
use Rattle.std.proofs.lemmas.Bool.Decides.{nat_tests}
use Rattle.std.proofs.lemmas.List.{drop_more, drop_all, get_or_default, length-map, nil_from_length}
use Rattle.std.proofs.lemmas.List.Edits.{length-remove}
use Rattle.counts.specs.Amounts.{amount, Fits}
use Rattle.claims.specs.declared.row.Row.{Row}
use Rattle.claims.specs.Claims.{row_at}
use Rattle.claims.specs.Safety.{AreFinishing}
use Rattle.ordered_safety.specs.Scan.{rows_at}
use Rattle.ordered_safety.specs.Compared.{CheckTakes, IsNext}
use Rattle.ordered_safety.proofs.Picks.{row_there, same_remove, is_next, has_turn}
use Rattle.ordered_safety.proofs.Turns.{Followed, leaving_all, all_rows, leaving_others, given_back, room_back, followed_none, followed_over, followed_more, followed_all}
use Rattle.ordered_safety.proofs.follow.follow.Goals as goal
use Rattle.ordered_safety.proofs.follow.follow.Goals.{In-numbers, In_default, After-get-row, Then-not-le, After-is_empty-safe}

pub numbers-init : goal.numbers-init
numbers-init c =
    let rows = c.args.rows.now in
    let left = c.fill.new.left.items in
    let n : length left ≡ length rows = c.fill.ensures.len ∙ c.len.ensures in
    let each = λ (j : ℕ) (lt : j < length rows). c.fill.ensures.each j (let e = c.len.ensures in omega arith) in
    record {
      leaving = leaving_all rows left n each c.args.free.now c.requires.rising c.requires.small;
      followed = subst (λ (r : List Row). Followed (amount c.args.free.now) rows c.args.numbers.now (amount c.args.free.now) r c.args.numbers.now 0) (sym (all_rows rows left n each))
          (record { exact = (λ h. h, λ h. h); taken = λ n m e h. subst (CheckTakes (amount c.args.free.now) rows c.args.numbers.now) (sym (zero-add n) ∙ e) h });
      count = omega arith;
      room = c.fill.ensures.room;
    }

-- the number that is read is followed next
so_far : (c : In-numbers) → drop c.numbers.number-index c.args.numbers.now ≡ get_or c.args.numbers.now c.numbers.number-index 0 ∷ drop (c.numbers.number-index + 1) c.args.numbers.now
so_far c = drop_more c.args.numbers.now c.numbers.number-index 0 (omega arith)

-- no row with the number has its turn
none : (c : In_default) → ¬ (AreFinishing (amount c.args.free.now) c.args.rows.now c.args.numbers.now) × CheckTakes (amount c.args.free.now) c.args.rows.now c.args.numbers.now c.numbers.tests
none c =
    let next = so_far (goal.at.returns-in_default-clause-exact c).In-numbers in
    let gone = rw c.as_slice.ensures.value at c.in_default.ensures.none in
    followed_none (rw next at c.numbers.invariant.followed) c.numbers.invariant.leaving.rising
    (λ at h. gone at (has_turn c.args.rows.now c.numbers.left.items at (get_or c.args.numbers.now c.numbers.number-index 0) h))

pub returns-in_default-clause-exact : goal.returns-in_default-clause-exact
returns-in_default-clause-exact c = (λ h. absurd cc, λ h. absurd ((none c).0 h))

pub returns-in_default-clause-tests : goal.returns-in_default-clause-tests
returns-in_default-clause-tests c = (none c).1

-- the row that is next is the one that is read
turn : (c : After-get-row) → IsNext (rows_at c.args.rows.now c.numbers.left.items) (get_or c.args.numbers.now c.numbers.number-index 0) c.in-Some.at
turn c = is_next c.args.rows.now c.numbers.left.items c.in-Some.at (get_or c.args.numbers.now c.numbers.number-index 0) (rw c.as_slice.ensures.value at c.in-Some.ensures.found)

row_is : (c : After-get-row) → c.get-row.result.now ≡ row_at (rows_at c.args.rows.now c.numbers.left.items) c.in-Some.at
row_is c =
    let left = c.numbers.left.items in
    let there : c.in-Some.at < length left = omega (arith, (turn c).there, length-map left (row_at c.args.rows.now)) in
    c.get-row.ensures ∙ (ap (row_at c.args.rows.now) (c.index.ensures ∙ get_or_default left c.in-Some.at c.index.result.now 0 there) ∙ sym (row_there c.args.rows.now left c.in-Some.at there))

-- it needs too much
over : (c : Then-not-le) → ¬ (AreFinishing (amount c.args.free.now) c.args.rows.now c.args.numbers.now) × CheckTakes (amount c.args.free.now) c.args.rows.now c.args.numbers.now (c.numbers.tests + 1)
over c =
    let s = goal.at.returns-then-not-le-clause-exact c in
    followed_over (rw (so_far s.In-numbers) at c.numbers.invariant.followed) c.numbers.invariant.leaving.rising c.in-Some.at (turn s.After-get-row) (λ fits. absurd (
    let yes : IsTrue c.le.result = c.le.ensures.1 (subst (λ (r : Row). Fits r.need (amount c.numbers.free)) (sym (row_is s.After-get-row)) fits) in
    cc))

pub returns-then-not-le-clause-exact : goal.returns-then-not-le-clause-exact
returns-then-not-le-clause-exact c = (λ h. absurd cc, λ h. absurd ((over c).0 h))

pub returns-then-not-le-clause-tests : goal.returns-then-not-le-clause-tests
returns-then-not-le-clause-tests c = (over c).1

pub add-requires-clause-room : goal.add-requires-clause-room
add-requires-clause-room c =
    let s = (goal.at.add-requires-clause-room c).After-get-row in
    room_back c.numbers.invariant.leaving c.in-Some.at (turn s).there (row_is s)

pub numbers-preserved : goal.numbers-preserved
numbers-preserved c =
    let left = c.numbers.left.items in
    let at = c.in-Some.at in
    let old = c.numbers.invariant in
    let s = goal.at.numbers-preserved c in
    let t = turn s.After-get-row in
    let row = row_is s.After-get-row in
    let yes : IsTrue c.le.result = c.if-not-le.false in
    let more = followed_more (rw (so_far s.In-numbers) at old.followed) old.leaving.rising at t (subst (λ (r : Row). Fits r.need (amount c.numbers.free)) row (c.le.ensures.0 yes)) in
    let items = c.remove.ensures.items in
    record {
      leaving = leaving_others old.leaving at t.there row c.add.new.self c.remove.new.self.items c.requires.kinds c.add.ensures items;
      followed = rw (items, same_remove c.args.rows.now left at, given_back old.leaving at t.there row c.add.new.self c.requires.kinds c.add.ensures) more;
      count = rw items (let l = old.count in let e = length-remove left at (omega (arith, t.there, length-map left (row_at c.args.rows.now))) in omega arith);
      room = let r = old.room in let e = c.remove.ensures.capacity in omega arith;
    }

-- where no number is left
all : (c : After-is_empty-safe) → ((rows_at c.args.rows.now c.numbers.left.items ≡ []) ↔ AreFinishing (amount c.args.free.now) c.args.rows.now c.args.numbers.now)
    × CheckTakes (amount c.args.free.now) c.args.rows.now c.args.numbers.now c.numbers.tests
all c = followed_all (rw (drop_all c.numbers.number-index c.args.numbers.now (omega arith)) at c.numbers.invariant.followed)

pub returns-clause-exact : goal.returns-clause-exact
returns-clause-exact c =
    let left = c.numbers.left.items in (
      λ h. (all c).0.0 (ap (rows_at c.args.rows.now) (nil_from_length left (grind (arith, common_steps, nat_tests)))),
      λ h. (let n = ap length ((all c).0.1 h) in let m = length-map left (row_at c.args.rows.now) in grind (arith, common_steps, nat_tests)),
    )

pub returns-clause-tests : goal.returns-clause-tests
returns-clause-tests c = (all c).1
