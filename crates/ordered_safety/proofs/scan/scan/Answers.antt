use Rattle.std.proofs.Common.{◌≡◌, ℕ, ◌+◌, ◌*◌, ◌<◌, ◌≤◌, List, [], ◌∷◌, ◌++◌, length, get_or, refl, subst, subst₂, ap, sym, ◌∙◌, zero-add, arith}
use Rattle.std.specs.Prelude.{remove}
use Rattle.std.proofs.lemmas.Grind.{common_steps}
use Rattle.std.proofs.lemmas.Bool.Decides.{nat_tests}
use Rattle.std.proofs.lemmas.List.{get_or_default, length-map, length_push, map_push, nil_from_length}
use Rattle.std.proofs.lemmas.List.Elements.{All-nil, All-push, All-get_or}
use Rattle.std.proofs.lemmas.List.Edits.{length-remove}
use Rattle.std.proofs.lemmas.Slice.{pushed}
use Rattle.counts.specs.Amounts.{amount}
use Rattle.claims.specs.declared.row.Row.{Row}
use Rattle.claims.specs.Claims.{row_at}
use Rattle.claims.specs.Safety.{HasFinishingOrder, IsFinishingOrder}
use Rattle.ordered_safety.specs.Scan.{rows_at, CountsAhead}
use Rattle.ordered_safety.specs.Compared.{ScanTakes, GoesNext, compared}
use Rattle.ordered_safety.proofs.Picks.{row_there, same_remove, can_go, may_go_at}
use Rattle.ordered_safety.proofs.Turns.{Scanned, leaving_all, all_rows, leaving_others, given_back, room_back, scanned_more, scanned_stuck, scanned_all}
use Rattle.ordered_safety.proofs.scan.scan.Goals as goal
use Rattle.ordered_safety.proofs.scan.scan.Goals.{In-Some, In_default, After-get, After-turns}

pub turns-init : goal.turns-init
turns-init c =
    let rows = c.args.rows.now in
    let left = c.fill.new.left.items in
    let free = amount c.args.work.now.free in
    let n : length left ≡ length rows = c.fill.ensures.len ∙ c.len.ensures in
    let each = λ (j : ℕ) (lt : j < length rows). c.fill.ensures.each j (let e = c.len.ensures in omega arith) in
    let empty = c.clear.ensures.items in
    let none : length c.clear.new.self.items ≡ 0 = ap length empty in
    record {
      leaving = leaving_all rows left n each c.args.work.now.free c.requires.rising c.requires.small;
      scanned = subst₂ (λ (r gone : List Row). Scanned free rows free r gone 0) (sym (all_rows rows left n each)) (sym (ap (rows_at rows) empty))
          (record { only = λ order h. h; still = λ h. h; taken = λ n m e h. subst (ScanTakes free rows) (sym (zero-add n) ∙ e) h });
      gone = rw empty (All-nil (λ j. j < length rows));
      counts = subst (λ (l : List ℕ). CountsAhead (rows_at rows l) c.count_ahead.new.ahead.items) c.as_slice.ensures.value c.count_ahead.ensures.counts;
      most = rw n (omega arith);
      least = omega arith;
      all = omega arith;
      met = omega arith;
      numbers = omega arith;
      left = c.fill.ensures.room;
      ahead = c.count_ahead.ensures.room;
      room = let e = c.clear.ensures.capacity in omega arith;
    }

-- none may go
stuck : (c : In_default) → ¬ (HasFinishingOrder (amount c.args.work.now.free) c.args.rows.now) × ScanTakes (amount c.args.work.now.free) c.args.rows.now (c.turns.tests + c.pick-choice.result.1)
stuck c =
    let left = c.turns.work.left.items in
    let n = length-map left (row_at c.args.rows.now) in
    let none = rw (c.in_default.is, c.as_slice-left.ensures.value) at c.pick-choice.ensures.none in
    let all : c.pick-choice.result.1 ≡ compared (rows_at c.args.rows.now left) (length left) = rw (c.in_default.is, c.as_slice-left.ensures.value) at c.pick-choice.ensures.all in
    scanned_stuck c.turns.invariant.scanned c.pick-choice.result.1 (grind (arith, common_steps, nat_tests)) c.turns.invariant.leaving.rising
    (λ at g. none at (may_go_at c.args.rows.now left at c.turns.work.free g)) (all ∙ ap (compared (rows_at c.args.rows.now left)) (sym n))

pub returns-in_default-clause-exact : goal.returns-in_default-clause-exact
returns-in_default-clause-exact c = (λ h. absurd cc, λ h. absurd ((stuck c).0 h))

pub returns-in_default-clause-tests : goal.returns-in_default-clause-tests
returns-in_default-clause-tests c = (stuck c).1

-- the row that was picked goes next, and it is the one that is read
goes_next : (c : In-Some) → GoesNext (amount c.turns.work.free) (rows_at c.args.rows.now c.turns.work.left.items) c.in-Some.at
goes_next c =
    let rows = c.args.rows.now in
    let left = c.turns.work.left.items in
    let found = rw (c.in-Some.is, c.as_slice-left.ensures.value) at c.pick-choice.ensures.found in
    let first = rw (c.in-Some.is, c.as_slice-left.ensures.value) at c.pick-choice.ensures.first in
    (can_go rows left c.in-Some.at c.turns.work.free found, λ k lt g. first k lt (may_go_at rows left k c.turns.work.free g))

there : (c : In-Some) → c.in-Some.at < length c.turns.work.left.items
there c = omega (arith, (goes_next c).0.there, length-map c.turns.work.left.items (row_at c.args.rows.now))

row_is : (c : After-get) → c.get.result.now ≡ row_at (rows_at c.args.rows.now c.turns.work.left.items) c.in-Some.at
row_is c =
    let left = c.turns.work.left.items in
    let there = there (goal.at.add-requires-clause-room c).In-Some in
    c.get.ensures
    ∙ (ap (row_at c.args.rows.now) (c.remove-place.ensures.value ∙ get_or_default left c.in-Some.at c.remove-place.result 0 there)
    ∙ sym (row_there c.args.rows.now left c.in-Some.at there))

pub add-requires-clause-room : goal.add-requires-clause-room
add-requires-clause-room c = room_back c.turns.invariant.leaving c.in-Some.at (goes_next (goal.at.add-requires-clause-room c).In-Some).0.there (row_is c)

-- a turn compares at most as often as rows are left
few_tests : (t u m n k : ℕ) → u ≤ m → 2 * t + m * (m + 1) ≤ k → n + 1 ≡ m → 2 * (t + u) + n * (n + 1) ≤ k
few_tests t u m n k = grind arith

pub turns-preserved : goal.turns-preserved
turns-preserved c =
    let rows = c.args.rows.now in
    let left = c.turns.work.left.items in
    let places = c.turns.work.places.items in
    let at = c.in-Some.at in
    let old = c.turns.invariant in
    let s = goal.at.turns-preserved c in
    let next = goes_next s.In-Some in
    let there = there s.In-Some in
    let row = row_is s.After-get in
    let slice = c.as_slice-left.ensures.value in
    let items = c.remove-place.ensures.items in
    let others = ap (rows_at rows) items ∙ same_remove rows left at in
    let len = length-remove left at there in
    let place : c.remove-place.result ≡ get_or left at 0 = c.remove-place.ensures.value ∙ get_or_default left at c.remove-place.result 0 there in
    let pushed : c.push.new.self.items ≡ places ++ get_or left at 0 ∷ [] = rw place at (pushed (c.remove-place.result ∷ []) refl c.unwrap.ensures c.push.ensures.items) in
    let longer : length c.push.new.self.items ≡ length places + 1 = ap length pushed ∙ length_push places (get_or left at 0) in
    let gone = ap (rows_at rows) pushed ∙ (map_push (row_at rows) places (get_or left at 0) ∙ ap (λ (r : Row). rows_at rows places ++ r ∷ []) (sym (row_there rows left at there))) in
    let tested : c.pick-choice.result.1 ≤ length left = rw slice at c.pick-choice.ensures.most in
    let some : 0 < c.pick-choice.result.1 = c.pick-choice.ensures.least (rw slice (omega arith)) in
    let turn : c.pick-choice.result.1 ≡ compared (rows_at rows left) (at + 1) = rw (c.in-Some.is, slice) at c.pick-choice.ensures.tests in
    record {
      leaving = leaving_others old.leaving at next.0.there row c.add.new.self c.remove-place.new.self.items c.requires.kinds c.add.ensures items;
      scanned = rw (others, gone, given_back old.leaving at next.0.there row c.add.new.self c.requires.kinds c.add.ensures)
          (scanned_more old.scanned at c.pick-choice.result.1 old.leaving.rising next turn);
      gone = rw pushed (All-push (λ j. j < length rows) places (get_or left at 0) old.gone (All-get_or (λ j. j < length rows) left at 0 there old.leaving.there));
      counts = rw (others, ← c.as_slice-left.ensures.value) c.count_less.ensures.counts;
      most = rw items (few_tests c.turns.tests c.pick-choice.result.1 (length left) (length (remove left at)) (length rows * (length rows + 1)) tested old.most len);
      least = let l = old.least in omega arith;
      all = rw items (let l = old.all in omega arith);
      met = old.met;
      numbers = old.numbers;
      left = let r = old.left in let e = c.remove-place.ensures.capacity in omega arith;
      ahead = let r = old.ahead in let e = c.count_less.ensures.room in omega arith;
      room = let r = old.room in let e = c.push.ensures.capacity in omega arith;
    }

-- all have gone
all : (c : After-turns) → IsFinishingOrder (amount c.args.work.now.free) c.args.rows.now (rows_at c.args.rows.now c.turns.work.places.items) × ScanTakes (amount c.args.work.now.free) c.args.rows.now c.turns.tests
all c = scanned_all c.turns.invariant.scanned (ap (rows_at c.args.rows.now) (nil_from_length c.turns.work.left.items (grind (arith, common_steps, nat_tests))))

pub returns-clause-order : goal.returns-clause-order
returns-clause-order c = λ h. (all c).0

pub returns-clause-tests : goal.returns-clause-tests
returns-clause-tests c = (all c).1

pub returns-clause-exact : goal.returns-clause-exact
returns-clause-exact c = (λ h. (rows_at c.args.rows.now c.turns.work.places.items, (all c).0), λ h. refl)
