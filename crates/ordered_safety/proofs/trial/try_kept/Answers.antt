use Rattle.std.proofs.Common.{◌≡◌, List, length, subst, ap, ◌∙◌, ℕ, arith}
use Rattle.counts.specs.Amounts.{amount}
use Rattle.claims.specs.Safety.{AreFinishing}
use Rattle.ordered_safety.specs.Scan.{rows_at}
use Rattle.ordered_safety.specs.Carried.{numbers_of}
use Rattle.ordered_safety.proofs.Walks.{finishing_is, as_many}
use Rattle.ordered_safety.proofs.trial.try_kept.Goals as goal

pub returns-then-carry-clause-order : goal.returns-then-carry-clause-order
returns-then-carry-clause-order c = λ yes.
    let rows = c.args.rows.now in
    finishing_is (amount c.args.work.now.free) rows (rows_at rows c.carry.new.places.items) c.requires.rising c.carry.ensures.once
    (subst (λ (l : List ℕ). AreFinishing (amount c.args.work.now.free) rows (numbers_of (rows_at rows l))) c.as_slice.ensures.value (c.walk.ensures.exact.0 yes))

pub put_numbers-requires-clause-room : goal.put_numbers-requires-clause-room
put_numbers-requires-clause-room c =
    let rows = c.args.rows.now in
    let places = c.carry.new.places.items in
    let long = as_many rows places c.carry.ensures.once in
    let same = ap length c.as_slice-2.ensures.value in
    let room = c.requires.numbers in
    omega arith

pub returns-clause-order : goal.returns-clause-order
returns-clause-order c = λ yes.
    let rows = c.args.rows.now in
    let numbers : c.as_slice-numbers.result.now ≡ numbers_of (rows_at rows c.carry.new.places.items) =
    c.as_slice-numbers.ensures.value ∙ (c.put_numbers.ensures.numbers ∙ ap (λ (l : List ℕ). numbers_of (rows_at rows l)) c.as_slice-2.ensures.value) in
    finishing_is (amount c.args.work.now.free) rows (rows_at rows c.carry.new.places.items) c.requires.rising c.carry.ensures.once
    (subst (AreFinishing (amount c.args.work.now.free) rows) numbers (c.follow.ensures.exact.0 yes))
