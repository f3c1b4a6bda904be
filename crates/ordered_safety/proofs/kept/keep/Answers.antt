use Rattle.std.proofs.Common.{◌≡◌, length, map, ap, ◌∙◌, arith}
use Rattle.std.proofs.lemmas.Grind.{common_steps}
use Rattle.std.proofs.lemmas.List.{take_all}
use Rattle.ordered_safety.specs.Kept.{kept_numbers}
use Rattle.ordered_safety.proofs.Keeps.{kept_at, kept_numbers_are, lines_kept}
use Rattle.ordered_safety.proofs.Walks.{as_many}
use Rattle.ordered_safety.proofs.kept.keep.Goals as goal
use Rattle.ordered_safety.proofs.kept.keep.Goals.{After-loop-place}

pub unwrap-requires : goal.unwrap-requires
unwrap-requires c =
    let rows = c.args.rows.now in
    let places = c.args.places.now in
    let long = as_many rows places c.requires.once in
    let room = c.loop-place.invariant.room in
    let len = ap length c.loop-place.invariant.kept in
    grind (arith, common_steps)

-- all places are passed
kept : (c : After-loop-place) → c.loop-place.kept.items ≡ map (kept_at c.args.rows.now) c.args.places.now
kept c = c.loop-place.invariant.kept ∙ ap (map (kept_at c.args.rows.now)) (take_all c.loop-place.place-index c.args.places.now c.loop-place-test.false)

pub returns-clause-numbers : goal.returns-clause-numbers
returns-clause-numbers c = ap kept_numbers (kept c) ∙ kept_numbers_are c.args.rows.now c.args.places.now

pub returns-clause-lines : goal.returns-clause-lines
returns-clause-lines c = rw (kept c) (lines_kept c.args.rows.now c.args.places.now c.requires.rising c.requires.once c.requires.line)
