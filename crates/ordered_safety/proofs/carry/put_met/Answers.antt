use Rattle.std.proofs.Common.{◌≡◌, ◌≤◌, ◌&&◌, ℕ, ◌∷◌, [], get_or, true, refl, arith, nat_cmp}
use Rattle.std.specs.Ordering.{ord_max}
use Rattle.std.proofs.lemmas.Bool.{and_parts}
use Rattle.std.proofs.lemmas.Grind.{common_steps}
use Rattle.std.proofs.lemmas.List.{nil_from_length, take_all}
use Rattle.std.proofs.lemmas.Slice.{pushed}
use Rattle.claims.specs.Claims.{row_at}
use Rattle.ordered_safety.proofs.Carries.{IsKept, no_kept, carried_none, carried_missed, carried_found, carried_room}
use Rattle.ordered_safety.proofs.carry.put_met.Goals as goal

max_left : (a b m : ℕ) → m ≡ ord_max nat_cmp a b → a ≤ m
max_left a b m e = grind (arith, common_steps)

max_right : (a b m : ℕ) → m ≡ ord_max nat_cmp a b → b ≤ m
max_right a b m e = grind (arith, common_steps)

pub loop-row-init : goal.loop-row-init
loop-row-init c = record {
  carrying = carried_none c.args.rows.now c.args.kept.now c.args.met.now.items c.args.places.now.items (nil_from_length c.args.places.now.items (let e = c.requires.empty in omega arith)) (let e = c.requires.met in omega arith) c.requires.none;
  met = omega arith;
  room = omega arith;
}

pub loop-row-preserved-in_default : goal.loop-row-preserved-in_default
loop-row-preserved-in_default c =
    let kept = get_or c.args.kept.now c.loop-row.row-index no_kept in
    let old = c.loop-row.invariant in
    record {
      carrying = carried_missed c.loop-row-test.true old.carrying (max_left c.loop-row.greatest kept.number c.max-greatest.result c.max-greatest.ensures) c.in_default.ensures.none;
      met = old.met;
      room = old.room;
    }

pub unwrap-requires : goal.unwrap-requires
unwrap-requires c =
    let room = carried_room c.loop-row-test.true c.loop-row.invariant.carrying c.requires.rising c.requires.lines c.in-Some.place c.in-Some.ensures.found in
    let cap = c.loop-row.invariant.room in
    let fits = c.requires.room in
    grind (arith, common_steps)

pub loop-row-preserved : goal.loop-row-preserved
loop-row-preserved c =
    let kept = get_or c.args.kept.now c.loop-row.row-index no_kept in
    let old = c.loop-row.invariant in
    let stands = c.in-Some.ensures.found in
    let items = pushed (c.in-Some.place ∷ []) refl c.unwrap.ensures c.push.ensures.items in
    let still : (c.loop-row.same && c.is_of_line-same.result) ≡ true → (c.loop-row.same ≡ true) × IsKept kept (row_at c.args.rows.now c.in-Some.place) = λ e.
    let yes = and_parts c.loop-row.same c.is_of_line-same.result e in
    let line = rw c.get.ensures at (c.is_of_line-same.ensures.0 yes.1) in
    (yes.0, record { number = stands.numbered; sender = line.0; queue = line.1 }) in
    record {
      carrying = rw items (carried_found c.loop-row-test.true old.carrying c.requires.rising c.requires.lines c.in-Some.place stands
          (max_left c.loop-row.greatest kept.number c.max-greatest.result c.max-greatest.ensures)
          (max_right c.loop-row.greatest kept.number c.max-greatest.result c.max-greatest.ensures) still);
      met = old.met;
      room = let e = c.push.ensures.capacity in let r = old.room in omega arith;
    }

pub returns-clause-once : goal.returns-clause-once
returns-clause-once c = λ others o. c.loop-row.invariant.carrying.once others (rw (← take_all c.loop-row.row-index c.args.kept.now c.loop-row-test.false) at o)
