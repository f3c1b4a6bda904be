use Rattle.std.proofs.Common.{◌∷◌, [], refl, ap, arith}
use Rattle.std.proofs.lemmas.Bool.Decides.{nat_tests}
use Rattle.std.proofs.lemmas.Grind.{common_steps}
use Rattle.std.proofs.lemmas.Slice.{pushed}
use Rattle.claims.specs.declared.row.Row.{Row}
use Rattle.ordered_safety.proofs.Carries.{adding_none, adding_marked, adding_found}
use Rattle.ordered_safety.proofs.carry.put_others.Goals as goal

pub loop-place-init : goal.loop-place-init
loop-place-init c = record {
  adding = adding_none c.args.rows.now c.args.met.now c.args.places.now.items c.args.greatest c.requires.there;
  room = omega arith;
}

pub loop-place-preserved-then-met-place : goal.loop-place-preserved-then-met-place
loop-place-preserved-then-met-place c =
    let old = c.loop-place.invariant in
    let lt = c.loop-place-test.true in
    record {
      adding = adding_marked (let l = c.len-place-end.ensures in omega arith) c.requires.met old.adding c.if-met-place.true;
      room = old.room;
    }

pub loop-place-preserved : goal.loop-place-preserved
loop-place-preserved c =
    let old = c.loop-place.invariant in
    let items = pushed (c.loop-place.place ∷ []) refl c.unwrap.ensures c.push.ensures.items in
    let lt = c.loop-place-test.true in
    let n = ap (λ (r : Row). r.number) c.get.ensures in
    record {
      adding = rw items (adding_found (let l = c.len-place-end.ensures in omega arith) c.requires.met old.adding c.if-met-place.false (λ e. (grind (arith, common_steps, nat_tests), grind (arith, common_steps, nat_tests))));
      room = let e = c.push.ensures.capacity in let r = old.room in omega arith;
    }
