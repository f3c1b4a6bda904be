use Rattle.std.proofs.Common.{◌+◌, ◌-◌, ◌/◌, ap, arith}
use Rattle.claims.specs.declared.row.Row.{Row}
use Rattle.ordered_safety.proofs.OneNumber.{low_upto}
use Rattle.ordered_safety.proofs.carry.find.Goals as goal

pub halves-preserved-then-found-number-2 : goal.halves-preserved-then-found-number-2
halves-preserved-then-found-number-2 c =
    let here = ap (λ (r : Row). r.number) c.get-in-halves.ensures in
    let old = c.halves.invariant in
    record {
      within = old.within;
      lower = λ j below there. (let l = low_upto c.args.rows.now j (c.halves.low + (c.halves.high - c.halves.low) / 2) (omega arith) (omega arith) c.requires in omega arith);
      higher = old.higher;
    }

pub halves-preserved : goal.halves-preserved
halves-preserved c =
    let here = ap (λ (r : Row). r.number) c.get-in-halves.ensures in
    let old = c.halves.invariant in
    record {
      within = omega arith;
      lower = old.lower;
      higher = λ j above there. (
          let l = low_upto c.args.rows.now (c.halves.low + (c.halves.high - c.halves.low) / 2) j (omega arith) there c.requires in
          let differ = c.if-found-number.false in
          omega arith);
    }
