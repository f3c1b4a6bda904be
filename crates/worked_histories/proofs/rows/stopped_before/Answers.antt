use Rattle.std.proofs.Common.{refl, lit≤, lit<}
use Rattle.worked_histories.proofs.rows.stopped_before.Goals as goal

pub returns : goal.returns
returns c = record {
  base = refl;
  stops = refl;
  started = refl;
  may_start = (refl, (lit≤ tt, lit≤ tt), 1, (lit≤ tt, lit≤ tt), (refl, refl));
  needs = refl;
  fits = (refl, (lit≤ tt, lit≤ tt), lit< tt, lit≤ tt, refl, lit< tt);
}
