use Rattle.std.proofs.Common.{◌≤◌, refl, arith, lit≤, lit<}
use Rattle.worked_histories.proofs.rows.filled_account.Goals as goal

pub returns : goal.returns
returns c = record {
  needs = refl;
  fits = (refl, (lit≤ tt, lit≤ tt), lit< tt, lit≤ tt, refl, lit< tt);
  is_full = λ h. let e : 1425 ≤ 1424 = h.3 in omega arith;
}
