use Rattle.std.proofs.Common.{refl}
use Rattle.std.specs.Fmt.{digits}
use Rattle.worked_histories.proofs.rows.texts.Goals as goal

pub returns : goal.returns
unfolding digits
returns c = record {
  short = refl;
  long = refl;
  by_number = refl;
  with_zeros = refl;
  other_number = refl;
  other_user = refl;
  after_close = refl;
  not_his = refl;
  by_root = refl;
  by_user = refl;
  none_active = refl;
}
