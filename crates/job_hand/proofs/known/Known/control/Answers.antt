use Rattle.std.proofs.Common.{Some, ap, refl, sym}
use Rattle.control_file.specs.View.{contents}
use Rattle.job_hand.proofs.Knowing.{knows_control}
use Rattle.job_hand.proofs.known.Known.control.Goals as goal

pub returns-clause-knows : goal.returns-clause-knows
returns-clause-knows c = λ fit job h. knows_control c.args.self.now _ (contents c.args.control.now) job h fit (sym (c.if-is_some.ensures)) refl (ap Some c.in_ok-copy.ensures) refl
