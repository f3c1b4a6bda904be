use Rattle.std.proofs.Common.{refl}
use Rattle.job_hand.proofs.Knowing.{knows_end}
use Rattle.job_hand.proofs.known.Known.end_file.Goals as goal

pub returns-clause-knows : goal.returns-clause-knows
returns-clause-knows c = λ job h. knows_end c.args.self.now _ c.in-Some.part job h c.in-Some.is c.if-part-ne0.false c.in_ok-push.ensures.ok refl refl
