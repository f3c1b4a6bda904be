use Rattle.std.proofs.Common.{sym}
use Rattle.job_hand.proofs.Knowing.{knows_whole}
use Rattle.job_hand.proofs.known.Known.is_whole.Goals as goal

pub returns-in-Some : goal.returns-in-Some
returns-in-Some c = λ job h. knows_whole c.args.self.now c.in-Some.prints c.args.self.now.names c.has_all.result job h (sym (c.if-is_some.ensures)) c.in-Some.is c.has_all.ensures
