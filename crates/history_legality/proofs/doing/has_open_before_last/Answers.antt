use Rattle.std.proofs.Common.{◌∙◌}
use Rattle.history_legality.proofs.DoingLaws.{open_before}
use Rattle.history_legality.proofs.doing.has_open_before_last.Goals as goal

pub returns-in-Some : goal.returns-in-Some
returns-in-Some c = c.is_open_in.ensures ∙ open_before c.args.files.now c.in-Some.before.now c.in-Some.field-0-0.now (cc (c.in-Some.ensures.cases.0))
