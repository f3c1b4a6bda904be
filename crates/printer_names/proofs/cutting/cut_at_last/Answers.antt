use Rattle.printer_names.proofs.NameLemmas.{cut_nowhere, cut_there}
use Rattle.printer_names.proofs.cutting.cut_at_last.Goals as goal

pub returns-in_err-before : goal.returns-in_err-before
returns-in_err-before c =
    rw c.from_residual.ensures (
    cut_nowhere c.args.octets.now c.split_at.result.0.now c.split_at.result.1.now c.last_point.result c.split_at.ensures.front c.split_at.ensures.back
    c.last_point.ensures.last c.in_err-before.ensures
    )

pub returns : goal.returns
returns c =
    cut_there c.args.octets.now c.split_at.result.0.now c.split_at.result.1.now c.in_ok-before.before.now c.last_point.result c.split_at.ensures.front
    c.split_at.ensures.back c.last_point.ensures.last c.in_ok-before.ensures
