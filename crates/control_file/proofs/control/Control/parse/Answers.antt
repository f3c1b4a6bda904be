use Rattle.std.proofs.Common.{◌∙◌, sym, arith}
use Rattle.control_file.proofs.ControlLaws.{fit_layout}
use Rattle.control_file.proofs.control.Control.parse.Goals as goal

pub returns-clause-layout : goal.returns-clause-layout
returns-clause-layout c =
    fit_layout c.args.name.now c.args.text.now c.number.result _ c.number.ensures.value (sym c.is_empty.ensures ∙ c.if-is_empty.false) (omega arith) c.parse_lines.ensures
