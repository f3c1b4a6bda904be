use Rattle.control_lines.proofs.LineLemmas.{no_verb, no_verb_alone}
use Rattle.control_lines.proofs.command.ControlCommand.parse.Goals as goal

pub returns-in-None : goal.returns-in-None
returns-in-None c = no_verb_alone c.args.line.now c.in_default.ensures c.in-None.ensures

pub returns-in_default-read : goal.returns-in_default-read
returns-in_default-read c =
    no_verb c.args.line.now c.in-Some.word.now c.in-Some.operand.now c.in-Some.ensures c.in_default-read.ensures
