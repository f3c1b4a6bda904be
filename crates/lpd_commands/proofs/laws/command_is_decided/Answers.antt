use Rattle.lpd_commands.proofs.CommandLaws.{command_is_decided}
use Rattle.lpd_commands.proofs.laws.command_is_decided.Goals as goal

pub returns : goal.returns
returns c = command_is_decided c.args._line.now
