use Rattle.lpd_commands.proofs.CommandLaws.{command_is_exact}
use Rattle.lpd_commands.proofs.laws.command_is_exact.Goals as goal

pub returns : goal.returns
returns c = command_is_exact c.args._line.now
