use Rattle.lpd_commands.proofs.WriteLemmas.{command_is_read_back}
use Rattle.lpd_commands.proofs.laws.command_is_read_back.Goals as goal

pub returns : goal.returns
returns c = command_is_read_back c.args._command.now
