use Rattle.std.proofs.Common.{rules}
use Rattle.lpd_commands.proofs.Writing.{Writes-more}
use Rattle.lpd_commands.proofs.ends.write_all.Goals as goal

pub loop-done-preserved : goal.loop-done-preserved
loop-done-preserved g c = record {
  within = search rules;
  written = Writes-more _ _ _ c.args.octets.now c.loop-done.done _ c.loop-done.invariant.written c.in_ok-done.ensures.octets;
  faults = search rules;
}
