use Rattle.std.proofs.Common.{rules}
use Rattle.printer_sinks.proofs.ConnectionLemmas.{longer_more}
use Rattle.printer_sinks.proofs.socket.write_on.Goals as goal

pub loop-done-preserved : goal.loop-done-preserved
loop-done-preserved g c = record {
  within = search rules;
  connections = longer_more _ _ _ c.args.octets.now c.loop-done.done c.in-Ok.count c.loop-done.invariant.connections c.in-Ok.ensures.ok;
}
