use Rattle.std.proofs.Common.{arith, rules}
use Rattle.std.proofs.lemmas.Bool.Decides.{nat_tests}
use Rattle.printer_sinks.proofs.ConnectionLemmas.{first_more}
use Rattle.printer_sinks.proofs.socket.send_first.Goals as goal

pub returns-else-count-octets-clause-adds : goal.returns-else-count-octets-clause-adds
returns-else-count-octets-clause-adds g c = record {
  size = search rules;
  connections = first_more c.args.job c.args.octets.now c.begin-first.result c.go_on.result _ _ _ (omega arith) (omega arith) c.begin-first.ensures.connections c.go_on.ensures.connections;
  stage = grind (arith, nat_tests);
}
