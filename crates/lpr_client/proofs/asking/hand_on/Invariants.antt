use Rattle.std.proofs.Common.{◌≡◌, ◌≤◌, length}
use Rattle.lpd_commands.specs.Ends.{most_reads}
use Rattle.lpr_client.proofs.AskLemmas.{Hands}
use Rattle.lpr_client.proofs.asking.hand_on.Given as goal

abbrev pub invariant-loop : goal.invariant-loop
invariant-loop g l = record {
  hands : Hands l.head l.counter (g.R.OctetRead.left l.fn.reader) (g.R.OctetRead.left l.reader)
      (g.O.OctetWrite.written l.fn.output) (g.O.OctetWrite.written l.output);
  reader_faults : g.R.OctetRead.faults l.reader ≡ g.R.OctetRead.faults l.fn.reader;
  output_faults : g.O.OctetWrite.faults l.output ≡ g.O.OctetWrite.faults l.fn.output;
  room : length l.piece ≡ 4096;
  within : l.counter ≤ most_reads;
}
