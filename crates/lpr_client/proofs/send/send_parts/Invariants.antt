use Rattle.std.proofs.Common.{◌≡◌, map, take, replicate}
use Rattle.std.specs.List.{concat}
use Rattle.lpd_commands.specs.Ends.{Took, Writes, many_more}
use Rattle.lpr_client.specs.Shown.{part_octets}
use Rattle.lpr_client.proofs.send.send_parts.Given as goal

abbrev pub invariant-loop-part : goal.invariant-loop-part
invariant-loop-part g l = record {
  wrote : Writes (g.W.OctetWrite.written l.fn.writer) (g.W.OctetWrite.written l.writer) (concat (take l.part-index (map part_octets l.parts)));
  took : Took (g.R.OctetRead.left l.fn.reader) (g.R.OctetRead.left l.reader) (replicate l.part-index 0);
  reader_faults : g.R.OctetRead.faults l.reader ≡ g.R.OctetRead.faults l.fn.reader;
  writer_faults : g.W.OctetWrite.faults l.writer ≡ g.W.OctetWrite.faults l.fn.writer;
  reads : g.R.OctetRead.reads l.reader ≡ many_more l.part-index (g.R.OctetRead.reads l.fn.reader);
}
