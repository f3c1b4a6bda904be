use Rattle.std.proofs.Common.{◌≡◌, ◌≤◌, length}
use Rattle.lpd_commands.specs.Ends.{many_more, most_reads}
use Rattle.lpd_script.specs.Streams.{HasGiven}
use Rattle.lpd_script.proofs.run.read_all.Given as goal

abbrev pub invariant-loop : goal.invariant-loop
invariant-loop g l = record {
  given : HasGiven (g.R.OctetRead.left l.fn.input) (g.R.OctetRead.left l.input) l.all.items;
  faults : g.R.OctetRead.faults l.input ≡ g.R.OctetRead.faults l.fn.input;
  room : length l.piece ≡ 4096;
  reads : g.R.OctetRead.reads l.input ≡ many_more l.counter (g.R.OctetRead.reads l.fn.input);
  within : l.counter ≤ most_reads;
  many : l.counter ≤ length l.all.items;
}
