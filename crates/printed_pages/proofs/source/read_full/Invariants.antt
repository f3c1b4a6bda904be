use Rattle.std.proofs.Common.{◌≡◌, length, ◌-◌, ◌≤◌, take}
use Rattle.lpd_commands.specs.Ends.{Took}
use Rattle.printed_pages.proofs.source.read_full.Given as goal

abbrev pub invariant-loop-count : goal.invariant-loop-count
invariant-loop-count g l = record {
  within : l.count ≤ length l.buffer;
  took : Took (g.P.PrintedOctets.rest l.fn.source) (g.P.PrintedOctets.rest l.source) (take l.count l.buffer);
  octets : g.P.PrintedOctets.octets l.source ≡ g.P.PrintedOctets.octets l.fn.source;
}

abbrev pub decreases-loop-count : goal.decreases-loop-count
decreases-loop-count g l = length l.buffer - l.count
