use Rattle.std.proofs.Common.{◌≤◌, length}
use Rattle.lpd_script.proofs.LineCuts.{Parted}
use Rattle.lpd_script.proofs.run.parts.Given as goal

abbrev pub invariant-loop-line : goal.invariant-loop-line
invariant-loop-line l = record {
  room : length l.rest ≤ length l.text;
  parted : Parted l.text l.rest;
}

abbrev pub decreases-loop-line : goal.decreases-loop-line
decreases-loop-line l = length l.rest
