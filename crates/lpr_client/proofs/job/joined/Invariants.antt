use Rattle.std.proofs.Common.{◌≡◌, map, take}
use Rattle.std.specs.List.{concat}
use Rattle.lpr_client.specs.Shown.{part_octets}
use Rattle.lpr_client.proofs.job.joined.Given as goal

abbrev pub invariant-loop-part : goal.invariant-loop-part
invariant-loop-part l = l.octets.items ≡ concat (take l.part-index (map part_octets l.parts))
