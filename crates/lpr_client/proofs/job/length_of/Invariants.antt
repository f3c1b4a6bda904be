use Rattle.std.proofs.Common.{◌≡◌, ◌-◌, ◌^◌, length, map, min, take}
use Rattle.std.specs.List.{concat}
use Rattle.lpr_client.specs.Shown.{part_octets}
use Rattle.lpr_client.proofs.job.length_of.Given as goal

abbrev pub invariant-loop-part : goal.invariant-loop-part
invariant-loop-part l = l.length ≡ min (length (concat (take l.part-index (map part_octets l.parts)))) (2 ^ 64 - 1)
