use Rattle.std.proofs.Common.{◌≡◌, ◌++◌, map, take}
use Rattle.lpr_client.specs.Parts.{AreCounted, data_parts}
use Rattle.lpr_client.specs.Shown.{part_octets}
use Rattle.lpr_client.proofs.part.put_data_files.Given as goal

abbrev pub invariant-loop-file : goal.invariant-loop-file
invariant-loop-file l = record {
  parts : map part_octets l.parts.items ≡ map part_octets l.initial.parts.items ++ data_parts (take l.file-index l.files);
  counted : AreCounted (take l.file-index l.files);
}
