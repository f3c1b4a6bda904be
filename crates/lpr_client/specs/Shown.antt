-- What the code's parts stand for.
use Rattle.std.specs.Prelude.{ℕ, List}
use Rattle.lpr_client.specs.Parts.{zeroed}
use Rattle.lpr_client.specs.declared.part.Part.{Part}
use Rattle.lpr_client.specs.declared.part.Part.TheVariants.{Line, Contents, Text}

-- the octets of a part
abbrev pub part_octets : Part → List ℕ
part_octets (Line line) = line
part_octets (Contents contents) = zeroed contents.now
part_octets (Text text) = zeroed text
