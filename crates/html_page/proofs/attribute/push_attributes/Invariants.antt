use Rattle.std.proofs.Common.{◌≡◌, ◌++◌, take, string_bytes}
use Rattle.std.specs.List.{flat_map}
use Rattle.html_page.specs.Parts.{told_octets}
use Rattle.html_page.proofs.attribute.push_attributes.Given as goal

abbrev pub invariant-loop-attribute : goal.invariant-loop-attribute
invariant-loop-attribute l = string_bytes l.out ≡ string_bytes l.initial.out ++ flat_map told_octets (take l.attribute-index l.attributes)
