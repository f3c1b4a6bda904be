use Rattle.std.proofs.Common.{map, take}
use Rattle.program_edge.specs.Networks.{NameNetworks}
use Rattle.program_words.proofs.serving.networks_of.Given as goal

abbrev pub invariant-loop-text : goal.invariant-loop-text
invariant-loop-text l = NameNetworks (take l.text-index (map (λ text. text.now) l.texts)) l.networks.items
