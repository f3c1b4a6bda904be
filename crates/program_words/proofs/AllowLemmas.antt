-- Networks, named by texts that are read one after another.
use Rattle.std.proofs.Common.{◌<◌, ◌++◌, ◌∷◌, ℕ, Bor, List, [], arith, get_or, length, map, suc, take, zero}
use Rattle.program_edge.specs.Networks.{IsNetworkText, NameNetworks}
use Rattle.program_edge.specs.declared.networks.Network.{Network}

abbrev pub texts : List (Bor (List ℕ)) → List (List ℕ)
texts words = map (λ (word : Bor (List ℕ)). word.now) words

-- one more text was read, and names one more network
pub one_more_named : (words : List (Bor (List ℕ))) (i : ℕ) (other : Bor (List ℕ)) (networks : List Network) (network : Network) → i < length words → NameNetworks (take i (texts words)) networks → IsNetworkText (get_or words i other).now network → NameNetworks (take (suc i) (texts words)) (networks ++ network ∷ [])
one_more_named [] i other networks network few all one = absurd (omega arith)
one_more_named (w ∷ ws) zero other [] network few all one = (one, tt)
one_more_named (w ∷ ws) zero other (n ∷ ns) network few all one = absurd all
one_more_named (w ∷ ws) (suc i) other [] network few all one = absurd all
one_more_named (w ∷ ws) (suc i) other (n ∷ ns) network few all one = (all.0, one_more_named ws i other ns network (omega arith) all.1 one)

-- one text names no network, so all of them don't name networks
pub one_names_none : (words : List (Bor (List ℕ))) (i : ℕ) (other : Bor (List ℕ)) → i < length words → ((network : Network) → IsNetworkText (get_or words i other).now network → ⊥) → (networks : List Network) → NameNetworks (texts words) networks → ⊥
one_names_none [] i other few none networks all = absurd (omega arith)
one_names_none (w ∷ ws) zero other few none [] all = all
one_names_none (w ∷ ws) zero other few none (n ∷ ns) all = none n all.0
one_names_none (w ∷ ws) (suc i) other few none [] all = all
one_names_none (w ∷ ws) (suc i) other few none (n ∷ ns) all = one_names_none ws i other (omega arith) none ns all.1
