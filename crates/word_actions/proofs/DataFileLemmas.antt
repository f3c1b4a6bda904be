-- Data files that are read one after another.
use Rattle.std.proofs.Common.{◌≡◌, ◌++◌, ℕ, List, [], ◌∷◌, Option, None, Some, append_assoc, subst, sym}
use Rattle.lpd_script.specs.Streams.{HasGivenAll}
use Rattle.lpr_client.specs.declared.file.DataFile.{DataFile}
use Rattle.word_actions.specs.DataFiles.{AreRead, IsAllOf}

-- whatever is read of the other paths, it is read of all paths with what was read already
abbrev pub Continues : (List ℕ → Option (List ℕ)) → (paths rest : List (List ℕ)) → List DataFile → Type 0
Continues contents paths rest read =
    (more : List DataFile) → AreRead contents rest more → AreRead contents paths (read ++ more)

-- what a reader gave is all of its file
pub all_of : (left now : Option (List ℕ)) (octets : List ℕ) → HasGivenAll left now octets → IsAllOf left octets
all_of None now octets given = tt
all_of (Some all) now octets given = sym given.0

-- the next file is read
pub one_more_read : (contents : List ℕ → Option (List ℕ)) (paths : List (List ℕ)) (path : List ℕ) (rest : List (List ℕ))
    (read : List DataFile) (file : DataFile) (left now : Option (List ℕ)) →
    Continues contents paths (path ∷ rest) read → left ≡ contents path → HasGivenAll left now file.octets →
    Continues contents paths rest (read ++ file ∷ [])
one_more_read contents paths path rest read file left now goes of given more others =
    let is = subst (λ (all : Option (List ℕ)). IsAllOf all file.octets) of (all_of left now file.octets given) in
    rw (append_assoc read (file ∷ []) more) (goes (file ∷ more) (is, others))
