-- Which octets the data files of a job have.
use Rattle.std.specs.Prelude.{◌≡◌, ℕ, List, [], ◌∷◌, Option, None, Some}
use Rattle.lpr_client.specs.declared.file.DataFile.{DataFile}

-- these octets are all that a file has, as far as it tells them
abbrev pub IsAllOf : Option (List ℕ) → List ℕ → Type 0
IsAllOf None octets = Unit {0}
IsAllOf (Some all) octets = octets ≡ all

-- each data file has all octets of the file at its path, where these are the contents of files by their paths
abbrev pub AreRead : (contents : List ℕ → Option (List ℕ)) → (paths : List (List ℕ)) → List DataFile → Type 0
AreRead contents paths [] = Unit {0}
AreRead contents [] (file ∷ files) = ⊥
AreRead contents (path ∷ paths) (file ∷ files) =
    IsAllOf (contents path) file.octets × AreRead contents paths files
