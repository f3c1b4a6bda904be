-- What stands around a job in its file.
use Rattle.std.specs.Prelude.{ℕ, List, [], ◌∷◌, ◌++◌, codes}
use Rattle.std.specs.Int.{to_be_bytes, w32}
use Rattle.hex.specs.Hex.{encode_lower}
use Rattle.sha2.specs.Hashers.{Holds256}
use Rattle.job_disk.specs.declared.frame.FileDigest.{FileDigest}

-- the line before a job whose pages have this many octets
abbrev pub header : ℕ → List ℕ
header page_size = codes "hurgwaye 2 " ++ (encode_lower (to_be_bytes w32 page_size) ++ 10 ∷ [])

-- the line behind a job with this digest
abbrev pub trailer : List ℕ → List ℕ
trailer digest = codes "sealed " ++ (encode_lower digest ++ 10 ∷ [])

-- a digest has taken these octets so far
abbrev pub HasTaken : FileDigest → List ℕ → Type 0
HasTaken digest taken = Holds256 digest.hash taken
