-- What a history says of a page: its octets, or their length and digest alone.
use Rattle.std.specs.Prelude.{ℕ, List, length}
use Rattle.sha2.specs.Sha256.{sha256}
use Rattle.account.specs.declared.entry.Outline.{Outline}

pub data Detail : Type 0 where
  Octets : Detail
  Outlines : Detail

-- what stands for a page
abbrev pub What : Detail → Type 0
What Octets = List ℕ
What Outlines = Outline

abbrev pub outline_of : List ℕ → Outline
outline_of octets = record { length = length octets; digest = sha256 octets }

-- what is said of a page with these octets
abbrev pub see : (d : Detail) → List ℕ → What d
see Octets octets = octets
see Outlines octets = outline_of octets

-- the length and the digest of a page
abbrev pub outline_in : (d : Detail) → What d → Outline
outline_in Octets octets = outline_of octets
outline_in Outlines outline = outline

-- the octets of a page
abbrev pub size : (d : Detail) → What d → ℕ
size d page = (outline_in d page).length
