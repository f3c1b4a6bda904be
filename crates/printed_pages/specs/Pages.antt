-- What it is for octets to be a page.
use Rattle.std.specs.Prelude.{◌≡◌, ◌+◌, ℕ, List, if◌then◌else◌, length, nat_lt}
use Rattle.sha2.specs.Sha256.{sha256}
use Rattle.account.specs.declared.entry.Outline.{Outline}

-- they are as many, and have its digest
abbrev pub Matches : List ℕ → Outline → Type 0
Matches octets page = (length octets ≡ page.length) × (sha256 octets ≡ page.digest)

-- where octets that were read from here on differ from a page: where they end, if they end inside it, and else where it begins
abbrev pub DiffersAt : (at : ℕ) → List ℕ → Outline → ℕ → Type 0
DiffersAt at octets page octet = octet ≡ (if nat_lt (length octets) page.length then at + length octets else at)
