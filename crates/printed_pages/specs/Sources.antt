-- What is read again of what a printer printed to, where a contract can name its octets.
use Rattle.std.specs.Prelude.{◌≡◌, ◌≤◌, ◌+◌, ℕ, List, [], ◌∷◌, Option, Some, None, length, take, drop}
use Rattle.account.specs.declared.entry.Outline.{Outline}
use Rattle.account.specs.declared.entry.Sheet.{Sheet}
use Rattle.printed_pages.specs.Pages.{Matches}

-- the next read of a file begins with this octet of it
abbrev pub IsAt : ℕ → (file rest : Option (List ℕ)) → Type 0
IsAt at None rest = rest ≡ None
IsAt at (Some all) rest = rest ≡ Some (drop at all)

-- these are the octets of a file from one of them on, so many where it has as many
abbrev pub IsPart : ℕ → Option (List ℕ) → List ℕ → (room : ℕ) → Type 0
IsPart at None got room = Unit {0}
IsPart at (Some all) got room = got ≡ take room (drop at all)

-- a file has a page, which begins here
abbrev pub IsThere : ℕ → Option (List ℕ) → Outline → Type 0
IsThere at None page = Unit {0}
IsThere at (Some all) page = Matches (take page.length (drop at all)) page

-- a file has these pages from an octet on, one after the other, and nothing behind them
abbrev pub ArePagesFrom : ℕ → List ℕ → List Sheet → Type 0
ArePagesFrom at all [] = length all ≤ at
ArePagesFrom at all (s ∷ ss) =
    Matches (take s.page.length (drop at all)) s.page × ArePagesFrom (at + s.page.length) all ss

-- a job's file is its pages; a job has one at least
abbrev pub IsJob : Option (List ℕ) → List Sheet → Type 0
IsJob None sheets = Unit {0}
IsJob (Some all) [] = Unit {0}
IsJob (Some all) (s ∷ ss) = ArePagesFrom 0 all (s ∷ ss)
