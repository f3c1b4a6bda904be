-- What follows from the definitions for every chain.
use Rattle.std.specs.Prelude.{◌≡◌, ℕ, ◌<◌, ◌≤◌, true, List, ◌++◌, length}
use Rattle.std.specs.List.{list_any}
use Rattle.std.specs.List.Sorted.{IsPermutation}
use Rattle.page_nodes.specs.Chains.{Chains, AreOfSize, total}
use Rattle.page_chain.specs.Files.{File, every_page, file_at, names_of}
use Rattle.page_chain.specs.Changes.{is_among, is_same_place, kept_from, numbers_of, places_of, unnamed_pages}
use Rattle.page_chain.specs.Held.{Kept, names_in, shown, IsHeld, OnlyRow}

-- the pages of named files and those of all others are the pages of all files, in another order
abbrev pub StaysOrReturns : Type 0
StaysOrReturns =
    (files : List File) (names : List (List ℕ)) →
    IsPermutation (every_page files) (every_page (kept_from 0 (numbers_of (names_of files) names) files) ++ unnamed_pages files names)

-- each page of a file that is printed has a place
abbrev pub EachHasPlace : Type 0
EachHasPlace =
    (files : List File) (numbers : List ℕ) (i n : ℕ) → is_among numbers i ≡ true → n < length (file_at files i).pages →
    list_any (is_same_place (record { file = i; number = n })) (places_of files numbers) ≡ true

-- a call on one row leaves the chains of all other rows as they were
abbrev pub OthersStay : Type 0
OthersStay =
    (c : Kept) (old new : Chains) (row : ℕ) → OnlyRow old new row → (c.row ≡ row → ⊥) → IsHeld c old →
    (shown c new ≡ shown c old) × IsHeld c new

-- what is seen of a chain's names doesn't depend on the nodes
abbrev pub ShowsNames : Type 0
ShowsNames = (c : Kept) (nodes : Chains) → names_of (shown c nodes).files ≡ names_in c.files

-- a chain has no more pages than all chains together
abbrev pub AreCounted : Type 0
AreCounted = (c : Kept) (nodes : Chains) → IsHeld c nodes → length (every_page (shown c nodes).files) ≤ total nodes.chains

-- the pages that go back for a list of names are of the chain's pages: no more than these, and of their size
abbrev pub ReturnsOfThese : Type 0
ReturnsOfThese =
    (files : List File) (names : List (List ℕ)) →
    (length (unnamed_pages files names) ≤ length (every_page files))
    × ((size : ℕ) → AreOfSize size (every_page files) → AreOfSize size (unnamed_pages files names))
