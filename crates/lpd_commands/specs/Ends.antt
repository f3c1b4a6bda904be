-- What readers and writers tell of their octets.
use Rattle.std.specs.Prelude.{◌≡◌, ◌<◌, ◌≤◌, ◌+◌, ◌-◌, ◌^◌, ◌++◌, ℕ, zero, suc, List, [], Option, Some, None, length, take, drop, min}

-- one more, up to the last value of a u64
abbrev pub one_more : ℕ → ℕ
one_more n = min (n + 1) (2 ^ 64 - 1)

-- so many more, one after another
abbrev pub many_more : ℕ → ℕ → ℕ
many_more zero n = n
many_more (suc k) n = one_more (many_more k n)

-- how often an end is read at most for one session or one script
abbrev pub most_reads : ℕ
most_reads = 4294967295

-- at most so many reads were made, by what a reader told of them before and after
abbrev pub MakesAtMost : (most before after : ℕ) → Type 0
MakesAtMost most before after = (n : ℕ) × (n ≤ most) × (after ≡ many_more n before)

-- a read of these octets: they are the next ones; though there is room, there are none only where nothing is left
abbrev pub Reads : Option (List ℕ) → Option (List ℕ) → List ℕ → ℕ → Type 0
Reads None rest got room = rest ≡ None
Reads (Some old) rest got room =
    (old ≡ got ++ drop (length got) old) × (rest ≡ Some (drop (length got) old))
    × (got ≡ [] → 0 < room → old ≡ [])

-- these octets were read, one after another, where the reader tells them
abbrev pub Took : Option (List ℕ) → Option (List ℕ) → List ℕ → Type 0
Took None rest octets = rest ≡ None
Took (Some old) rest octets = (after : List ℕ) × (old ≡ octets ++ after) × (rest ≡ Some after)

-- nothing is left, where the reader tells it
abbrev pub IsReadOut : Option (List ℕ) → Type 0
IsReadOut None = Unit {0}
IsReadOut (Some rest) = rest ≡ []

-- these octets were written
abbrev pub Writes : Option (List ℕ) → Option (List ℕ) → List ℕ → Type 0
Writes None now octets = now ≡ None
Writes (Some old) now octets = now ≡ Some (old ++ octets)

-- some octets from the head were written
abbrev pub WritesSome : Option (List ℕ) → Option (List ℕ) → List ℕ → Type 0
WritesSome old now octets = (n : ℕ) × Writes old now (take n octets)
