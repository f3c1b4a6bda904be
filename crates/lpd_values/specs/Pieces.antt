-- A text cut at the octets that pass a test.
use Rattle.std.specs.Prelude.{ℕ, Bool, true, false, List, [], ◌∷◌, if◌then◌else◌, not}

-- whether an octet belongs to a piece
abbrev pub is_kept : (ℕ → Bool) → ℕ → Bool
is_kept cut b = not (cut b)

-- whether a text begins with a piece
abbrev pub begins_piece : (ℕ → Bool) → List ℕ → Bool
begins_piece cut [] = false
begins_piece cut (b ∷ bs) = is_kept cut b

-- these pieces with one octet more in front: of the first piece, or a piece of its own
abbrev pub octet_before : ℕ → Bool → List (List ℕ) → List (List ℕ)
octet_before b true (w ∷ ws) = (b ∷ w) ∷ ws
octet_before b _ ws = (b ∷ []) ∷ ws

-- the longest pieces, none of them empty, in order
abbrev pub pieces_of : (ℕ → Bool) → List ℕ → List (List ℕ)
pieces_of cut [] = []
pieces_of cut (b ∷ bs) =
    if cut b then pieces_of cut bs else octet_before b (begins_piece cut bs) (pieces_of cut bs)
