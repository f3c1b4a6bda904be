-- Texts that are joined.
use Rattle.std.proofs.Common.{◌≡◌, ◌++◌, ◌∷◌, append-nil, ap, refl, List, [], map}
use Rattle.std.specs.List.{join_by, join_with_byte}
use Rattle.clap.specs.Words.{Text}

-- texts that are joined by a space
pub joined : {X : Type 0} (text : X → Text) (items : List X) → join_by text (32 ∷ []) items ≡ join_with_byte 32 (map text items)
joined text [] = refl
joined text (x ∷ []) = append-nil (text x)
joined text (x ∷ y ∷ xs) =
    let rest = joined text (y ∷ xs) in
    ap (λ s. text x ++ 32 ∷ s) rest
