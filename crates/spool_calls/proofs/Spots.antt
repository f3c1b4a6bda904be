-- Pages of files, and their places.
use Rattle.std.proofs.Common.{◌≡◌, Bool, List, [], ◌∷◌, map, refl, ap}
use Rattle.std.specs.Prelude.{◌||◌}
use Rattle.std.specs.List.{list_any}
use Rattle.page_chain.specs.declared.place.Place.{Place}
use Rattle.page_chain.specs.Changes.{is_same_place}
use Rattle.spool_history.specs.Acts.{Page, is_same_page}
use Rattle.spool_calls.specs.Kept.{place_of}

-- a place is among those of pages where its page is among these
pub any_spot : {C : Type 0} (x : Page C) (ps : List (Page C)) → list_any (is_same_place (place_of x)) (map {A = Page C} {B = Place} place_of ps) ≡ list_any (is_same_page x) ps
any_spot x [] = refl
any_spot {C} x (p ∷ ps) = ap (λ (b : Bool). is_same_page x p || b) (any_spot x ps)
