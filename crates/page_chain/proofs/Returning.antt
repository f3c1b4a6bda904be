-- Each page keeps its place or goes back.
use Rattle.std.proofs.Common.{◌≡◌, ℕ, suc, inl, inr, Bool, true, false, eqb, List, [], ◌∷◌, ◌++◌, length, refl, sym, ◌∙◌, ap, subst, append_assoc, arith}
use Rattle.std.specs.List.{list_any}
use Rattle.std.specs.List.Sorted.{IsPermutation}
use Rattle.std.proofs.lemmas.Bool.{eqb-true, or_left, or_right, or_cases}
use Rattle.std.proofs.lemmas.List.Folds.{list_any-append}
use Rattle.std.proofs.lemmas.List.Sorted.{IsPermutation-refl, IsPermutation-trans, IsPermutation-append_left, IsPermutation-append_right, IsPermutation-append_comm}
use Rattle.page_pool.specs.Page.{Page}
use Rattle.page_chain.specs.declared.place.Place.{Place}
use Rattle.page_chain.specs.Files.{File, file_at, there, every_page, names_of, numbered}
use Rattle.page_chain.specs.Changes.{is_among, is_same_place, kept_from, dropped_from, numbers_of, places_of}
use Rattle.page_chain.specs.Laws.{StaysOrReturns, EachHasPlace}
use Rattle.page_chain.proofs.Places.{in_range}

in_front : (a all kept gone : List Page) → IsPermutation all (kept ++ gone) → IsPermutation (a ++ all) ((a ++ kept) ++ gone)
in_front a all kept gone ih = subst (IsPermutation (a ++ all)) (sym (append_assoc a kept gone)) (IsPermutation-append_right a all (kept ++ gone) ih)

behind : (a all kept gone : List Page) → IsPermutation all (kept ++ gone) → IsPermutation (a ++ all) (kept ++ (a ++ gone))
behind a all kept gone ih =
    IsPermutation-trans (a ++ all) ((a ++ kept) ++ gone) (kept ++ (a ++ gone)) (in_front a all kept gone ih)
    (subst (IsPermutation ((a ++ kept) ++ gone)) (append_assoc kept a gone) (IsPermutation-append_left gone (a ++ kept) (kept ++ a) (IsPermutation-append_comm a kept)))

stays : (k : ℕ) (numbers : List ℕ) (files : List File) → IsPermutation (every_page files) (every_page (kept_from k numbers files) ++ dropped_from k numbers files)
stays k numbers [] = IsPermutation-refl []
stays k numbers (file ∷ files) = cases (is_among numbers k) (stays (suc k) numbers files) refl
  where
    cases : (b : Bool) → IsPermutation (every_page files) (every_page (kept_from (suc k) numbers files) ++ dropped_from (suc k) numbers files) → is_among numbers k ≡ b
        → IsPermutation (every_page (file ∷ files)) (every_page (kept_from k numbers (file ∷ files)) ++ dropped_from k numbers (file ∷ files))
    cases true ih e = rw e (in_front (there file.pages) (every_page files) (every_page (kept_from (suc k) numbers files)) (dropped_from (suc k) numbers files) ih)
    cases false ih e = rw e (behind (there file.pages) (every_page files) (every_page (kept_from (suc k) numbers files)) (dropped_from (suc k) numbers files) ih)

pub stays_or_returns : StaysOrReturns
stays_or_returns files names = stays 0 (numbers_of (names_of files) names) files

pub each_has_place : EachHasPlace
each_has_place files [] i n e lt = e
each_has_place files (x ∷ numbers) i n e lt =
    let place : Place = record { file = i; number = n } in
    let here = numbered x 0 (length (file_at files x).pages) in
    let rest = places_of files numbers in
    list_any-append (is_same_place place) here rest
    ∙ elim (or_cases (eqb x i) (is_among numbers i) e) [
      | inl h ↦
          let same = eqb-true x i h in
          or_left (list_any (is_same_place place) here) (list_any (is_same_place place) rest)
          (ap (λ (j : ℕ). list_any (is_same_place place) (numbered j 0 (length (file_at files j).pages))) same
          ∙ in_range 0 (length (file_at files i).pages) place (omega arith) (omega (arith, lt)))
      | inr later ↦ or_right (list_any (is_same_place place) here) (list_any (is_same_place place) rest) (each_has_place files numbers i n later lt)
    ]
