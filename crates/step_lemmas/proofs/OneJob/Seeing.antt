-- What is seen of the pages of a chain, page by page.
use Rattle.std.proofs.Common.{◌≡◌, ℕ, zero, suc, List, [], ◌∷◌, length, get_or, set, map, refl, sym, ◌∙◌, ap}
use Rattle.std.specs.Prelude.{Option, Some, None, IsSome}
use Rattle.std.proofs.lemmas.List.{length-map, map-set}
use Rattle.page_pool.specs.Page.{Page}
use Rattle.page_chain.specs.declared.place.Place.{Place}
use Rattle.page_chain.specs.Files as F
use Rattle.page_chain.specs.Files.{file_at, no_file, page_at, with_page_at}
use Rattle.held_jobs.specs.Shown.{File, see_file, see_page}

-- the file of a number, or one without a page
abbrev pub seen_file : {C : Type 0} → List (File C) → ℕ → File C
seen_file xs i = get_or xs i (record { name = []; pages = [] })

-- the page of a number in the file of a number, or None
abbrev pub seen_at : {C : Type 0} → List (File C) → (file number : ℕ) → Option C
seen_at xs i n = get_or (seen_file xs i).pages n None

-- how many pages the file of a number has
abbrev pub seen_len : {C : Type 0} → List (File C) → ℕ → ℕ
seen_len xs i = length (seen_file xs i).pages

-- the files, where that page is this one, or None
abbrev pub seen_with : {C : Type 0} → List (File C) → (file number : ℕ) → Option C → List (File C)
seen_with xs i n page = set xs i (record (seen_file xs i) { pages = set (seen_file xs i).pages n page })

-- what stands at a place, or past the end
get_map : {X Y : Type 0} (g : X → Y) (xs : List X) (i : ℕ) (d : X) → g (get_or xs i d) ≡ get_or (map g xs) i (g d)
get_map g [] i d = refl
get_map g (x ∷ xs) zero d = refl
get_map g (x ∷ xs) (suc i) d = get_map g xs i d

-- the page of a place, as it is seen
pub see_at : {C : Type 0} (f : Page → C) (xs : List F.File) (place : Place) → see_page f (page_at xs place) ≡ seen_at (map {A = F.File} {B = File C} (see_file f) xs) place.file place.number
see_at {C} f xs place =
    get_map (see_page f) (get_or xs place.file no_file).pages place.number None ∙ ap (λ (x : File C). get_or x.pages place.number None) (get_map (see_file f) xs place.file no_file)

-- how many pages a file has, as it is seen
pub see_len : {C : Type 0} (f : Page → C) (xs : List F.File) (i : ℕ) → length (file_at xs i).pages ≡ seen_len (map {A = F.File} {B = File C} (see_file f) xs) i
see_len {C} f xs i = sym (length-map (get_or xs i no_file).pages (see_page f)) ∙ ap (λ (x : File C). length x.pages) (get_map (see_file f) xs i no_file)

-- the files with another page at a place, as they are seen
pub see_with : {C : Type 0} (f : Page → C) (xs : List F.File) (place : Place) (page : Option Page)
    → map {A = F.File} {B = File C} (see_file f) (with_page_at xs place page) ≡ seen_with (map {A = F.File} {B = File C} (see_file f) xs) place.file place.number (see_page f page)
see_with {C} f xs place page =
    let x = get_or xs place.file no_file in
    let seen = map {A = F.File} {B = File C} (see_file f) xs in
    map-set (see_file f) xs place.file (record x { pages = set x.pages place.number page })
    ∙ (ap (λ (p : List (Option C)). set seen place.file (record { name = x.name; pages = p })) (map-set (see_page f) x.pages place.number page)
    ∙ ap (λ (y : File C). set seen place.file (record y { pages = set y.pages place.number (see_page f page) })) (get_map (see_file f) xs place.file no_file))

-- a page that is seen is there
pub seen_some : {C : Type 0} (f : Page → C) (o : Option Page) (x : C) → see_page f o ≡ Some x → IsSome o
seen_some f None x e = absurd cc
seen_some f (Some page) x e = refl

-- a page that isn't seen isn't there
pub seen_none : {C : Type 0} (f : Page → C) (o : Option Page) → see_page f o ≡ None → o ≡ None
seen_none f None e = refl
seen_none f (Some page) e = absurd cc
