-- What each call makes of a chain.
use Rattle.std.specs.Prelude.{◌≡◌, ◌==◌, ℕ, suc, ◌<◌, ◌&&◌, ◌||◌, nat_le, Bool, true, false, Option, Some, None, IsSome, List, [], ◌∷◌, ◌++◌, length, drop, slice_index_or, if◌then◌else◌}
use Rattle.std.specs.List.{list_any, filter_map, flat_map, position}
use Rattle.std.specs.Str.{bytes_eq}
use Rattle.page_pool.specs.Page.{Page}
use Rattle.page_chain.specs.declared.place.Place.{Place}
use Rattle.page_chain.specs.declared.error.ChainError.{ChainError}
use Rattle.page_chain.specs.declared.error.ChainError.TheVariants.{NameTaken, FilesFull}
use Rattle.page_chain.specs.Files.{File, Files, file_at, no_place, page_at, with_page_at, there, names_of, numbered}

-- one of these is this name
abbrev pub has_name : List (List ℕ) → List ℕ → Bool
has_name names name = list_any (λ other. bytes_eq other name) names

-- beside files of these names a new one may begin, where there is room for so many: the name is new, and there is room
abbrev pub CanBegin : List (List ℕ) → ℕ → List ℕ → Type 0
CanBegin names room name = (has_name names name ≡ false) × (length names < room)

-- when each refusal of a new file comes
abbrev pub RefusedFor : List (List ℕ) → ℕ → List ℕ → ChainError → Type 0
RefusedFor names room name NameTaken = has_name names name ≡ true
RefusedFor names room name FilesFull = (has_name names name ≡ false) × (length names ≡ room)

-- the chain with a new, open file
abbrev pub begun : List ℕ → Files → Files
begun name v = record v { files = v.files ++ record { name = name; pages = [] } ∷ []; is_open = true }

-- the files with one page more in the last
abbrev pub with_page : List File → Page → List File
with_page [] page = []
with_page (file ∷ []) page = record file { pages = file.pages ++ Some page ∷ [] } ∷ []
with_page (file ∷ next ∷ files) page = file ∷ with_page (next ∷ files) page

-- which of these names is the first that is this one
abbrev pub number_of : List (List ℕ) → List ℕ → Option ℕ
number_of names name = position (λ other. bytes_eq other name) names

-- the numbers of the listed files among files of these names, in the order of the list and with its repeats; a name of no
-- file adds nothing
abbrev pub numbers_of : List (List ℕ) → List (List ℕ) → List ℕ
numbers_of names list = filter_map (number_of names) list

-- the places of these files, one file after the other
abbrev pub places_of : List File → List ℕ → List Place
places_of files numbers = flat_map (λ i. numbered i 0 (length (file_at files i).pages)) numbers

abbrev pub is_among : List ℕ → ℕ → Bool
is_among numbers i = list_any (λ n. n == i) numbers

-- the files, all others than those of these numbers without a page; the first has the number n
abbrev pub kept_from : ℕ → List ℕ → List File → List File
kept_from n numbers [] = []
kept_from n numbers (file ∷ files) =
    (if is_among numbers n then file else record file { pages = [] }) ∷ kept_from (suc n) numbers files

-- the pages of the files of no such number
abbrev pub dropped_from : ℕ → List ℕ → List File → List Page
dropped_from n numbers [] = []
dropped_from n numbers (file ∷ files) =
    (if is_among numbers n then [] else there file.pages) ++ dropped_from (suc n) numbers files

-- the pages of the files that the list doesn't name
abbrev pub unnamed_pages : List File → List (List ℕ) → List Page
unnamed_pages files names = dropped_from 0 (numbers_of (names_of files) names) files

-- the chain with the places of the named files in the order of the list, repeats too, and no page of another file
abbrev pub placed : List (List ℕ) → Files → Files
placed names v = record v {
  files = kept_from 0 (numbers_of (names_of v.files) names) v.files;
  places = places_of v.files (numbers_of (names_of v.files) names);
  last = None;
}

-- the first place that is still to be handed out
abbrev pub next_place : Files → Place
next_place v = slice_index_or v.places 0 no_place

-- a place is still to be handed out, and its page is there
pub record IsReady (v : Files) : Type 0 where
  pub some : 0 < length v.places
  pub here : IsSome (page_at v.files (next_place v))

-- the chain once that place was handed out
abbrev pub taken : Files → Files
taken v = record v {
  files = with_page_at v.files (next_place v) None;
  places = drop 1 v.places;
  last = Some (next_place v);
}

abbrev pub is_same_place : Place → Place → Bool
is_same_place a b = (a.file == b.file) && (a.number == b.number)

-- the page of this place is still to be handed out, where these files are still to be printed and the first of them has
-- handed out its first `turned` pages already
abbrev pub is_to_come : List ℕ → ℕ → Place → Bool
is_to_come [] turned place = false
is_to_come (file ∷ prints) turned place = ((file == place.file) && nat_le turned place.number) || is_among prints place.file

-- the page of a place comes again: a place of the same page is still to be handed out
abbrev pub comes_again : List Place → Option Place → Bool
comes_again places None = false
comes_again places (Some place) = list_any (is_same_place place) places

abbrev pub or_no_place : Option Place → Place
or_no_place None = no_place
or_no_place (Some place) = place

-- the place that was handed out last
abbrev pub last_place : Files → Place
last_place v = or_no_place v.last

-- of the pages of its file the page of this place is the only one that isn't there
pub record IsOnlyGap (v : Files) (place : Place) : Type 0 where
  pub out : page_at v.files place ≡ None
  pub others : (n : ℕ) → n < length (file_at v.files place.file).pages → (n ≡ place.number → ⊥) → IsSome (page_at v.files (record place { number = n }))

-- the page of the place that was handed out last is the only one of its file that isn't there
pub record AwaitsLast (v : Files) : Type 0 where
  pub last : IsSome v.last
  pub gap : IsOnlyGap v (last_place v)

-- the chain once the page of the last place came back
abbrev pub given_again : Page → Files → Files
given_again page v = record v { files = with_page_at v.files (last_place v) (Some page) }

-- the chain with no file
abbrev pub emptied : Files → Files
emptied v = record v { files = []; is_open = false; places = []; last = None }
