-- What contracts see of a chain and its pages among the nodes: files with their pages, and the places that are still to be
-- handed out.
use Rattle.std.specs.Prelude.{ℕ, zero, suc, Bool, Option, Some, None, List, [], ◌∷◌, ◌++◌, slice_index_or, slice_set, map}
use Rattle.page_pool.specs.Page.{Page}
use Rattle.page_chain.specs.declared.place.Place.{Place}

-- a file: the octets of its name, and its pages by number, with None for one that was taken
pub record File : Type 0 where
  pub name : List ℕ
  pub pages : List (Option Page)

-- a chain: its files in the order in which they were begun, and whether the last of them is open; the places that are
-- still to be handed out, in print order; the place that was handed out last; for how many files there is room
pub record Files : Type 0 where
  pub files : List File
  pub is_open : Bool
  pub places : List Place
  pub last : Option Place
  pub file_room : ℕ

abbrev pub no_file : File
no_file = record { name = []; pages = [] }

abbrev pub file_at : List File → ℕ → File
file_at files i = slice_index_or files i no_file

abbrev pub no_place : Place
no_place = record { file = 0; number = 0 }

-- the page of a place, or None
abbrev pub page_at : List File → Place → Option Page
page_at files place = slice_index_or (file_at files place.file).pages place.number None

-- the files where the page of a place is this one, or None
abbrev pub with_page_at : List File → Place → Option Page → List File
with_page_at files place page =
    let file = file_at files place.file in
    slice_set files place.file (record file { pages = slice_set file.pages place.number page })

-- the pages that are there
abbrev pub there : List (Option Page) → List Page
there [] = []
there (None ∷ pages) = there pages
there (Some page ∷ pages) = page ∷ there pages

-- the pages of all files that are there, one file after the other
abbrev pub every_page : List File → List Page
every_page [] = []
every_page (file ∷ files) = there file.pages ++ every_page files

-- the names of these files
abbrev pub names_of : List File → List (List ℕ)
names_of files = map (λ file. file.name) files

-- the places of m pages of a file, the first of which has the number n
abbrev pub numbered : ℕ → ℕ → ℕ → List Place
numbered file n zero = []
numbered file n (suc m) = record { file = file; number = n } ∷ numbered file (suc n) m
