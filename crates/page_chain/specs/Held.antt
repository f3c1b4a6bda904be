-- How a chain and the nodes together hold a job's files.
use Rattle.std.specs.Prelude.{◌≡◌, ◌==◌, ◌-◌, ◌*◌, ℕ, zero, suc, ◌+◌, ◌<◌, ◌≤◌, ◌⊎◌, Bool, true, false, Option, Some, None, List, [], ◌∷◌, ◌++◌, length, take, drop, map, slice_index_or, if◌then◌else◌}
use Rattle.std.specs.List.{flat_map}
use Rattle.lpd_values.specs.declared.limits.TheConstants.{MAX_FILES}
use Rattle.page_pool.specs.Page.{Page}
use Rattle.page_nodes.specs.Chains.{Chains, chain_of}
use Rattle.page_chain.specs.declared.place.Place.{Place}
use Rattle.page_chain.specs.declared.run.Run.{Run}
use Rattle.page_chain.specs.Files.{File, Files, numbered}

-- what a chain itself keeps: its row among the nodes; its files, each a name and how many pages it has; whether the last
-- is open; the numbers of the files that are still to be printed, the first of which has handed out this many places
-- already; the place that was handed out last; for how many files there is room
pub record Kept : Type 0 where
  pub row : ℕ
  pub files : List Run
  pub is_open : Bool
  pub prints : List ℕ
  pub turned : ℕ
  pub last : Option Place
  pub file_room : ℕ

abbrev pub no_run : Run
no_run = record { name = []; pages = 0 }

abbrev pub run_at : List Run → ℕ → Run
run_at files i = slice_index_or files i no_run

-- the names of these files
abbrev pub names_in : List Run → List (List ℕ)
names_in files = map (λ run. run.name) files

-- how many of the file's pages went to the end of its chain, or away, since its first was at the front
abbrev pub turned_in : List ℕ → ℕ → ℕ → ℕ
turned_in [] turned i = 0
turned_in (file ∷ prints) turned i = if file == i then turned else 0

-- n pages, the first of which are these
abbrev pub padded : ℕ → List Page → List (Option Page)
padded zero pages = []
padded (suc n) [] = None ∷ padded n []
padded (suc n) (page ∷ pages) = Some page ∷ padded n pages

-- pages that have turned so far, by number again
abbrev pub by_number : ℕ → List (Option Page) → List (Option Page)
by_number turned pages = drop (length pages - turned) pages ++ take (length pages - turned) pages

-- a file whose chain has these pages
abbrev pub file_shown : List Page → ℕ → Run → File
file_shown pages turned run = record { name = run.name; pages = by_number turned (padded run.pages pages) }

-- the pages of the file of this number of a row: the nodes have so many chains for each row
abbrev pub pages_in : Chains → ℕ → ℕ → List Page
pages_in nodes row i = chain_of nodes (MAX_FILES * row + i)

-- the files of a row, the first of which has the number i
abbrev pub files_from : Chains → ℕ → List ℕ → ℕ → ℕ → List Run → List File
files_from nodes row prints turned i [] = []
files_from nodes row prints turned i (run ∷ files) =
    file_shown (pages_in nodes row i) (turned_in prints turned i) run ∷ files_from nodes row prints turned (suc i) files

-- the places of these files that are still to be handed out
abbrev pub places_left : List Run → List ℕ → ℕ → List Place
places_left files prints turned = drop turned (flat_map (λ i. numbered i 0 (run_at files i).pages) prints)

-- each of the files that are still to be printed is there, and the first has a place more than it has handed out
abbrev pub CanPrint : List Run → List ℕ → ℕ → Type 0
CanPrint files [] turned = Unit {0}
CanPrint files (file ∷ prints) turned = (file < length files) × (turned < (run_at files file).pages) × CanPrint files prints 0

-- the place that was handed out last is one of its file's
abbrev pub IsOfFile : List Run → Option Place → Type 0
IsOfFile files None = Unit {0}
IsOfFile files (Some place) = place.number < (run_at files place.file).pages

-- where a place was handed out, its page was the last of its file that turned: in this pass, or at the end of the one before
abbrev pub HasTurned : List Run → List ℕ → ℕ → Option Place → Type 0
HasTurned files prints turned None = Unit {0}
HasTurned files prints turned (Some place) =
    (turned_in prints turned place.file ≡ suc place.number)
    ⊎ ((turned_in prints turned place.file ≡ 0) × (suc place.number ≡ (run_at files place.file).pages))

-- what is seen of a chain among the nodes
abbrev pub shown : Kept → Chains → Files
shown c nodes = record {
  files = files_from nodes c.row c.prints c.turned 0 c.files;
  is_open = c.is_open;
  places = places_left c.files c.prints c.turned;
  last = c.last;
  file_room = c.file_room;
}

-- the nodes have this row
abbrev pub HasRow : Chains → ℕ → Type 0
HasRow nodes row = MAX_FILES * row + MAX_FILES ≤ length nodes.chains

-- no page of a job is in this row
pub record IsFreeRow (nodes : Chains) (row : ℕ) : Type 0 where
  pub here : HasRow nodes row
  pub empty : (i : ℕ) → i < MAX_FILES → pages_in nodes row i ≡ []

-- the nodes hold what the chain says: no file has more pages there than it was given, an open one has all, and beyond
-- its files there is nothing
pub record IsHeld (c : Kept) (nodes : Chains) : Type 0 where
  pub row : HasRow nodes c.row
  pub few : length c.files ≤ MAX_FILES
  pub fits : (i : ℕ) → i < length c.files → length (pages_in nodes c.row i) ≤ (run_at c.files i).pages
  pub whole : c.is_open ≡ true → (i : ℕ) → suc i ≡ length c.files → length (pages_in nodes c.row i) ≡ (run_at c.files i).pages
  pub beyond : (i : ℕ) → length c.files ≤ i → i < MAX_FILES → pages_in nodes c.row i ≡ []

-- no file is open, no place is still to be handed out, and none was
pub record IsIdle (c : Kept) : Type 0 where
  pub closed : c.is_open ≡ false
  pub placed : places_left c.files c.prints c.turned ≡ []
  pub fresh : c.last ≡ None

-- a call that changes the chains of one row, and no other
pub record OnlyRow (old new : Chains) (row : ℕ) : Type 0 where
  pub room : new.room ≡ old.room
  pub count : length new.chains ≡ length old.chains
  pub others : (other i : ℕ) → (other ≡ row → ⊥) → i < MAX_FILES → pages_in new other i ≡ pages_in old other i

-- a call on a chain that leaves it so among the nodes, and changes the chains of its row alone
pub record Leads (old new : Kept) (before after : Chains) (v : Files) : Type 0 where
  pub shows : shown new after ≡ v
  pub held : IsHeld new after
  pub only : OnlyRow before after old.row
  pub row : new.row ≡ old.row

-- a call on a chain alone: whatever nodes hold it, they hold it still, and it is seen so changed
pub record Turns (old new : Kept) (f : Files → Files) : Type 0 where
  pub shows : (nodes : Chains) → IsHeld old nodes → shown new nodes ≡ f (shown old nodes)
  pub held : (nodes : Chains) → IsHeld old nodes → IsHeld new nodes
  pub row : new.row ≡ old.row
