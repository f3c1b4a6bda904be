-- The sizes and the names of the pages and files of a job.
use Rattle.std.proofs.Common.{◌≡◌, ℕ, zero, suc, Option, Some, None, List, [], ◌∷◌, set, get_or, true≢false, sym, ◌∙◌, ap, arith}
use Rattle.page_pool.specs.Page.{Page}
use Rattle.page_nodes.specs.Chains.{Chains, AreOfSize}
use Rattle.page_chain.specs.declared.error.ChainError.{ChainError}
use Rattle.page_chain.specs.declared.error.ChainError.TheVariants.{NameTaken, FilesFull}
use Rattle.page_chain.specs.declared.place.Place.{Place}
use Rattle.page_chain.specs.Changes.{CanBegin, RefusedFor}
use Rattle.page_chain.specs.Files.{File, every_page, file_at, page_at, with_page_at, there, names_of}
use Rattle.page_chain.specs.Held.{Kept, names_in, shown}
use Rattle.page_chain.proofs.Seen.{names_shown as names_from}
use Rattle.page_chain.proofs.Turning.{sized_back, sized_both, sized_front}

-- a page that is there, and one that is put or taken

page_size_of : (size : ℕ) (pages : List (Option Page)) (n : ℕ) (page : Page) → AreOfSize size (there pages) → get_or pages n None ≡ Some page → page.page_size ≡ size
page_size_of size [] n page h e = absurd (cc)
page_size_of size (None ∷ pages) zero page h e = absurd (cc)
page_size_of size (Some x ∷ pages) zero page h e = (let same : x ≡ page = cc in ap (λ (p : Page). p.page_size) (sym same) ∙ h.0)
page_size_of size (None ∷ pages) (suc n) page h e = page_size_of size pages n page h e
page_size_of size (Some x ∷ pages) (suc n) page h e = page_size_of size pages n page h.1 e

sized_taken : (size : ℕ) (pages : List (Option Page)) (n : ℕ) → AreOfSize size (there pages) → AreOfSize size (there (set pages n None))
sized_taken size [] n h = tt
sized_taken size (None ∷ pages) zero h = h
sized_taken size (Some x ∷ pages) zero h = h.1
sized_taken size (None ∷ pages) (suc n) h = sized_taken size pages n h
sized_taken size (Some x ∷ pages) (suc n) h = (h.0, sized_taken size pages n h.1)

sized_given : (size : ℕ) (pages : List (Option Page)) (n : ℕ) (page : Page) → AreOfSize size (there pages) → page.page_size ≡ size → AreOfSize size (there (set pages n (Some page)))
sized_given size [] n page h e = tt
sized_given size (None ∷ pages) zero page h e = (e, h)
sized_given size (Some x ∷ pages) zero page h e = (e, h.1)
sized_given size (None ∷ pages) (suc n) page h e = sized_given size pages n page h e
sized_given size (Some x ∷ pages) (suc n) page h e = (h.0, sized_given size pages n page h.1 e)

sized_file : (size : ℕ) (files : List File) (i : ℕ) → AreOfSize size (every_page files) → AreOfSize size (there (file_at files i).pages)
sized_file size [] i h = tt
sized_file size (file ∷ files) zero h = sized_front size (there file.pages) (every_page files) h
sized_file size (file ∷ files) (suc i) h = sized_file size files i (sized_back size (there file.pages) (every_page files) h)

sized_set : (size : ℕ) (files : List File) (i : ℕ) (file : File) → AreOfSize size (every_page files) → AreOfSize size (there file.pages) → AreOfSize size (every_page (set files i file))
sized_set size [] i file h k = tt
sized_set size (x ∷ files) zero file h k = sized_both size (there file.pages) (every_page files) k (sized_back size (there x.pages) (every_page files) h)
sized_set size (x ∷ files) (suc i) file h k =
    sized_both size (there x.pages) (every_page (set files i file)) (sized_front size (there x.pages) (every_page files) h)
    (sized_set size files i file (sized_back size (there x.pages) (every_page files) h) k)

pub taken_of_size : (size : ℕ) (files : List File) (place : Place) → AreOfSize size (every_page files) → AreOfSize size (every_page (with_page_at files place None))
taken_of_size size files place h =
    sized_set size files place.file (record (file_at files place.file) { pages = set (file_at files place.file).pages place.number None }) h
    (sized_taken size (file_at files place.file).pages place.number (sized_file size files place.file h))

pub given_of_size : (size : ℕ) (files : List File) (place : Place) (page : Page) → AreOfSize size (every_page files) → page.page_size ≡ size → AreOfSize size (every_page (with_page_at files place (Some page)))
given_of_size size files place page h e =
    sized_set size files place.file (record (file_at files place.file) { pages = set (file_at files place.file).pages place.number (Some page) }) h
    (sized_given size (file_at files place.file).pages place.number page (sized_file size files place.file h) e)

pub size_at : (size : ℕ) (files : List File) (place : Place) (page : Page) → AreOfSize size (every_page files) → page_at files place ≡ Some page → page.page_size ≡ size
size_at size files place page h e = page_size_of size (file_at files place.file).pages place.number page (sized_file size files place.file h) e

-- the names and the number of the files that are shown

pub names_seen : (c : Kept) (nodes : Chains) → names_of (shown c nodes).files ≡ names_in c.files
names_seen c nodes = names_from nodes c.row c.prints c.turned 0 c.files

-- a file that may begin is not refused

pub never_refused : (names : List (List ℕ)) (room : ℕ) (name : List ℕ) (error : ChainError) → CanBegin names room name → RefusedFor names room name error → ⊥
never_refused names room name NameTaken can taken = true≢false (sym taken ∙ can.0)
never_refused names room name FilesFull can full = (let lt = can.1 in let e = full.1 in omega (arith, lt, e))
