-- What a folder's sink publishes of a job, from its first page until it is left.
use Rattle.std.specs.Prelude.{◌≡◌, ◌⊎◌, ℕ, Bool, true, false, List, [], ◌∷◌, ◌++◌, Option, Some, if◌then◌else◌}
use Rattle.printer_sinks.specs.declared.draft.JobDraft.TheVariants.{Nothing}
use Rattle.printer_sinks.specs.Files.{File, Shelf, IsFree, Keeps, Leaves, shelf}
use Rattle.printer_sinks.specs.Visits.{Given}

-- a sink was given these pages of a job, one after another
abbrev pub KeepsAll : (job : ℕ) → List Given → (old new : Shelf) → Type 0
KeepsAll job [] old new = new ≡ old
KeepsAll job (page ∷ pages) old new = (mid : Shelf) × Keeps job page.octets page.ok old mid × KeepsAll job pages mid new

-- and then left the job
abbrev pub PrintsAll : (job : ℕ) → List Given → (done ok : Bool) → (old new : Shelf) → Type 0
PrintsAll job pages done ok old new = (mid : Shelf) × KeepsAll job pages old mid × Leaves done ok mid new

-- all pages were told Ok
abbrev pub all_ok : List Given → Bool
all_ok [] = true
all_ok (page ∷ pages) = if page.ok then all_ok pages else false

-- their octets, joined in order
abbrev pub joined : List Given → List ℕ
joined [] = []
joined (page ∷ pages) = page.octets ++ joined pages

-- a sink over a folder with these files that is at no job
abbrev pub idle : (draft : Option (List ℕ)) (files : List File) → Shelf
idle draft files = shelf Nothing draft (Some files)

-- a file with the join of these pages is there, under a number that was free; the others stay
abbrev pub IsPublished : List Given → (old : List File) → (new : Option (List File)) → Type 0
IsPublished pages old new =
    (number : ℕ) × (IsFree number old × (new ≡ Some (record { number = number; octets = joined pages } ∷ old)))

-- nothing is published; or the job is, and then it was done and all its pages were told Ok
abbrev pub OnlyWhole : List Given → (done : Bool) → (old : List File) → (new : Option (List File)) → Type 0
OnlyWhole pages done old new =
    (new ≡ Some old) ⊎ ((done ≡ true) × (all_ok pages ≡ true) × IsPublished pages old new)
