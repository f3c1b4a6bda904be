-- The files of a folder, and the hidden one that a job's pages go to.
use Rattle.std.specs.Prelude.{◌≡◌, ◌⊎◌, ℕ, Bool, true, false, List, [], ◌∷◌, ◌++◌, Option, Some, None, ◌==◌, if◌then◌else◌}
use Rattle.printer_sinks.specs.declared.draft.JobDraft.{JobDraft}
use Rattle.printer_sinks.specs.declared.draft.JobDraft.TheVariants.{Nothing, Whole, Broken}

-- a file: its number, and its octets
pub record File : Type 0 where
  pub number : ℕ
  pub octets : List ℕ

-- no file has this number
abbrev pub IsFree : (number : ℕ) → List File → Type 0
IsFree number [] = Unit {0}
IsFree number (file ∷ files) = (file.number ≡ number → ⊥) × IsFree number files

-- a hidden file with nothing in it, where the folder tells its files
abbrev pub started : Option (List File) → Option (List ℕ)
started None = None
started (Some _) = Some []

-- octets are added to it
abbrev pub extended : List ℕ → Option (List ℕ) → Option (List ℕ)
extended octets None = None
extended octets (Some draft) = Some (draft ++ octets)

-- the hidden file got this number, which was free; the others stay
abbrev pub Adds : (number : ℕ) (draft : Option (List ℕ)) (old new : Option (List File)) → Type 0
Adds number (Some draft) (Some old) new =
    IsFree number old × (new ≡ Some (record { number = number; octets = draft } ∷ old))
Adds number _ old new = Unit {0}

-- it got a number
abbrev pub AddsOne : (draft : Option (List ℕ)) (old new : Option (List File)) → Type 0
AddsOne draft old new = (number : ℕ) × Adds number draft old new

-- it got a number, or nothing changed
abbrev pub MayAdd : (draft : Option (List ℕ)) (old new : Option (List File)) → Type 0
MayAdd draft old new = (new ≡ old) ⊎ AddsOne draft old new

-- what a sink has of a job when a page of this job comes: another job is left
abbrev pub draft_for : (job : ℕ) → JobDraft → JobDraft
draft_for job Nothing = Nothing
draft_for job (Whole other) = if other == job then Whole other else Nothing
draft_for job (Broken other) = if other == job then Broken other else Nothing

-- a sink between two calls: what it has of a job, the hidden file, and the files with numbers
pub record Shelf : Type 0 where
  pub stage : JobDraft
  pub draft : Option (List ℕ)
  pub files : Option (List File)

-- the hidden file after a page
abbrev pub with_page : JobDraft → (octets : List ℕ) → Option (List ℕ) → Option (List File) → Option (List ℕ)
with_page (Whole _) octets draft files = extended octets draft
with_page _ octets draft files = extended octets (started files)

-- all pages of a job so far are in the hidden file
abbrev pub is_whole : JobDraft → Bool
is_whole (Whole _) = true
is_whole _ = false

-- what a sink has of a job is broken
abbrev pub IsBroken : JobDraft → Type 0
IsBroken (Broken _) = Unit {0}
IsBroken _ = ⊥

-- a page is added to the hidden file whole where that is told, and only where no page of its job failed; else the job is broken
abbrev pub Keeps : (job : ℕ) (octets : List ℕ) (ok : Bool) (old new : Shelf) → Type 0
Keeps job octets true old new =
    (new.stage ≡ Whole job) × (IsBroken (draft_for job old.stage) → ⊥)
    × (new.draft ≡ with_page (draft_for job old.stage) octets old.draft old.files) × (new.files ≡ old.files)
Keeps job octets false old new = (new.stage ≡ Broken job) × (new.files ≡ old.files)

-- what leaving a job does to the files: where it was done and no page of it failed, the hidden file gets a number where that is
-- told, and else maybe; otherwise nothing is published
abbrev pub PublishesAt : (done ok : Bool) → JobDraft → (draft : Option (List ℕ)) → (old new : Option (List File)) → Type 0
PublishesAt true true (Whole job) draft old new = AddsOne draft old new
PublishesAt true false (Whole job) draft old new = MayAdd draft old new
PublishesAt _ _ _ draft old new = new ≡ old

-- a job is left
abbrev pub Leaves : (done ok : Bool) (old new : Shelf) → Type 0
Leaves done ok old new = (new.stage ≡ Nothing) × PublishesAt done ok old.stage old.draft old.files new.files

-- the shelf of a sink over a folder
abbrev pub shelf : JobDraft → Option (List ℕ) → Option (List File) → Shelf
shelf stage draft files = record { stage = stage; draft = draft; files = files }
