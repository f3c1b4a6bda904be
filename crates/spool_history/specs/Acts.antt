-- What the acts of one job say. The newest stands first.
use Rattle.std.specs.Prelude.{ℕ, ◌+◌, ◌==◌, Bool, true, false, ◌&&◌, not, List, [], ◌∷◌, ◌++◌, Option, Some, None, filter, map, is_some, if◌then◌else◌}
use Rattle.std.specs.List.{list_all, list_any, flat_map}
use Rattle.lpd_values.specs.Contents.{Contents}
use Rattle.std.specs.Str.{bytes_eq}
use Rattle.lpd_values.specs.Kept.{is_among}
use Rattle.lpd_values.specs.Told.{prints_in}
use Rattle.spool_history.specs.Events.{Act}
use Rattle.spool_history.specs.Events.Act.{Granted, Began, Put, FileEnded, Controlled, Aborted}

-- how many pages were lent to the job
abbrev pub granted_by : {C : Type 0} → List (Act C) → ℕ
granted_by [] = 0
granted_by (Granted ∷ acts) = granted_by acts + 1
granted_by (_ ∷ acts) = granted_by acts

-- a page is lent to it: granted, and neither put nor given back since
abbrev pub is_lent_by : {C : Type 0} → List (Act C) → Bool
is_lent_by [] = false
is_lent_by (Granted ∷ acts) = true
is_lent_by (Put file number page ∷ acts) = false
is_lent_by (Aborted ∷ acts) = false
is_lent_by (_ ∷ acts) = is_lent_by acts

-- a data file: its name, its length in octets, its pages in order, and whether it has ended
pub record File (C : Type 0) : Type 0 where
  pub name : List ℕ
  pub count : ℕ
  pub pages : List C
  pub ended : Bool

abbrev pub new_file : {C : Type 0} → List ℕ → ℕ → File C
new_file name count = record { name = name; count = count; pages = []; ended = false }

-- changes the last of a list
abbrev pub at_last : {A : Type 0} → (A → A) → List A → List A
at_last f [] = []
at_last f (x ∷ []) = f x ∷ []
at_last f (x ∷ y ∷ ys) = x ∷ at_last f (y ∷ ys)

-- its data files, in order of beginning
abbrev pub files_by : {C : Type 0} → List (Act C) → List (File C)
files_by [] = []
files_by (Began name count ∷ acts) = files_by acts ++ new_file name count ∷ []
files_by (Put file number page ∷ acts) = at_last (λ f. record f { pages = f.pages ++ page ∷ [] }) (files_by acts)
files_by (FileEnded file whole ∷ acts) = at_last (λ f. record f { ended = true }) (files_by acts)
files_by (_ ∷ acts) = files_by acts

-- its control file
abbrev pub control_by : {C : Type 0} → List (Act C) → Option Contents
control_by [] = None
control_by (Controlled control whole ∷ acts) = Some control
control_by (_ ∷ acts) = control_by acts

-- whether a file is open: the last that began hasn't ended
abbrev pub is_open_in : {C : Type 0} → List (File C) → Bool
is_open_in files = list_any (λ f. not f.ended) files

abbrev pub names_in : {C : Type 0} → List (File C) → List (List ℕ)
names_in files = map (λ f. f.name) files

-- a job is received once its control file is there, each file that it prints has ended, and none is open
abbrev pub is_whole : {C : Type 0} → Option Contents → List (File C) → Bool
is_whole control files =
    is_some control && (not (is_open_in files) && list_all (λ name. is_among name (names_in files)) (prints_in control))

-- a page with the number of its file and its own number in that
pub record Page (C : Type 0) : Type 0 where
  pub file : ℕ
  pub number : ℕ
  pub page : C

-- pages of a file, the first of which has this number
abbrev pub numbered : {C : Type 0} → ℕ → ℕ → List C → List (Page C)
numbered file n [] = []
numbered file n (page ∷ pages) = record { file = file; number = n; page = page } ∷ numbered file (n + 1) pages

-- the pages of the file of a name, where the first of these files has this number
abbrev pub pages_named : {C : Type 0} → List ℕ → ℕ → List (File C) → List (Page C)
pages_named name n [] = []
pages_named name n (f ∷ fs) = (if bytes_eq f.name name then numbered n 0 f.pages else []) ++ pages_named name (n + 1) fs

-- the pages of files, each once, where the first of these files has this number
abbrev pub all_pages : {C : Type 0} → ℕ → List (File C) → List (Page C)
all_pages n [] = []
all_pages n (f ∷ fs) = numbered n 0 f.pages ++ all_pages (n + 1) fs

-- whether two are the same page of a job
abbrev pub is_same_page : {C : Type 0} → Page C → Page C → Bool
is_same_page p q = (p.file == q.file) && (p.number == q.number)

-- those of these pages of which a place stands in the list
abbrev pub pages_among : {C : Type 0} → List (Page C) → List (Page C) → List (Page C)
pages_among places pages = filter (λ page. list_any (is_same_page page) places) pages

-- the places of a job: for each name that it prints, the pages of that file, one after the other; a name that is printed
-- again adds its pages again
abbrev pub places_in : {C : Type 0} → Option Contents → List (File C) → List (Page C)
places_in control files = flat_map (λ name. pages_named name 0 files) (prints_in control)
