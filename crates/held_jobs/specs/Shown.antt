-- A held job whose pages are replaced by what a function says of them.
use Rattle.std.specs.Prelude.{ℕ, Bool, Option, Some, None, List, map}
use Rattle.page_pool.specs.Page.{Page}
use Rattle.page_chain.specs.declared.place.Place.{Place}
use Rattle.page_chain.specs.Files as F
use Rattle.page_chain.specs.Files.{Files, no_place, numbered}
use Rattle.held_jobs.specs.Jobs.{Facts, HeldJob}

-- a file: the octets of its name, and its pages by number, with None for one that isn't there
pub record File (C : Type 0) : Type 0 where
  pub name : List ℕ
  pub pages : List (Option C)

-- the files of a job, and whether the last of them is open; the places that are still to be handed out, in print order; the
-- place that was handed out last
pub record Shelf (C : Type 0) : Type 0 where
  pub files : List (File C)
  pub is_open : Bool
  pub places : List Place
  pub last : Option Place

pub record ShownJob (C : Type 0) : Type 0 where
  pub facts : Facts
  pub shelf : Shelf C

abbrev pub see_page : {A B : Type 0} → (A → B) → Option A → Option B
see_page f None = None
see_page f (Some page) = Some (f page)

abbrev pub see_file : {C : Type 0} → (Page → C) → F.File → File C
see_file {C} f file = record { name = file.name; pages = map {A = Option Page} {B = Option C} (see_page f) file.pages }

abbrev pub see_files : {C : Type 0} → (Page → C) → Files → Shelf C
see_files {C} f v = record {
  files = map {A = F.File} {B = File C} (see_file f) v.files;
  is_open = v.is_open;
  places = v.places;
  last = v.last;
}

abbrev pub see_job : {C : Type 0} → (Page → C) → HeldJob → ShownJob C
see_job f j = record { facts = j.facts; shelf = see_files f j.chain }
