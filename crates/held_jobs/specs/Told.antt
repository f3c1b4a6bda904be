-- What is told of a held job, in the state of its queue and in a removal.
use Rattle.std.specs.Prelude.{ℕ, ◌+◌, ◌-◌, List, [], ◌∷◌, map, if◌then◌else◌}
use Rattle.std.specs.Str.{bytes_eq}
use Rattle.lpd_values.specs.Told.{Told, ToldFile, prints_in}
use Rattle.held_jobs.specs.declared.file.DataFile.{DataFile}
use Rattle.held_jobs.specs.Jobs.{Facts}
use Rattle.held_jobs.specs.Turns.{is_received}

-- how many pages the files of a name have
abbrev pub pages_named : List ℕ → List DataFile → ℕ
pages_named name [] = 0
pages_named name (f ∷ fs) = (if bytes_eq f.name name then f.pages else 0) + pages_named name fs

-- how many places a print list has: the pages of each file that it names, as often as it names it
abbrev pub places_of : List (List ℕ) → List DataFile → ℕ
places_of [] files = 0
places_of (name ∷ names) files = pages_named name files + places_of names files

-- how many of a job's places were not handed out
abbrev pub places_left : Facts → ℕ
places_left j = places_of (prints_in j.control) j.files - j.handed

abbrev pub told_file : DataFile → ToldFile
told_file f = record { name = f.name; count = f.count }

abbrev pub told_in : Facts → Told
told_in j = record {
  queue = j.queue;
  listed = is_received j.phase;
  control = j.control;
  files = map told_file j.files;
  handed = j.handed;
  left = places_left j;
}
