-- The texts that answer a question for a queue's state and a removal (RFC 1179, sections 5.3 to 5.5).
use Rattle.std.specs.Prelude.{ℕ, ◌+◌, ◌/◌, ◌%◌, ◌==◌, Bool, List, [], ◌∷◌, ◌++◌, length, if◌then◌else◌, codes}
use Rattle.std.specs.List.{flat_map}
use Rattle.std.specs.Fmt.{decimal}
use Rattle.std.specs.Str.{bytes_eq}
use Rattle.lpd_values.specs.Told.{Told, ToldFile, number_in, user_in, host_in, prints_in}
use Rattle.lpd_values.specs.Choice.{chosen, listed, shown}

-- queue NAME jobs N printers P stopped S: so many jobs of a queue are listed, so many printers serve it, and so many of
-- them are stopped
abbrev pub queue_line : List ℕ → (jobs printers stopped : ℕ) → List ℕ
queue_line name jobs printers stopped =
    codes "queue " ++ name ++ codes " jobs " ++ decimal jobs ++ codes " printers " ++ decimal printers ++ codes " stopped " ++ decimal stopped ++ 10 ∷ []

-- one job

-- a job number in three digits
abbrev pub three_digits : ℕ → List ℕ
three_digits n = (48 + n / 100) ∷ (48 + n / 10 % 10) ∷ (48 + n % 10) ∷ []

-- whether a job is begun, of which so many places were handed out
abbrev pub stage_word : ℕ → List ℕ
stage_word handed = if handed == 0 then codes "waiting " else codes "active "

-- active NNN USER HOST pages K, or waiting for a job that isn't begun; K is how many places weren't handed out
abbrev pub job_line : Told → List ℕ
job_line t =
    stage_word t.handed ++ three_digits (number_in t.control) ++ codes " " ++ user_in t.control ++ codes " " ++ host_in t.control
    ++ codes " pages " ++ decimal t.left ++ 10 ∷ []

-- the line of a file, where it has this name: the name, and its length in octets
abbrev pub file_line : List ℕ → ToldFile → List ℕ
file_line name f = if bytes_eq f.name name then codes "  " ++ f.name ++ codes " " ++ decimal f.count ++ 10 ∷ [] else []

-- the lines of the files of a name
abbrev pub file_lines : List ℕ → List ToldFile → List ℕ
file_lines name files = flat_map (file_line name) files

-- in the long form a line for each file of the print list
abbrev pub job_lines : Bool → Told → List ℕ
job_lines long t = job_line t ++ (if long then flat_map (λ name. file_lines name t.files) (prints_in t.control) else [])

-- the line of a job that was removed
abbrev pub removed_line : Told → List ℕ
removed_line t = codes "removed " ++ three_digits (number_in t.control) ++ codes " " ++ user_in t.control ++ 10 ∷ []

-- of some jobs, in order of acceptance, of which this is told
module _ {J : Type 0} (told : J → Told) where
  -- the lines of the jobs of a queue that a list chooses
  abbrev pub listing : (queue : ℕ) → List (List ℕ) → Bool → List J → List ℕ
  listing q list long jobs = flat_map (λ j. job_lines long (told j)) (shown told q list jobs)

  -- the line of the queue of this name, and then the lines of the jobs that the list chooses
  abbrev pub state_text : (queue : ℕ) → List ℕ → (printers stopped : ℕ) → List (List ℕ) → Bool → List J → List ℕ
  state_text q name printers stopped list long jobs =
      queue_line name (length (listed told q jobs)) printers stopped ++ listing q list long jobs

  -- a line for each of these jobs
  abbrev pub removed_lines : List J → List ℕ
  removed_lines jobs = flat_map (λ j. removed_line (told j)) jobs

  abbrev pub or_nothing : List J → List ℕ
  or_nothing [] = codes "nothing removed" ++ 10 ∷ []
  or_nothing (j ∷ js) = removed_lines (j ∷ js)

  -- a line for each removed job, or that nothing was removed
  abbrev pub removal_text : (queue : ℕ) → List ℕ → List (List ℕ) → List J → List ℕ
  removal_text q agent list jobs = or_nothing (chosen told q agent list jobs)
