-- Which jobs a list of words chooses, for the state of a queue and for a removal (RFC 1179, sections 5.3 to 5.5).
use Rattle.std.specs.Prelude.{ℕ, ◌==◌, ◌||◌, ◌&&◌, not, nat_le, Bool, List, [], ◌∷◌, filter, length, take, if◌then◌else◌, codes}
use Rattle.std.specs.List.{list_all, list_any}
use Rattle.std.specs.Str.{bytes_eq}
use Rattle.lpd_values.specs.Kinds.{is_digit}
use Rattle.lpd_values.specs.Digits.{count_of}
use Rattle.lpd_values.specs.Told.{Told, number_in, user_in}

-- what a word says

-- a word of digits alone
abbrev pub is_number_word : List ℕ → Bool
is_number_word word = list_all is_digit word

-- a word with its leading zeros dropped
abbrev pub without_zeros : List ℕ → List ℕ
without_zeros [] = []
without_zeros (d ∷ ds) = if d == 48 then without_zeros ds else d ∷ ds

-- the word names this job number: at most three digits are left once leading zeros are dropped
abbrev pub names_number : List ℕ → ℕ → Bool
names_number word n = is_number_word word && (nat_le (length (without_zeros word)) 3 && (count_of (without_zeros word) == n))

-- the agent is root
abbrev pub is_root : List ℕ → Bool
is_root agent = bytes_eq agent (codes "root")

-- one job

-- a job of this queue that is received and hasn't ended
abbrev pub is_listed : ℕ → Told → Bool
is_listed q t = (t.queue == q) && t.listed

-- a word chooses a job by its number, or by its user
abbrev pub chooses : Told → List ℕ → Bool
chooses t word = if is_number_word word then names_number word (number_in t.control) else bytes_eq (user_in t.control) word

-- an agent may remove its own jobs, and root may remove all
abbrev pub may_remove : List ℕ → Told → Bool
may_remove agent t = is_root agent || bytes_eq (user_in t.control) agent

-- for a removal a user's name counts only where the agent is root
abbrev pub picks : List ℕ → Told → List ℕ → Bool
picks agent t word = chooses t word && (is_number_word word || is_root agent)

-- the job is shown for the state of this queue: listed, and chosen by a word where there is any
abbrev pub is_shown : (queue : ℕ) → List (List ℕ) → Told → Bool
is_shown q [] t = is_listed q t
is_shown q (word ∷ words) t = is_listed q t && list_any (chooses t) (word ∷ words)

-- it is listed, and a place of it was handed out
abbrev pub is_active : (queue : ℕ) → Told → Bool
is_active q t = is_listed q t && not (t.handed == 0)

-- a removal by these words takes it: it is listed, the agent may remove it, and a word picks it
abbrev pub is_picked : (queue : ℕ) → List ℕ → List (List ℕ) → Told → Bool
is_picked q agent words t = is_listed q t && (may_remove agent t && list_any (picks agent t) words)

-- of some jobs, in order of acceptance, of which this is told
module _ {J : Type 0} (told : J → Told) where
  abbrev pub listed : (queue : ℕ) → List J → List J
  listed q jobs = filter (λ j. is_listed q (told j)) jobs

  abbrev pub shown : (queue : ℕ) → List (List ℕ) → List J → List J
  shown q list jobs = filter (λ j. is_shown q list (told j)) jobs

  -- the job that is being printed and was accepted first, alone
  abbrev pub active : (queue : ℕ) → List J → List J
  active q jobs = take 1 (filter (λ j. is_active q (told j)) jobs)

  abbrev pub picked : (queue : ℕ) → List ℕ → List (List ℕ) → List J → List J
  picked q agent words jobs = filter (λ j. is_picked q agent words (told j)) jobs

  -- for a removal: where the list is empty the active job, if the agent may remove it; else those that are picked
  abbrev pub chosen : (queue : ℕ) → List ℕ → List (List ℕ) → List J → List J
  chosen q agent [] jobs = filter (λ j. may_remove agent (told j)) (active q jobs)
  chosen q agent (word ∷ words) jobs = picked q agent (word ∷ words) jobs
