-- How the files of a job are named.
use Rattle.std.specs.Prelude.{◌≡◌, ◌==◌, ◌&&◌, ◌||◌, ℕ, Bool, slice_index, List, [], ◌∷◌, ◌++◌}
use Rattle.std.specs.Prelude.{◌+◌, ◌-◌, if◌then◌else◌, nat_lt, length, zero, suc}
use Rattle.lpd_values.specs.Contents.{Contents}
use Rattle.lpd_values.specs.Kinds.{is_letter}
use Rattle.lpd_values.specs.Texts.{three_digits}
use Rattle.control_file.specs.View.{contents}
use Rattle.program_words.specs.declared.words.Sending.{Sending}
use Rattle.program_words.specs.declared.envelope.Envelope.{Envelope}

-- the letters A to Z, then a to z
abbrev pub letter_of : ℕ → ℕ
letter_of place = if nat_lt place 26 then 65 + place else 97 + (place - 26)

-- how the name of a file begins: c or d, then f, then a letter
abbrev pub is_head : List ℕ → Bool
is_head head =
    (slice_index head 0 == 99 || slice_index head 0 == 100)
    && (slice_index head 1 == 102 && is_letter (slice_index head 2))

-- the name with this head, of a job of this number and host
abbrev pub file_name : List ℕ → ℕ → List ℕ → List ℕ
file_name head number host = head ++ (three_digits number ++ host)

-- 100 is d and 102 is f
abbrev pub data_name : ℕ → List ℕ → ℕ → List ℕ
data_name number host place = file_name (100 ∷ 102 ∷ letter_of place ∷ []) number host

-- the names of so many data files, in order
abbrev pub data_names : ℕ → ℕ → List ℕ → List (List ℕ)
data_names zero number host = []
data_names (suc n) number host = data_names n number host ++ data_name number host n ∷ []

-- what the control file of a job says
abbrev pub said_of : Sending → Contents
said_of s = record {
  host = s.host.now;
  user = s.user.now;
  number = s.number;
  prints = data_names (length s.files.items) s.number s.host.now;
}

-- 99 is c and 65 is A
pub record IsEnvelope (s : Sending) (e : Envelope) : Type 0 where
  pub queue : e.queue ≡ s.queue.now
  pub name : e.name ≡ file_name (99 ∷ 102 ∷ 65 ∷ []) s.number s.host.now
  pub control : contents e.control ≡ said_of s
