-- What a configuration says that its printers print to: the texts at `places` in the tables of its queues.
use Rattle.std.specs.Prelude.{◌≡◌, ℕ, ◌+◌, List, [], ◌∷◌, ◌++◌, Option, Some, None, is_some, Result, Ok, Err, codes, length, nat_le, string_bytes, if◌then◌else◌}
use Rattle.std.specs.List.{list_all}
use Rattle.std.specs.Option.{option_and_then}
use Rattle.toml.specs.Data.{Data, Members, as_str, as_table, get_member}
use Rattle.spool_config.specs.Answers.{document_of}
use Rattle.spool_config.specs.Faults.{queue_rows, rows_of}
use Rattle.spool_config.specs.declared.places.PlacesFault.{PlacesFault}
use Rattle.spool_config.specs.declared.places.PlacesFault.TheVariants.{Memory, NotToml, OutOfRange, WrongType}
use Rattle.spool_config.specs.declared.places.ToldPlace.{ToldPlace}

-- the number of a queue, which of its printers, and what that prints to
abbrev pub told_view : ToldPlace → ℕ × ℕ × List ℕ
told_view told = (told.queue, told.nth, string_bytes told.text)

-- what stands at `places` in the row of a queue
abbrev pub places_in : Data → Option Data
places_in row = option_and_then (get_member (codes "places")) (as_table row)

-- the elements of an array, of which each is to be a text, and there are to be no more than a queue may have printers
abbrev pub array_texts : Option (List Data) → Result (List Data) PlacesFault
array_texts None = Err WrongType
array_texts (Some values) =
    if list_all (λ value. is_some (as_str value)) values
    then (if nat_le (length values) 16 then Ok values else Err OutOfRange)
    else Err WrongType

-- of what stands at `places`; where nothing does, nothing is said
abbrev pub value_texts : Option Data → Result (List Data) PlacesFault
value_texts None = Ok []
value_texts (Some value) = array_texts (rows_of value)

-- the text of an element is for this printer of the queue
abbrev pub text_told : (queue nth : ℕ) → Option (List ℕ) → List (ℕ × ℕ × List ℕ)
text_told queue nth None = []
text_told queue nth (Some text) = (queue, nth, text) ∷ []

-- the first of these elements is for this printer of the queue, the next for the next one
abbrev pub texts_told : (queue nth : ℕ) → List Data → List (ℕ × ℕ × List ℕ)
texts_told queue nth [] = []
texts_told queue nth (value ∷ values) = text_told queue nth (as_str value) ++ texts_told queue (nth + 1) values

-- what a queue's texts tell, before what those behind it tell
abbrev pub before_rest : ℕ → Result (List Data) PlacesFault → Result (List (ℕ × ℕ × List ℕ)) PlacesFault → Result (List (ℕ × ℕ × List ℕ)) PlacesFault
before_rest queue (Err fault) rest = Err fault
before_rest queue (Ok values) (Err fault) = Err fault
before_rest queue (Ok values) (Ok more) = Ok (texts_told queue 1 values ++ more)

-- what rows tell, of which the first is that of the queue of this number; or the first fault
abbrev pub rows_told : ℕ → List Data → Result (List (ℕ × ℕ × List ℕ)) PlacesFault
rows_told queue [] = Ok []
rows_told queue (row ∷ rows) = before_rest queue (value_texts (places_in row)) (rows_told (queue + 1) rows)

-- this is told, behind what was told before
abbrev pub IsToldBehind : Result (List (ℕ × ℕ × List ℕ)) PlacesFault → (old new : List (ℕ × ℕ × List ℕ)) → Type 0
IsToldBehind told old new = (more : List (ℕ × ℕ × List ℕ)) × (told ≡ Ok more) × (new ≡ old ++ more)

abbrev pub document_told : Option Members → Result (List (ℕ × ℕ × List ℕ)) PlacesFault
document_told None = Err NotToml
document_told (Some document) =
    if nat_le (length (queue_rows document)) 64 then rows_told 1 (queue_rows document) else Err OutOfRange

-- what the text of a configuration says that its printers print to, or why it doesn't
abbrev pub places_told : List ℕ → Result (List (ℕ × ℕ × List ℕ)) PlacesFault
places_told text = document_told (document_of text)

abbrev pub places_words : PlacesFault → List ℕ
places_words NotToml = codes "fault 50 NotToml"
places_words WrongType = codes "fault 52 WrongType queue.places"
places_words OutOfRange = codes "fault 53 OutOfRange queue.places"
places_words Memory = codes "fault 12 Memory"
