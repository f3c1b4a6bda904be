-- How a page is read: where the tokenizer of the HTML standard (section 13.2.5) is behind each character, as far as these pages go, and how many
-- elements are open there. A style sheet has no `<`, so that the raw text of its element is read as text is.
use Rattle.std.specs.Prelude.{◌≡◌, ℕ, ◌+◌, ◌-◌, Bool, List, [], ◌∷◌, ◌++◌, ◌==◌, codes, fold, if◌then◌else◌, length}
use Rattle.std.specs.List.{flat_map}
use Rattle.std.specs.Str.{bytes_eq}
use Rattle.html_page.specs.declared.tag.Tag.{Tag}
use Rattle.html_page.specs.Parts.{Fits, Part, part_chars}

-- in text; behind `<`; in the name of a start tag; in a start tag of a name, outside of values; in a value between its quotes; in an
-- end tag; in a declaration
pub data Place : Type 0 where
  Text : Place
  Opening : Place
  Naming : List ℕ → Place
  Inside : List ℕ → Place
  Value : List ℕ → Place
  Ending : Place
  Declaring : Place

-- a void element has no end tag (section 13.1.2): of them these pages have one
abbrev pub is_void : List ℕ → Bool
is_void name = bytes_eq name (codes "meta")

-- behind the start tag of an element of this name
abbrev pub behind_start : List ℕ → ℕ → Place × ℕ
behind_start name depth = if is_void name then (Text, depth) else (Text, depth + 1)

abbrev pub text_step : ℕ → ℕ → Place × ℕ
text_step depth c = if c == 60 then (Opening, depth) else (Text, depth)

abbrev pub opening_step : ℕ → ℕ → Place × ℕ
opening_step depth c =
    if c == 47 then (Ending, depth) else if c == 33 then (Declaring, depth) else (Naming (c ∷ []), depth)

abbrev pub naming_step : List ℕ → ℕ → ℕ → Place × ℕ
naming_step name depth c =
    if c == 32 then (Inside name, depth) else if c == 62 then behind_start name depth else (Naming (name ++ c ∷ []), depth)

abbrev pub inside_step : List ℕ → ℕ → ℕ → Place × ℕ
inside_step name depth c =
    if c == 34 then (Value name, depth) else if c == 62 then behind_start name depth else (Inside name, depth)

abbrev pub value_step : List ℕ → ℕ → ℕ → Place × ℕ
value_step name depth c = if c == 34 then (Inside name, depth) else (Value name, depth)

abbrev pub ending_step : ℕ → ℕ → Place × ℕ
ending_step depth c = if c == 62 then (Text, depth - 1) else (Ending, depth)

abbrev pub declaring_step : ℕ → ℕ → Place × ℕ
declaring_step depth c = if c == 62 then (Text, depth) else (Declaring, depth)

abbrev pub step_at : Place → ℕ → ℕ → Place × ℕ
step_at Text depth c = text_step depth c
step_at Opening depth c = opening_step depth c
step_at (Naming name) depth c = naming_step name depth c
step_at (Inside name) depth c = inside_step name depth c
step_at (Value name) depth c = value_step name depth c
step_at Ending depth c = ending_step depth c
step_at Declaring depth c = declaring_step depth c

abbrev pub step : Place × ℕ → ℕ → Place × ℕ
step at c = step_at at.0 at.1 c

-- where the tokenizer is behind these characters of a page
abbrev pub place_behind : List ℕ → Place × ℕ
place_behind cs = fold step (Text, 0) cs

-- the characters of a page that is made of these parts
abbrev pub page_chars : List Part → List ℕ
page_chars parts = codes "<!DOCTYPE html>" ++ flat_map part_chars parts

-- Behind parts that fit together the tokenizer is in text, as deep as elements are open: none of them is left half.
abbrev pub IsReadAsItsParts : List Part → List Tag → Type 0
IsReadAsItsParts parts opened = Fits [] parts opened → place_behind (page_chars parts) ≡ (Text, length opened)
