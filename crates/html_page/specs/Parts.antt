-- What a page is made of: tags, which the elements that are open determine, and texts, in which nothing is markup.
use Rattle.std.specs.Prelude.{◌≡◌, ℕ, ◌==◌, List, [], ◌∷◌, ◌++◌, codes, not}
use Rattle.std.specs.List.{filter, flat_map}
use Rattle.std.specs.Str.{chars, encode_utf8_all}
use Rattle.html_text.specs.declared.form.Form.TheVariants.{Html}
use Rattle.html_text.specs.Written.{written}
use Rattle.html_page.specs.declared.attribute.Attribute.{Attribute}
use Rattle.html_page.specs.declared.attribute_name.AttributeName.{AttributeName}
use Rattle.html_page.specs.declared.tag.Tag.{Tag}
use Rattle.html_page.specs.Names.{attribute_name, tag_name}

-- a part of a page; texts and values are the characters that they are read as
pub data Part : Type 0 where
  Start : Tag → List (AttributeName × List ℕ) → Part
  End : Tag → Part
  Meta : List (AttributeName × List ℕ) → Part
  Sheet : List ℕ → Part
  Words : List ℕ → Part
  LineEnd : Part

-- a space, the name, and the value in quotes
abbrev pub attribute_chars : AttributeName × List ℕ → List ℕ
attribute_chars a = codes " " ++ attribute_name a.0 ++ codes "=\"" ++ written Html a.1 ++ codes "\""

-- characters of which none begins a tag
abbrev pub plain_chars : List ℕ → List ℕ
plain_chars cs = filter (λ c. not (c == 60)) cs

-- a style sheet
abbrev pub sheet_chars : List ℕ → List ℕ
sheet_chars cs = codes "<style>" ++ plain_chars cs ++ codes "</style>"

abbrev pub part_chars : Part → List ℕ
part_chars (Start tag attributes) = codes "<" ++ tag_name tag ++ flat_map attribute_chars attributes ++ codes ">"
part_chars (End tag) = codes "</" ++ tag_name tag ++ codes ">"
part_chars (Meta attributes) = codes "<meta" ++ flat_map attribute_chars attributes ++ codes ">"
part_chars (Sheet cs) = sheet_chars cs
part_chars (Words cs) = written Html cs
part_chars LineEnd = 10 ∷ []

-- as octets
abbrev pub part_octets : Part → List ℕ
part_octets part = encode_utf8_all (part_chars part)

-- The parts fit together, from where these elements are open to where those are, outermost first: an end tag is that of the element that
-- was opened last, and is still open.
abbrev pub Fits : List Tag → List Part → List Tag → Type 0
Fits opened [] after = opened ≡ after
Fits opened (Start tag attributes ∷ parts) after = Fits (opened ++ tag ∷ []) parts after
Fits opened (End tag ∷ parts) after = (outer : List Tag) × (opened ≡ outer ++ tag ∷ []) × Fits outer parts after
Fits opened (Meta attributes ∷ parts) after = Fits opened parts after
Fits opened (Sheet cs ∷ parts) after = Fits opened parts after
Fits opened (Words cs ∷ parts) after = Fits opened parts after
Fits opened (LineEnd ∷ parts) after = Fits opened parts after

-- the octets of a page that is made of these parts, behind the words that say that it is HTML
abbrev pub page_octets : List Part → List ℕ
page_octets parts = encode_utf8_all (codes "<!DOCTYPE html>" ++ flat_map part_chars parts)

-- octets with which a page begins that has these elements open, outermost first
abbrev pub Begins : List Tag → List ℕ → Type 0
Begins opened octets = (parts : List Part) × Fits [] parts opened × (octets ≡ page_octets parts)

-- a whole page: each element that was opened is closed
abbrev pub IsPage : List ℕ → Type 0
IsPage octets = Begins [] octets

-- an attribute as a part has it
abbrev pub told : Attribute → AttributeName × List ℕ
told a = (a.name, chars a.value.now)

-- and as octets
abbrev pub told_octets : Attribute → List ℕ
told_octets a = encode_utf8_all (attribute_chars (told a))
