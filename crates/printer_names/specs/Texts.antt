-- What a text says of a printer: a name, and what the printer prints to.
use Rattle.std.specs.Prelude.{◌≡◌, ◌<◌, ◌++◌, ℕ, Bool, true, List, codes, length}
use Rattle.std.specs.List.{after_first, before_first, list_all}
use Rattle.lpd_values.specs.Kinds.{is_digit}
use Rattle.program_edge.specs.Numerals.{IsPlainNumber}
use Rattle.program_edge.specs.Places.{IsPlaceText, is_equals_sign, place_text}
use Rattle.printer_names.specs.declared.named.NamedPrinter.{NamedPrinter}

abbrev pub is_digits : List ℕ → Bool
is_digits name = list_all is_digit name

-- a name that may be a printer's: digits alone are a number above 0
pub record IsName (name : List ℕ) : Type 0 where
  pub some : 0 < length name
  pub number : is_digits name ≡ true → (k : ℕ) × IsPlainNumber name k × (0 < k)

-- a name before the first equals sign, and a place behind it
pub record IsNamedText (text : List ℕ) (said : NamedPrinter) : Type 0 where
  pub before : said.name.now ≡ before_first is_equals_sign text
  pub name : IsName said.name.now
  pub place : IsPlaceText (after_first is_equals_sign text) said.place

-- a printer and its place, as texts say it
abbrev pub named_text : NamedPrinter → List ℕ
named_text said = said.name.now ++ codes "=" ++ place_text said.place
