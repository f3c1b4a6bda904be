-- What the printers of a configuration print to, as its texts and the words of a command line say it.
use Rattle.std.specs.Prelude.{◌≡◌, ◌≢◌, ◌<◌, ◌==◌, ◌++◌, ◌∷◌, Bool, ℕ, true, List, Ok, Err, codes, length}
use Rattle.std.specs.List.{AllPairs, AllZip, list_any}
use Rattle.config_values.specs.Config as C
use Rattle.program_edge.specs.Places.{IsPlaceText}
use Rattle.program_edge.specs.declared.places.PlacedPrinter.{PlacedPrinter}
use Rattle.printer_names.specs.Names.{IsNthOf, Means}
use Rattle.printer_names.specs.Texts.{named_text}
use Rattle.printer_names.specs.declared.fault.PlacingFault.{PlacingFault}
use Rattle.printer_names.specs.declared.fault.PlacingFault.TheVariants.{Ambiguous, Memory, OutOfRange, Twice, Unknown}
use Rattle.printer_names.specs.declared.named.NamedPrinter.{NamedPrinter}
use Rattle.printer_names.specs.declared.resolving.NameFault.TheVariants as name

-- a text of the configuration is for this printer, and says what it prints to
abbrev pub IsTold : C.Config → ℕ × ℕ × List ℕ → PlacedPrinter → Type 0
IsTold c told placed = IsNthOf c told.0 told.1 placed.printer × IsPlaceText told.2 placed.place

-- a word is for this printer, and says what it prints to
abbrev pub IsSaid : C.Config → NamedPrinter → PlacedPrinter → Type 0
IsSaid c said placed = Means c said.name.now (Ok placed.printer) × (placed.place ≡ said.place)

-- whether one of these is for this printer
abbrev pub is_placed : List PlacedPrinter → (printer : ℕ) → Bool
is_placed printers printer = list_any (λ (placed : PlacedPrinter). placed.printer == printer) printers

-- no two of these are for one printer
abbrev pub AreOfDifferentPrinters : List PlacedPrinter → Type 0
AreOfDifferentPrinters printers =
    AllPairs (λ (one other : PlacedPrinter). one.printer ≢ other.printer) printers

-- the texts' printers, then the words', each once
pub record ArePlaced (c : C.Config) (told : List (ℕ × ℕ × List ℕ)) (said : List NamedPrinter) (printers : List PlacedPrinter) : Type 0 where
  pub from_texts : List PlacedPrinter
  pub from_words : List PlacedPrinter
  pub parts : printers ≡ from_texts ++ from_words
  pub texts : AllZip (IsTold c) told from_texts
  pub words : AllZip (IsSaid c) said from_words
  pub once : AreOfDifferentPrinters printers

-- why the name of this word means no printer
abbrev pub IsUnnamed : C.Config → NamedPrinter → PlacingFault → Type 0
IsUnnamed c said (Unknown other) = (other ≡ said) × Means c said.name.now (Err name.Unknown)
IsUnnamed c said (Ambiguous other) = (other ≡ said) × Means c said.name.now (Err name.Ambiguous)
IsUnnamed c said (Twice other) = ⊥
IsUnnamed c said OutOfRange = ⊥
IsUnnamed c said Memory = ⊥

-- what texts say can't be had: one says nothing of a printer, or two are for one
abbrev pub AreUnplaced : C.Config → List (ℕ × ℕ × List ℕ) → Type 0
AreUnplaced c told = (printers : List PlacedPrinter) → AllZip (IsTold c) told printers → AreOfDifferentPrinters printers → ⊥

-- why the texts of a configuration can't be placed
abbrev pub IsOfTexts : C.Config → List (ℕ × ℕ × List ℕ) → PlacingFault → Type 0
IsOfTexts c told OutOfRange = AreUnplaced c told
IsOfTexts c told Memory = Unit {0}
IsOfTexts c told fault = ⊥

-- the first word at fault: the texts and the words before it are placed, and this is so of it and of the printers that have a place then
pub record IsFirstAtFault (c : C.Config) (told : List (ℕ × ℕ × List ℕ)) (said : List NamedPrinter) (word : NamedPrinter) (IsWhy : List PlacedPrinter → Type 0) : Type 0 where
  pub before : List NamedPrinter
  pub behind : List NamedPrinter
  pub parts : said ≡ before ++ word ∷ behind
  pub printers : List PlacedPrinter
  pub placed : ArePlaced c told before printers
  pub why : IsWhy printers

-- the printer that a word is for is one of these
abbrev pub IsTaken : C.Config → NamedPrinter → List PlacedPrinter → Type 0
IsTaken c word printers =
    (one : PlacedPrinter) × IsSaid c word one × (list_any (λ (other : PlacedPrinter). other.printer == one.printer) printers ≡ true)

-- Why texts and words can't be placed: each but for memory exactly where it is so. A word's fault comes only where there are words.
abbrev pub IsPlacingFault : C.Config → List (ℕ × ℕ × List ℕ) → List NamedPrinter → PlacingFault → Type 0
IsPlacingFault c told said (Unknown word) = (0 < length said) × IsFirstAtFault c told said word (λ _. Means c word.name.now (Err name.Unknown))
IsPlacingFault c told said (Ambiguous word) = (0 < length said) × IsFirstAtFault c told said word (λ _. Means c word.name.now (Err name.Ambiguous))
IsPlacingFault c told said (Twice word) = (0 < length said) × IsFirstAtFault c told said word (IsTaken c word)
IsPlacingFault c told said OutOfRange = AreUnplaced c told
IsPlacingFault c told said Memory = Unit {0}

-- the line that tells it
abbrev pub placing_words : PlacingFault → List ℕ
placing_words OutOfRange = codes "fault 53 OutOfRange queue.places"
placing_words (Unknown said) = codes "printer " ++ said.name.now ++ codes " isn't there: " ++ named_text said
placing_words (Ambiguous said) = codes "printer " ++ said.name.now ++ codes " may be one of two: " ++ named_text said
placing_words (Twice said) = codes "'" ++ named_text said ++ codes "' is a second PLACE for its printer"
placing_words Memory = codes "fault 12 Memory"
