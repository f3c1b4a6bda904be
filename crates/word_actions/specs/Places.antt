-- What the printers of a configuration print to.
use Rattle.std.specs.Prelude.{◌≡◌, ◌==◌, ◌<◌, ◌++◌, ◌∷◌, ℕ, List, [], Option, Some, None, codes, length, option_map, zero, suc}
use Rattle.std.specs.Fmt.{decimal}
use Rattle.std.specs.List.{find}
use Rattle.config_values.specs.Config as C
use Rattle.printer_names.specs.declared.named.NamedPrinter.{NamedPrinter}
use Rattle.spool_config.specs.declared.places.PlacesFault.TheVariants.{OutOfRange}
use Rattle.word_actions.specs.declared.fault.ActionFault.{ActionFault}
use Rattle.word_actions.specs.declared.fault.ActionFault.TheVariants.{Memory, Places, Printer}
use Rattle.program_edge.specs.Places.{place_text}
use Rattle.program_edge.specs.declared.places.PrinterPlace.{PrinterPlace}
use Rattle.program_edge.specs.declared.places.PlacedPrinter.{PlacedPrinter}

-- why it can't be said: of a word, of the configuration, or memory was refused
abbrev pub IsUnplaced : List NamedPrinter → ActionFault → Type 0
IsUnplaced said (Printer text) = 0 < length said
IsUnplaced said (Places fault) = fault ≡ OutOfRange
IsUnplaced said Memory = Unit {0}
IsUnplaced said fault = ⊥

-- what a printer prints to, if it is said
abbrev pub place_of : List PlacedPrinter → ℕ → Option PrinterPlace
place_of printers number =
    option_map (λ (said : PlacedPrinter). said.place) (find (λ (said : PlacedPrinter). said.printer == number) printers)

-- its place, or its file in this directory
abbrev pub shown_place : List ℕ → ℕ → Option PrinterPlace → List ℕ
shown_place out number (Some place) = place_text place
shown_place out number None = out ++ codes "/printer-" ++ decimal number

-- a printer, the queue that it serves, and what it prints to
abbrev pub printer_line : C.Config → List ℕ → List PlacedPrinter → ℕ → List ℕ
printer_line c out printers number =
    codes "printer " ++ decimal number ++ codes " " ++ (C.queue_at c (C.queue_of c number)).name ++ codes " "
    ++ shown_place out number (place_of printers number)

-- a line for each of the first so many printers
abbrev pub printer_lines : C.Config → List ℕ → List PlacedPrinter → ℕ → List ℕ
printer_lines c out printers zero = []
printer_lines c out printers (suc n) =
    printer_lines c out printers n ++ (printer_line c out printers (suc n) ++ 10 ∷ [])

-- these lines, where anything is said of printers
abbrev pub place_lines : C.Config → List ℕ → List PlacedPrinter → List ℕ
place_lines c out [] = []
place_lines c out (said ∷ printers) = printer_lines c out (said ∷ printers) (C.printer_count c)
