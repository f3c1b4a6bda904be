-- What `check` prints: what spool a configuration is for, how many jobs fit into the account, and what printers print to.
use Rattle.std.specs.Borrow.{Bor}
use Rattle.std.specs.Prelude.{◌++◌, Bool, ℕ, List, Option, Some, None, codes, if◌then◌else◌, length}
use Rattle.std.specs.Fmt.{decimal}
use Rattle.config_values.specs.Config as C
use Rattle.word_actions.specs.Places.{place_lines}
use Rattle.word_actions.specs.Sizes.{size_lines}
use Rattle.program_edge.specs.declared.places.PlacedPrinter.{PlacedPrinter}

abbrev pub summary_line : (pages page_size queues printers : ℕ) → List ℕ
summary_line pages page_size queues printers =
    codes "ok pages " ++ decimal pages ++ codes " page_size " ++ decimal page_size
    ++ codes " queues " ++ decimal queues ++ codes " printers " ++ decimal printers ++ codes "\n"

abbrev pub summary_text : C.Config → List ℕ
summary_text c = summary_line c.pages c.page_size (length c.queues) (C.printer_count c)

-- the line of the spool, and where sizes are asked for, one for each queue
abbrev pub spool_text : C.Config → Bool → List ℕ
spool_text c sizes =
    if sizes then summary_text c ++ size_lines c (length c.queues) else summary_text c

-- the same, and where anything is said of printers, a line for each printer; the others' files are in this directory
abbrev pub check_text : C.Config → Bool → List ℕ → List PlacedPrinter → List ℕ
check_text c sizes out printers = spool_text c sizes ++ place_lines c out printers

-- the directory that is named, if one is
abbrev pub out_of : Option (Bor (List ℕ)) → List ℕ
out_of None = codes "DIR"
out_of (Some directory) = directory.now
