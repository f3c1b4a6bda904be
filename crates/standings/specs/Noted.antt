-- What is noted at the edge of a server.
use Rattle.std.specs.Prelude.{ℕ, Bool, false, List, ◌∷◌, Option, Some, None, slice_index_or}
use Rattle.standings.specs.declared.noted.PrinterNotes.{PrinterNotes}
use Rattle.standings.specs.declared.noted.SeenTrouble.{SeenTrouble}

-- whether the queue of a number is held, where these are in the order of their numbers, from 1
abbrev pub is_held : List Bool → (queue : ℕ) → Bool
is_held held queue = slice_index_or (false ∷ held) queue false

-- the fault by which a printer was stopped, where it is noted
abbrev pub stop_in : Option PrinterNotes → Option SeenTrouble
stop_in None = None
stop_in (Some notes) = notes.stop

-- why nothing of the page at a printer goes, where it is noted
abbrev pub unreached_in : Option PrinterNotes → Option SeenTrouble
unreached_in None = None
unreached_in (Some notes) = notes.unreached
