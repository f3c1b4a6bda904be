-- How many descriptors a server takes.
use Rattle.std.specs.Prelude.{ℕ, ◌+◌, ◌*◌, ◌++◌, Bool, List, codes, if◌then◌else◌}
use Rattle.std.specs.Fmt.{decimal}
use Rattle.server_start.specs.declared.descriptors.Takers.{Takers}
use Rattle.server_start.specs.declared.descriptors.TooFew.{TooFew}

-- so many where that is there
abbrev pub if_there : Bool → ℕ → ℕ
if_there is_there n = if is_there then n else 0

-- those that are kept for others than connections that wait
abbrev pub kept : Takers → ℕ
kept it =
    64 + it.printers + 2 * it.sessions + if_there it.is_watched (it.printers + 80) + if_there it.are_kept (it.sessions + 8)
    + if_there it.is_shown 208

-- beside what is open: one for each printer, two for a connection, two for a job's file and its folder, and one for each other thing that is there
abbrev pub least_free : Takers → ℕ
least_free it =
    2 + it.printers + if_there it.are_kept 2 + if_there it.is_archived 1 + if_there it.is_watched 1 + if_there it.is_shown 1

-- what is told where these are too few
abbrev pub too_few_text : TooFew → List ℕ
too_few_text it = decimal it.limit ++ (codes " descriptors are too few: it takes " ++ decimal it.least)
