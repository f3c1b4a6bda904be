-- What a world keeps in its fields.
use Rattle.std.specs.Prelude.{◌≡◌, length}
use Rattle.config_values.specs.Config.{printer_count}
use Rattle.spool_world.specs.Worlds.{Worlds}
use Rattle.spool_world.specs.declared.world.World.TheInside.{Inside}

abbrev pub world_view : Inside → Worlds
world_view a = record { core = a.core; connections = a.connections.items; pages = a.pages.items }

-- there is a place for the page of each printer
abbrev pub IsWorld : Inside → Type 0
IsWorld a = length a.pages.items ≡ printer_count a.core.config
