-- The connections of a printer in memory.
use Rattle.std.specs.Prelude.{List, [], ◌∷◌}
use Rattle.printer_sinks.specs.declared.memory_dial.MemoryConnection.{MemoryConnection}
use Rattle.printer_sinks.specs.Connections.{Connection}

abbrev pub memory_connections : List MemoryConnection → List Connection
memory_connections [] = []
memory_connections (connection ∷ connections) = record { job = connection.job; took = connection.took.items } ∷ memory_connections connections
