-- The files of a folder in memory.
use Rattle.std.specs.Prelude.{List, [], ◌∷◌}
use Rattle.printer_sinks.specs.declared.memory_folder.MemoryFile.{MemoryFile}
use Rattle.printer_sinks.specs.Files.{File}

abbrev pub memory_files : List MemoryFile → List File
memory_files [] = []
memory_files (file ∷ files) = record { number = file.number; octets = file.octets.items } ∷ memory_files files
