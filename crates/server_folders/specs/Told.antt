-- What is told of a job that waits in the folder.
use Rattle.std.specs.Prelude.{List, Some, map, true}
use Rattle.control_file.specs.View.{contents}
use Rattle.lpd_values.specs.Told.{Told, ToldFile}
use Rattle.server_folders.specs.declared.told.FiledFile.{FiledFile}
use Rattle.server_folders.specs.declared.told.WaitingJob.{WaitingJob}

-- of a data file its name and its length
abbrev pub told_file : FiledFile → ToldFile
told_file file = record { name = file.name; count = file.count }

-- Of a job that it is received, and that no place of it was handed to a printer.
abbrev pub told_waiting : WaitingJob → Told
told_waiting job =
    record { queue = job.queue; listed = true; control = Some (contents job.control); files = map told_file job.files.items; handed = 0; left = job.places }
