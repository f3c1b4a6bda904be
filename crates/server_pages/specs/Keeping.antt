-- How a job ends for the folder that keeps it.
use Rattle.std.specs.Prelude.{Bool, true, false, Option, Some, None}
use Rattle.job_files.specs.declared.table.JobEnd.{JobEnd}
use Rattle.job_files.specs.declared.table.JobEnd.TheVariants as end
use Rattle.printer_worker.specs.declared.leaving.Leaving.{Leaving}
use Rattle.printer_worker.specs.declared.leaving.Leaving.TheVariants.{Done, Failed, Ended, Closed}

-- a job that a printer has left so is done or has failed, or others end it; what was printed and isn't where it should be has failed
abbrev pub end_of : Leaving → (is_there : Bool) → Option JobEnd
end_of Done true = Some end.Done
end_of Done false = Some end.Failed
end_of Failed is_there = Some end.Failed
end_of Ended is_there = None
end_of Closed is_there = None
