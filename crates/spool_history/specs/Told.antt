-- What is told of a held job, in the state of its queue and in a removal.
use Rattle.std.specs.Prelude.{◌-◌, ◌&&◌, not, length, map}
use Rattle.lpd_values.specs.Told.{Told, ToldFile}
use Rattle.spool_history.specs.Acts.{File}
use Rattle.spool_history.specs.Now.{Job, is_received, places}

abbrev pub told_file : {C : Type 0} → File C → ToldFile
told_file f = record { name = f.name; count = f.count }

abbrev pub told_of : {C : Type 0} → Job C → Told
told_of v = record {
  queue = v.queue;
  listed = is_received v && not v.ended;
  control = v.control;
  files = map told_file v.files;
  handed = v.handed;
  left = length (places v) - v.handed;
}
