use Rattle.std.proofs.Common.{◌≡◌, ◌++◌, true, List, drop, map, All}
use Rattle.std.specs.List.{list_all, flat_map}
use Rattle.toml.specs.View.{view}
use Rattle.config_values.specs.Config.{Queue}
use Rattle.config_values.specs.Ranges.{IsWithin}
use Rattle.spool_config.specs.Told.{TellQueues}
use Rattle.spool_config.specs.Faults.{is_row, row_faults}
use Rattle.spool_config.proofs.reading.queues.Given as goal

-- what completes the queues of the rest completes all, and the faults of the rest are those of all
abbrev pub invariant-loop-row : goal.invariant-loop-row
invariant-loop-row l =
    let rest = map view (drop l.row-index l.rows) in
    record {
      within : All (IsWithin 65536) l.queues.items;
      told : (tail : List Queue) → TellQueues rest tail → TellQueues (map view l.rows) (l.queues.items ++ tail);
      faults : flat_map row_faults rest ≡ flat_map row_faults (map view l.rows);
      tables : list_all is_row rest ≡ true;
    }
