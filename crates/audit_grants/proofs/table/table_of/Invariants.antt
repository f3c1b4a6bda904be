use Rattle.std.proofs.Common.{◌≡◌, ◌<◌, map, take}
use Rattle.std.specs.Prelude.{All}
use Rattle.claims.specs.declared.row.Row.{Row}
use Rattle.spool_history.specs.Now.{capacity, row_of}
use Rattle.history_reader.specs.Seen.{job_seen}
use Rattle.audit_grants.proofs.table.table_of.Given as goal

abbrev pub invariant-loop-job : goal.invariant-loop-job
invariant-loop-job l = record {
  rows : l.table.rows ≡ map (row_of l.config) (map job_seen (take l.job-index l.jobs));
  capacity : l.table.capacity ≡ capacity l.config;
  room : l.table.room ≡ l.config.max_jobs;
  below : All (λ (r : Row). r.number < l.above) l.table.rows;
}
