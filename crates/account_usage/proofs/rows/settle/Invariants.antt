use Rattle.std.proofs.Common.{◌≡◌, ◌<◌, ◌+◌, ◌^◌, take}
use Rattle.account_usage.specs.Rows.{held_printed, held_sent, rows_printed, rows_sent}
use Rattle.account_usage.proofs.rows.settle.Given as goal

abbrev pub invariant-loop-job : goal.invariant-loop-job
invariant-loop-job l = record {
  sent : rows_sent l.initial.rows.entries + held_sent (take l.job-index l.held) < 2 ^ 64 → rows_sent l.rows.entries ≡ rows_sent l.initial.rows.entries + held_sent (take l.job-index l.held);
  printed : rows_printed l.initial.rows.entries + held_printed (take l.job-index l.held) < 2 ^ 64 → rows_printed l.rows.entries ≡ rows_printed l.initial.rows.entries + held_printed (take l.job-index l.held);
}
