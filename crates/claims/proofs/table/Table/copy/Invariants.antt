use Rattle.std.proofs.Common.{◌≡◌, ◌≤◌, take}
use Rattle.std.specs.Prelude.{vec_capacity}
use Rattle.claims.proofs.table.Table.copy.Given as goal

abbrev pub invariant-loop-row : goal.invariant-loop-row
invariant-loop-row l = record { copied : l.rows.items ≡ take l.row-index l.self.rows; room : l.self.room ≤ vec_capacity l.rows }
