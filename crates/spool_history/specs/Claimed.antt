-- The table of claims that a state has.
use Rattle.std.specs.Prelude.{◌≡◌, map}
use Rattle.claims.specs.Claims.{Claims, IsTable}
use Rattle.spool_history.specs.Now.{State, row_of, capacity}

-- the table of claims of a state
pub record IsTableOf {C : Type 0} (t : Claims) (v : State C) : Type 0 where
  pub table : IsTable t
  pub rows : t.rows ≡ map (row_of v.config) v.jobs
  pub capacity : t.capacity ≡ capacity v.config
  pub room : t.room ≡ v.config.max_jobs
