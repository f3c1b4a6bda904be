-- What a core keeps in its fields.
use Rattle.std.specs.Prelude.{◌≡◌, ℕ, ◌+◌, List, length}
use Rattle.config_values.specs.Config.{Config, limit_of}
use Rattle.config_values.specs.Ranges.{IsConfig}
use Rattle.spool_history.specs.Base.{Base}
use Rattle.spool_history.specs.Events.{Event}
use Rattle.spool_history.specs.Now.{amounts}
use Rattle.account.specs.declared.entry.Outline.{Outline}
use Rattle.spool_calls.specs.Looks.Detail.{Outlines}
use Rattle.spool_calls.specs.Kept.{Kept, Leaves}
use Rattle.spool_core.specs.declared.core_state.Core.TheInside.{Inside}

abbrev pub core_view : Inside → Kept
core_view a = record {
  config = a.config;
  pool = a.pool;
  book = a.book;
  table = a.table;
  accepted = a.accepted;
  reserved = a.reserved;
  printers = a.printers.items;
  closed = a.closed;
}

pub record IsCore (a : Inside) : Type 0 where
  -- the configuration is in its ranges
  pub ranges : IsConfig a.config
  -- some legal history leaves it here
  pub reached : (b : Base) × (h : List (Event Outline)) × Leaves Outlines b h (core_view a)
  -- there is room for every decision
  pub rows : a.scratch.rows ≡ a.config.max_jobs
  pub kinds : a.scratch.kinds ≡ length a.config.queues + 1

-- the claim of one job of a queue: as many pages as its limit, and one of its printers
abbrev pub claim_in : Config → (queue : ℕ) → List ℕ
claim_in c queue = amounts c (limit_of c queue) queue 1
