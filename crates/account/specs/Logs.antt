-- What contracts see of an account.
use Rattle.std.specs.Prelude.{ℕ, List}
use Rattle.spool_history.specs.Events as E
use Rattle.account.specs.declared.entry.Outline.{Outline}

pub record Log : Type 0 where
  -- the events since the last rotation, the newest first
  pub events : List (E.Event Outline)
  -- those of them whose entries are there: all that came since the last trim
  pub kept : List (E.Event Outline)
  -- how many entries there is memory for in all, those there included
  pub room : ℕ
