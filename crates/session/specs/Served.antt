-- What serving a session through a seat comes to.
use Rattle.std.specs.Prelude.{ℕ}
use Rattle.spool_ledgers.specs.Sums.{Sums}
use Rattle.request_session.specs.declared.ending.SessionEnd.{SessionEnd}
use Rattle.request_session.specs.Course.{Course, session_after}
use Rattle.request_session.specs.Served.{Around, Ends, HasRead}
use Rattle.session.specs.Added.{AddsAll, AddsAtEnd, AllGiven}

-- a session was served and ended so, and its calls added what its requests and its end add
pub record Served (end : SessionEnd) (sender : ℕ) (before after : Around Sums) : Type 0 where
  pub course : Course
  pub ends : Ends end sender course before.writer after.writer
  pub read : HasRead end (session_after sender course).arrived before.reader after.reader
  pub given : AllGiven course
  pub asked : Sums
  pub adds : AddsAll course before.spool asked
  pub aborts : AddsAtEnd (session_after sender course).progress.job asked after.spool
