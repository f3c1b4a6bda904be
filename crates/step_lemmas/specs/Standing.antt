-- A held job by its place.
use Rattle.std.specs.Prelude.{false, [], None}
use Rattle.spool_history.specs.Now.{Job}

-- a job that isn't there
abbrev pub no_job : {C : Type 0} → Job C
no_job = record { number = 0; sender = 0; queue = 0; granted = 0; lent = false; files = []; control = None; handed = 0; back = 0; ended = false }
