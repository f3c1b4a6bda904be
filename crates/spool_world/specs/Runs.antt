-- What steps one after another come to.
use Rattle.std.specs.Prelude.{List, [], ◌∷◌}
use Rattle.spool_trace.specs.declared.reply.Reply.{Reply}
use Rattle.spool_trace.specs.declared.step.Step.{Step}
use Rattle.spool_trace.specs.Trace.{Trace}
use Rattle.spool_world.specs.Worlds.{Leads, Worlds, entry}

-- a trace that goes on with these steps, each with its reply
abbrev pub told : List Step → List Reply → Trace → Trace
told [] replies t = t
told (step ∷ steps) [] t = t
told (step ∷ steps) (reply ∷ replies) t = told steps replies (entry step reply ∷ t)

-- after every trace that leads to where the world was the trace that goes on so is right, and leads
-- to where it is
abbrev pub Runs : Worlds → List Step → List Reply → Worlds → Type 0
Runs old steps replies new = (t : Trace) → Leads t old → Leads (told steps replies t) new
