-- The lines of one step.
use Rattle.std.proofs.Common.{◌≡◌, List, [], ◌∷◌, ℕ, sym, subst}
use Rattle.spool_history.specs.Now.{State}
use Rattle.spool_trace.specs.declared.reply.Reply.{Reply}
use Rattle.spool_trace.specs.declared.step.Step.{Step}
use Rattle.spool_trace.specs.Shown.{spool_after}
use Rattle.spool_world.specs.Runs.{told}
use Rattle.spool_world.specs.Worlds.{Leads, Steps}
use Rattle.script_lines.specs.declared.script.ScriptLine.{ScriptLine}
use Rattle.lpd_script.specs.declared.runner.Runner.{Runner}
use Rattle.lpd_script.specs.Runner.{Ran}
use Rattle.lpd_script.specs.Steps.{Tells, hosts_after, steps_of}

-- its step had this reply
pub one_step : {old new : Runner} {line : ScriptLine} {text : List ℕ} (s : Step) (r : Reply) → new.world.core.config ≡ old.world.core.config → new.hosts ≡ hosts_after old.hosts line
    → steps_of old.hosts line (r ∷ []) ≡ s ∷ [] → ((v : State (List ℕ)) → Tells v line (r ∷ []) text) → Steps old.world s r new.world → Ran old line text new
one_step {old = old} {new = new} s r config hosts is tells step = record {
  config = config;
  hosts = hosts;
  replies = r ∷ [];
  tells = λ t l. tells (spool_after old.world.core.config t);
  leads = λ t l. subst (λ x. Leads (told x (r ∷ []) t) new.world) (sym is) (step t l).1;
}
