-- What the lines of a script do to a world and the hosts that connected to it.
use Rattle.std.specs.Prelude.{◌≡◌, ◌⊎◌, ℕ, List, MatchResult, Result, String, ◌∷◌, map, string_bytes}
use Rattle.std.specs.Global.{Global}
use Rattle.spool_trace.specs.declared.reply.Deed.{Deed}
use Rattle.spool_trace.specs.declared.reply.Reply.{Reply}
use Rattle.spool_trace.specs.declared.reply.Reply.TheVariants.{Turned}
use Rattle.spool_trace.specs.Trace.{Trace}
use Rattle.spool_trace.specs.Shown.{spool_after}
use Rattle.spool_world.specs.Runs.{told}
use Rattle.spool_world.specs.Worlds.{Leads}
use Rattle.script_lines.specs.declared.script.ScriptLine.{ScriptLine}
use Rattle.script_lines.specs.declared.texts.Stop.{Stop}
use Rattle.script_lines.specs.Grammar.{Means, MeansNothing}
use Rattle.script_lines.specs.Texts as T
use Rattle.lpd_script.specs.Scripts.{NamesNothing}
use Rattle.lpd_script.specs.Steps.{AreTurns, Tells, after, hosts_after, turns_for}
use Rattle.lpd_script.specs.declared.runner.NotRun.{NotRun}
use Rattle.lpd_script.specs.declared.runner.NotRun.TheVariants.{NamesNothing as LacksName}
use Rattle.lpd_script.specs.declared.runner.Runner.{Runner}

-- A line of this meaning was run, and it prints this: of every trace that leads to where the world was.
pub record Ran (old : Runner) (line : ScriptLine) (text : List ℕ) (new : Runner) : Type 0 where
  pub config : new.world.core.config ≡ old.world.core.config
  pub hosts : new.hosts ≡ hosts_after old.hosts line
  pub replies : List Reply
  pub tells : (t : Trace) → Leads t old.world → Tells (spool_after old.world.core.config t) line replies text
  pub leads : (t : Trace) → Leads t old.world → Leads (after old.hosts line replies t) new.world

-- A session that did this went on until it stopped, and that prints this.
pub record WentOn (old : Runner) (session : ℕ) (first : Deed) (text : List ℕ) (new : Runner) : Type 0 where
  pub config : new.world.core.config ≡ old.world.core.config
  pub hosts : new.hosts ≡ old.hosts
  pub later : List Deed
  pub written : List ℕ
  pub why : Stop
  pub turns : AreTurns (map Turned (first ∷ later)) written why
  pub line : text ≡ T.turns_line session written why
  pub leads :
      (t : Trace) → Leads t old.world
      → Leads (told (turns_for session (map Turned later)) (map Turned later) t) new.world

-- the line names a session or a printer that isn't there
abbrev pub Misses : Runner → ScriptLine → Type 0
Misses old line = (t : Trace) → Leads t old.world → NamesNothing old.world.core.config t line

-- a line was run and prints the text that it came to, and where it wasn't run for naming nothing, it does that
abbrev pub Runs : Runner → ScriptLine → Result (String Global) NotRun → Runner → Type 0
Runs old line result new =
    MatchResult result (λ text. Ran old line (string_bytes text) new) (λ why. why ≡ LacksName → Misses old line)

-- a line of text was run
abbrev pub RanText : Runner → List ℕ → List ℕ → Runner → Type 0
RanText old line text new = (meaning : ScriptLine) × Means line meaning × Ran old meaning text new

-- a line of text can't be run
abbrev pub CannotRun : Runner → List ℕ → Type 0
CannotRun old line = MeansNothing line ⊎ ((meaning : ScriptLine) × Means line meaning × Misses old meaning)
