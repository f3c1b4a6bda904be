-- Turns of a session, one after another.
use Rattle.std.proofs.Common.{◌≡◌, IfErr, IfOk, inr, ℕ, All, List, [], ◌∷◌, ◌++◌, Some, None, map, refl, sym, subst, ap, ◌∙◌, append-nil}
use Rattle.std.specs.Global.{Global}
use Rattle.std.specs.Prelude.{Result, Ok, Err, String, string_bytes}
use Rattle.std.specs.List.{flat_map}
use Rattle.std.proofs.lemmas.Grind.{flat_map-append}
use Rattle.std.proofs.lemmas.List.Elements.{All-nil, All-push}
use Rattle.spool_trace.specs.declared.reply.Deed.{Deed}
use Rattle.spool_trace.specs.declared.reply.Reply.TheVariants.{Taken, Turned}
use Rattle.spool_trace.specs.declared.step.Step.TheVariants as step
use Rattle.spool_trace.specs.Trace.{Trace, written_by}
use Rattle.spool_world.specs.Runs.{told}
use Rattle.spool_world.specs.Worlds.{Leads, Steps, entry}
use Rattle.script_lines.specs.declared.script.ScriptLine.{ScriptLine}
use Rattle.script_lines.specs.declared.script.ScriptLine.TheVariants as line
use Rattle.script_lines.specs.declared.texts.Stop.{Stop}
use Rattle.script_lines.specs.Texts as T
use Rattle.lpd_script.specs.declared.runner.NotRun.{NotRun}
use Rattle.lpd_script.specs.declared.runner.NotRun.TheVariants.{Memory, NamesNothing}
use Rattle.lpd_script.specs.declared.runner.Runner.{Runner}
use Rattle.lpd_script.specs.Runner.{Ran, Runs, WentOn}
use Rattle.lpd_script.specs.Steps.{stop_of, turns_for}

-- one more turn
told_more : (session : ℕ) (ds : List Deed) (d : Deed) (t : Trace) →
    told (turns_for session (map Turned (ds ++ d ∷ []))) (map Turned (ds ++ d ∷ [])) t
    ≡ entry (step.Turn session) (Turned d) ∷ told (turns_for session (map Turned ds)) (map Turned ds) t
told_more session [] d t = refl
told_more session (e ∷ ds) d t = told_more session ds d (entry (step.Turn session) (Turned e) ∷ t)

wrote_more : (ds : List Deed) (d : Deed) → flat_map written_by (ds ++ d ∷ []) ≡ flat_map written_by ds ++ written_by d
wrote_more ds d = flat_map-append written_by ds (d ∷ []) ∙ ap (λ x. flat_map written_by ds ++ x) (append-nil (written_by d))

-- A session that did this first has gone on, each time without stopping, until it did that last. What it wrote before that.
pub record GoneOn (old : Runner) (session : ℕ) (first : Deed) (written : List ℕ) (last : Deed) (new : Runner) : Type 0 where
  pub config : new.world.core.config ≡ old.world.core.config
  pub hosts : new.hosts ≡ old.hosts
  pub earlier : List Deed
  pub later : List Deed
  pub all : first ∷ later ≡ earlier ++ last ∷ []
  pub go_on : All (λ done. stop_of done ≡ None) earlier
  pub wrote : written ≡ flat_map written_by earlier
  pub leads :
      (t : Trace) → Leads t old.world
      → Leads (told (turns_for session (map Turned later)) (map Turned later) t) new.world

pub begins : (old : Runner) (session : ℕ) (first : Deed) (written : List ℕ) → written ≡ [] → GoneOn old session first written first old
begins old session first written none = record {
  config = refl;
  hosts = refl;
  earlier = [];
  later = [];
  all = refl;
  go_on = All-nil (λ done. stop_of done ≡ None);
  wrote = none;
  leads = λ t l. l;
}

module _ {old mid : Runner} {session : ℕ} {first last : Deed} {written : List ℕ} (g : GoneOn old session first written last mid) where
  -- it goes on
  pub goes_on : {new : Runner} {more : List ℕ} (next : Deed) → stop_of last ≡ None → more ≡ written ++ written_by last → new.world.core.config ≡ mid.world.core.config
      → new.hosts ≡ mid.hosts → Steps mid.world (step.Turn session) (Turned next) new.world → GoneOn old session first more next new
  goes_on {new = new} next none wrote config hosts step' = record {
    config = config ∙ g.config;
    hosts = hosts ∙ g.hosts;
    earlier = g.earlier ++ last ∷ [];
    later = g.later ++ next ∷ [];
    all = ap (λ x. x ++ next ∷ []) g.all;
    go_on = All-push (λ done. stop_of done ≡ None) g.earlier last g.go_on none;
    wrote = wrote ∙ ap (λ x. x ++ written_by last) g.wrote ∙ sym (wrote_more g.earlier last);
    leads = λ t l.
        subst (λ x. Leads x new.world) (sym (told_more session g.later next t))
        (step' (told (turns_for session (map Turned g.later)) (map Turned g.later) t) (g.leads t l)).1;
  }

  -- or it stops
  pub stops : {text : List ℕ} (total : List ℕ) (why : Stop) → Some why ≡ stop_of last → total ≡ written ++ written_by last → text ≡ T.turns_line session total why → WentOn old session first text mid
  stops total why is wrote told' = record {
    config = g.config;
    hosts = g.hosts;
    later = g.later;
    written = total;
    why = why;
    turns = record {
      earlier = g.earlier;
      last = last;
      all = ap (map Turned) g.all;
      go_on = g.go_on;
      stops = sym is;
      wrote = wrote ∙ ap (λ x. x ++ written_by last) g.wrote ∙ sym (wrote_more g.earlier last);
    };
    line = told';
    leads = g.leads;
  }

-- the line that only lets it go on
pub went : {old mid new : Runner} {session : ℕ} {first : Deed} {text : List ℕ} → mid.world.core.config ≡ old.world.core.config → mid.hosts ≡ old.hosts
    → Steps old.world (step.Turn session) (Turned first) mid.world → WentOn mid session first text new → Ran old (line.Go session) text new
went {session = session} {first = first} config hosts turn w = record {
  config = w.config ∙ config;
  hosts = w.hosts ∙ hosts;
  replies = map Turned (first ∷ w.later);
  tells = λ t l. inr (w.written, w.why, w.turns, w.line);
  leads = λ t l. w.leads (entry (step.Turn session) (Turned first) ∷ t) (turn t l).1;
}

-- the line that brings octets
pub sent : {old mid new : Runner} {session : ℕ} {octets : List ℕ} {first : Deed} {text : List ℕ} (next : Runner) → next.world.core.config ≡ old.world.core.config → next.hosts ≡ old.hosts
    → Steps old.world (step.Arrive session octets) Taken next.world → mid.world.core.config ≡ next.world.core.config → mid.hosts ≡ next.hosts
    → Steps next.world (step.Turn session) (Turned first) mid.world → WentOn mid session first text new → Ran old (line.Send session octets) text new
sent {session = session} {octets = octets} {first = first} next config hosts arrive config' hosts' turn w = record {
  config = w.config ∙ config' ∙ config;
  hosts = w.hosts ∙ hosts' ∙ hosts;
  replies = Taken ∷ map Turned (first ∷ w.later);
  tells = λ t l. inr (map Turned (first ∷ w.later), refl, (w.written, w.why, w.turns, w.line));
  leads = λ t l.
      w.leads (entry (step.Turn session) (Turned first) ∷ entry (step.Arrive session octets) Taken ∷ t)
      (turn (entry (step.Arrive session octets) Taken ∷ t) (arrive t l).1).1;
}

-- a line that isn't run only for want of memory
pub runs : (old new : Runner) (line : ScriptLine) (result : Result (String Global) NotRun) → IfOk result (λ text. Ran old line (string_bytes text) new) → IfErr result (λ why. why ≡ Memory) → Runs old line result new
runs old new line (Ok text) ran short = ran
runs old new line (Err why) ran short = λ names.
    let other : Memory ≡ NamesNothing = sym short ∙ names in
    cc
