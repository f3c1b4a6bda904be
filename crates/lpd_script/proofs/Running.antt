-- How far a script was run.
use Rattle.std.proofs.Common.{◌≡◌, ◌⊎◌, inl, inr, ◌+◌, ◌++◌, ℕ, List, [], ◌∷◌, Option, Result, Ok, Err, IfErr, OnOk, refl, sym, subst, ap, ◌∙◌, append_assoc, append-nil}
use Rattle.config_values.specs.Config.{Config}
use Rattle.lpd_commands.specs.Ends.{Writes}
use Rattle.lpd_commands.proofs.Writing.{Writes-append, Writes-none}
use Rattle.spool_trace.specs.Trace.{Trace}
use Rattle.spool_trace.specs.Replies.{IsTrace}
use Rattle.spool_trace.specs.Shown.{spool_after}
use Rattle.spool_world.specs.Worlds.{Leads}
use Rattle.script_lines.specs.declared.script.ScriptLine.{ScriptLine}
use Rattle.lpd_script.specs.declared.fault.Fault.{Fault}
use Rattle.lpd_script.specs.declared.fault.Fault.TheVariants.{BadScript, Config as ConfigFaulty, Memory, WriteFile}
use Rattle.spool_config.specs.Answers.{GivesConfig}
use Rattle.spool_config.specs.declared.settings.ConfigFault.{ConfigFault}
use Rattle.lpd_script.specs.Status.{IsScriptFault}
use Rattle.lpd_script.specs.declared.runner.Runner.{Runner}
use Rattle.lpd_script.specs.Ends.{Collects, HasFault, Prints, RunsParts}
use Rattle.lpd_script.specs.Runner.{CannotRun, Ran, RanText}
use Rattle.lpd_script.specs.Scripts.{IsBad, NamesNothing, RunsLine, RunsLines, RunsScript, StopsAt, lines_of}
use Rattle.lpd_script.specs.Steps.{Tells, after}

-- Of a script the lines up to this number were run, and this text is left; what was printed is written or collected.
pub record SoFar (c : Config) (script : List ℕ) (n : ℕ) (runner : Runner) (rest : List ℕ) (old now : Option (List ℕ))
    (collected : List ℕ) : Type 0 where
  pub config : runner.world.core.config ≡ c
  pub trace : Trace
  pub leads : Leads trace runner.world
  pub wrote : List ℕ
  pub writes : Writes old now wrote
  pub onwards :
      (more : List ℕ) (result : Result (Unit {0}) Fault)
      → RunsLines c (n + 1) runner.hosts trace (lines_of rest) more result
      → RunsScript c script ((wrote ++ collected) ++ more) result

-- the line that was run, in the words of scripts
runs_line :
    (c : Config) (old new : Runner) (t : Trace) (line : ScriptLine) (text : List ℕ) → old.world.core.config ≡ c
    → Leads t old.world → (r : Ran old line text new) → RunsLine c old.hosts t line r.replies text
runs_line c old new t line text same leads r = record {
  tells = subst (λ x. Tells (spool_after x t) line r.replies text) same (r.tells t leads);
  right = subst (λ x. IsTrace x (after old.hosts line r.replies t)) (r.config ∙ same) (r.leads t leads).right;
}

joins : (wrote collected text head left more : List ℕ) → collected ++ text ≡ head ++ left
    → (wrote ++ collected) ++ (text ++ more) ≡ ((wrote ++ head) ++ left) ++ more
joins wrote collected text head left more e =
    sym (append_assoc (wrote ++ collected) text more)
    ∙ ap (λ x. x ++ more) (append_assoc wrote collected text ∙ ap (λ x. wrote ++ x) e ∙ sym (append_assoc wrote head left))

-- a line that can't be run is bad
bad_here : (c : Config) (runner : Runner) (t : Trace) (line : List ℕ) → runner.world.core.config ≡ c → Leads t runner.world
    → CannotRun runner line → IsBad c t line
bad_here c runner t line same leads bad = elim bad [
  | inl none ↦ inl none
  | inr x ↦ inr (x.0, x.1, subst (λ y. NamesNothing y t x.0) same (x.2 t leads))
]

-- from what was run so far
module _ {c : Config} {script : List ℕ} {n : ℕ} {old : Runner} {rest : List ℕ} {a b : Option (List ℕ)} {collected : List ℕ} (s : SoFar c script n old rest a b collected) where
  -- one line more
  pub one_more : {new : Runner} {line text left : List ℕ} {d : Option (List ℕ)} (rest' : List ℕ) → lines_of rest ≡ line ∷ lines_of rest' → RanText old line text new
      → Collects b collected text d left → SoFar c script (n + 1) new rest' a d left
  one_more {new = new} {text = text} {left = left} {d = d} rest' cut ran put =
      let meaning = ran.0 in
      let r = ran.2 in
      record {
        config = r.config ∙ s.config;
        trace = after old.hosts meaning r.replies s.trace;
        leads = r.leads s.trace s.leads;
        wrote = s.wrote ++ put.0;
        writes = Writes-append a b d s.wrote put.0 s.writes put.1;
        onwards = λ more result runs.
            subst (λ x. RunsScript c script x result) (joins s.wrote collected text put.0 left more put.2)
            (s.onwards (text ++ more) result
            (rw cut (inr (
              meaning,
              r.replies,
              text,
              more,
              ran.1,
              runs_line c old new s.trace meaning text s.config s.leads r,
              refl,
              subst (λ x. RunsLines c (n + 1 + 1) x (after old.hosts meaning r.replies s.trace) (lines_of rest') more result) r.hosts runs,
            ))));
      }

  -- it stops at a line
  stops_here : (line rest' : List ℕ) (result : Result (Unit {0}) Fault) → lines_of rest ≡ line ∷ lines_of rest' → StopsAt c (n + 1) s.trace line result
      → RunsScript c script (s.wrote ++ collected) result
  stops_here line rest' result cut stops =
      subst (λ x. RunsScript c script x result) (append-nil (s.wrote ++ collected)) (s.onwards [] result (rw cut (inl (refl, stops))))

  -- what is collected is written, and it stops
  pub stopped : {line : List ℕ} {fault : Fault} (d : Option (List ℕ)) (rest' : List ℕ) → lines_of rest ≡ line ∷ lines_of rest' → ((fault ≡ BadScript (n + 1)) × CannotRun old line) ⊎ (fault ≡ Memory)
      → Writes b d collected → Prints a d (Err fault) (λ printed. RunsScript c script printed (Err fault))
  stopped {line = line} d rest' cut why wrote =
      let all = Writes-append a b d s.wrote collected s.writes wrote in
      elim why [
        | inl bad ↦ rw bad.0 (s.wrote ++ collected, all, stops_here line rest' _ cut (inl (refl, bad_here c old s.trace line s.config s.leads bad.1)))
        | inr short ↦ rw short (s.wrote ++ collected, all, stops_here line rest' _ cut (inr refl))
      ]

  -- or all was run
  pub finished : (d : Option (List ℕ)) (result : Result (Unit {0}) Fault) → rest ≡ [] → OnOk result (Writes b d collected) → IfErr result (λ fault. fault ≡ WriteFile)
      → Prints a d result (λ printed. RunsScript c script printed result)
  finished d (Err fault) none wrote is = rw is tt
  finished d (Ok x) none wrote is = (
    s.wrote ++ collected,
    Writes-append a b d s.wrote collected s.writes wrote,
    subst (λ x. RunsScript c script x (Ok tt)) (append-nil (s.wrote ++ collected)) (s.onwards [] (Ok tt) (rw none (refl, inl refl))),
  )

-- want of memory before the first line
none_ran : (c : Config) (lines : List (List ℕ)) → RunsLines c 1 [] [] lines [] (Err Memory)
none_ran c [] = (refl, inr refl)
none_ran c (line ∷ lines) = inl (refl, inr refl)

pub short_at_once : (config script : List ℕ) (c : Config) (out : Option (List ℕ)) (result : Result (Unit {0}) Fault)
    → GivesConfig config c → result ≡ Err Memory → RunsParts config script out out result
short_at_once config script c out result gives is = rw is ([], Writes-none out, (c, gives, none_ran c (lines_of script)))

-- a configuration with a fault
pub faulty_at_once : (config script : List ℕ) (fault : ConfigFault) (out : Option (List ℕ)) (result : Result (Unit {0}) Fault)
    → HasFault config fault → result ≡ Err (ConfigFaulty fault) → RunsParts config script out out result
faulty_at_once config script fault out result has is = rw is (refl, has)

-- a script has no fault of the configuration
pub no_config_fault : (result : Result (Unit {0}) Fault) (due : ConfigFault) → IfErr result IsScriptFault → result ≡ Err (ConfigFaulty due) → ⊥
no_config_fault (Ok x) due is e = cc
no_config_fault (Err fault) due (inl bad) e = let b = bad.1 in cc
no_config_fault (Err fault) due (inr (inl short)) e = cc
no_config_fault (Err fault) due (inr (inr write)) e = cc
