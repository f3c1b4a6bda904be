-- What a script does and prints.
use Rattle.std.specs.Prelude.{◌≡◌, ◌⊎◌, ◌++◌, ◌+◌, ◌==◌, ℕ, List, [], ◌∷◌, Result, Err, IsOk, if◌then◌else◌}
use Rattle.config_values.specs.Config.{Config, IsPrinter}
use Rattle.spool_trace.specs.Trace.{Trace}
use Rattle.spool_trace.specs.declared.reply.Reply.{Reply}
use Rattle.spool_trace.specs.Sessions.{sessions}
use Rattle.spool_trace.specs.Shown.{spool_after}
use Rattle.spool_trace.specs.Replies.{IsSession, IsTrace}
use Rattle.script_lines.specs.declared.script.ScriptLine.{ScriptLine}
use Rattle.script_lines.specs.declared.script.ScriptLine.TheVariants.{Send, Go, Break, Next, Printed, Failed}
use Rattle.script_lines.specs.Grammar.{Means, MeansNothing}
use Rattle.lpd_script.specs.declared.fault.Fault.{Fault}
use Rattle.lpd_script.specs.declared.fault.Fault.TheVariants.{BadScript, Memory}
use Rattle.lpd_script.specs.Steps.{Tells, after, hosts_after}

-- the octet in front of the first line
abbrev pub before_first : ℕ → List (List ℕ) → List (List ℕ)
before_first octet [] = (octet ∷ []) ∷ []
before_first octet (line ∷ lines) = (octet ∷ line) ∷ lines

-- the lines of a text, each without its LF, which the last one may lack
abbrev pub lines_of : List ℕ → List (List ℕ)
lines_of [] = []
lines_of (octet ∷ text) = if octet == 10 then [] ∷ lines_of text else before_first octet (lines_of text)

-- the line names a session that was never connected, or a printer that isn't there
abbrev pub NamesNothing : Config → Trace → ScriptLine → Type 0
NamesNothing c t (Send session octets) = IsSession (sessions t) session → ⊥
NamesNothing c t (Go session) = IsSession (sessions t) session → ⊥
NamesNothing c t (Break session) = IsSession (sessions t) session → ⊥
NamesNothing c t (Next printer) = IsPrinter c printer → ⊥
NamesNothing c t (Printed printer) = IsPrinter c printer → ⊥
NamesNothing c t (Failed printer) = IsPrinter c printer → ⊥
NamesNothing c t line = ⊥

-- the line can't be run after this trace
abbrev pub IsBad : Config → Trace → List ℕ → Type 0
IsBad c t line = MeansNothing line ⊎ ((meaning : ScriptLine) × Means line meaning × NamesNothing c t meaning)

-- A line of this meaning was run after a trace: its steps had these replies, each the right one, and it prints this.
pub record RunsLine (c : Config) (hosts : List (List ℕ)) (t : Trace) (line : ScriptLine) (replies : List Reply)
    (text : List ℕ) : Type 0 where
  pub tells : Tells (spool_after c t) line replies text
  pub right : IsTrace c (after hosts line replies t)

-- a script stops in front of the line of this number, which can't be run, or for want of memory
abbrev pub StopsAt : Config → ℕ → Trace → List ℕ → Result (Unit {0}) Fault → Type 0
StopsAt c n t line result = (result ≡ Err (BadScript n)) × IsBad c t line ⊎ (result ≡ Err Memory)

-- The lines from this number on were run after this trace, when these hosts had connected: what they print, and the end.
abbrev pub RunsLines : Config → ℕ → List (List ℕ) → Trace → List (List ℕ) → List ℕ → Result (Unit {0}) Fault → Type 0
RunsLines c n hosts t [] printed result = (printed ≡ []) × (IsOk result ⊎ (result ≡ Err Memory))
RunsLines c n hosts t (line ∷ lines) printed result =
    (printed ≡ []) × StopsAt c n t line result
    ⊎ ((meaning : ScriptLine) × (replies : List Reply) × (text rest : List ℕ) × Means line meaning
    × RunsLine c hosts t meaning replies text × (printed ≡ text ++ rest)
    × RunsLines c (n + 1) (hosts_after hosts meaning) (after hosts meaning replies t) lines rest result)

-- a script was run on a spool in which nothing had happened
abbrev pub RunsScript : Config → List ℕ → List ℕ → Result (Unit {0}) Fault → Type 0
RunsScript c script printed result = RunsLines c 1 [] [] (lines_of script) printed result
