-- What a run writes and answers.
use Rattle.std.specs.Prelude.{◌≡◌, ◌≢◌, ◌⊎◌, ◌++◌, ℕ, List, Option, Some, Result, Ok, Err}
use Rattle.lpd_commands.specs.Ends.{Writes}
use Rattle.config_values.specs.Config as C
use Rattle.spool_config.specs.Answers.{GivesConfig, fault_of}
use Rattle.spool_config.specs.declared.settings.ConfigFault.{ConfigFault}
use Rattle.spool_config.specs.declared.settings.ConfigFault.TheVariants.{Memory as ConfigMemory}
use Rattle.lpd_script.specs.declared.fault.Fault.{Fault}
use Rattle.lpd_script.specs.declared.fault.Fault.TheVariants.{Config, Memory, ReadFile, WriteFile}
use Rattle.lpd_script.specs.Parts.{AreParts}
use Rattle.lpd_script.specs.Scripts.{RunsScript}
use Rattle.lpd_script.specs.Status.{status_of}
use Rattle.lpd_script.specs.Streams.{write_faults}

-- where no write failed, these octets were written
abbrev pub Prints : Option (List ℕ) → Option (List ℕ) → Result (Unit {0}) Fault → (List ℕ → Type 0) → Type 0
Prints old new (Err WriteFile) P = Unit {0}
Prints old new result P = (printed : List ℕ) × Writes old new printed × P printed

-- a text was put behind what is collected, of which the head may have been written
abbrev pub Collects : Option (List ℕ) → List ℕ → List ℕ → Option (List ℕ) → List ℕ → Type 0
Collects old collected text new left = (head : List ℕ) × Writes old new head × (collected ++ text ≡ head ++ left)

-- a script was run on a spool of the configuration that a text gives
abbrev pub RunsWith : List ℕ → List ℕ → List ℕ → Result (Unit {0}) Fault → Type 0
RunsWith config script printed result = (c : C.Config) × GivesConfig config c × RunsScript c script printed result

-- a configuration has this fault first, if it isn't that memory was refused
abbrev pub HasFault : List ℕ → ConfigFault → Type 0
HasFault config fault = fault ≢ ConfigMemory → fault_of config ≡ Some fault

-- the two parts of a text were run: a fault of the configuration prints nothing
abbrev pub RunsParts : List ℕ → List ℕ → Option (List ℕ) → Option (List ℕ) → Result (Unit {0}) Fault → Type 0
RunsParts config script old new (Err (Config fault)) = (new ≡ old) × HasFault config fault
RunsParts config script old new result = Prints old new result (λ printed. RunsWith config script printed result)

-- a text was run, cut into its parts
abbrev pub RunsText : List ℕ → Option (List ℕ) → Option (List ℕ) → Result (Unit {0}) Fault → Type 0
RunsText text old new result = (config script : List ℕ) × AreParts text config script × RunsParts config script old new result

-- all of an input was run, or reading it stopped before anything was printed
abbrev pub RunsAll : List ℕ → Option (List ℕ) → Option (List ℕ) → Result (Unit {0}) Fault → Type 0
RunsAll text old new (Err ReadFile) = new ≡ old
RunsAll text old new (Err Memory) = (new ≡ old) ⊎ RunsText text old new (Err Memory)
RunsAll text old new result = RunsText text old new result

-- the exit status of a run
abbrev pub status_at : Result (Unit {0}) Fault → ℕ
status_at (Ok done) = 0
status_at (Err fault) = status_of fault

-- A run of all of an input answered this status: it ended so, a writer's faults tell where writing is what failed, and where
-- reading is, that holds.
pub record RunsTo (text : List ℕ) (old new : Option (List ℕ)) (old_faults new_faults : ℕ) (unread : Type 0)
    (status : ℕ) : Type 0 where
  pub ended : Result (Unit {0}) Fault
  pub answer : status ≡ status_at ended
  pub ran : RunsAll text old new ended
  pub written : new_faults ≡ write_faults old_faults ended
  pub read : ended ≡ Err ReadFile → unread
