-- The exit status of each end of a run.
use Rattle.std.specs.Prelude.{◌≡◌, ◌⊎◌, ℕ}
use Rattle.lpd_script.specs.Config.{config_status}
use Rattle.lpd_script.specs.declared.fault.Fault.{Fault}
use Rattle.lpd_script.specs.declared.fault.Fault.TheVariants.{Config, BadScript, Memory, ReadFile, WriteFile}

-- 2 for the configuration, 3 for the script, 4 for memory, reading and writing
abbrev pub status_of : Fault → ℕ
status_of (Config fault) = config_status fault
status_of (BadScript line) = 3
status_of Memory = 4
status_of ReadFile = 4
status_of WriteFile = 4

-- the exit statuses that there are
abbrev pub IsStatus : ℕ → Type 0
IsStatus n = (n ≡ 0) ⊎ (n ≡ 2) ⊎ (n ≡ 3) ⊎ (n ≡ 4)

-- what can stop a script that runs
abbrev pub IsScriptFault : Fault → Type 0
IsScriptFault fault = ((line : ℕ) × (fault ≡ BadScript line)) ⊎ (fault ≡ Memory) ⊎ (fault ≡ WriteFile)
