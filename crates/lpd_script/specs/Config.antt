-- The faults of a configuration, as the program tells them.
use Rattle.std.specs.Prelude.{◌≡◌, ◌⊎◌, ℕ, Result, Err}
use Rattle.spool_config.specs.declared.settings.ConfigFault.{ConfigFault}
use Rattle.spool_config.specs.declared.settings.ConfigFault.TheVariants.{NotToml, Missing, WrongType, OutOfRange, SameName, LimitOverPool, Memory}
use Rattle.lpd_script.specs.declared.fault.Fault.{Fault}
use Rattle.lpd_script.specs.declared.fault.Fault.TheVariants.{Config}

-- 4 for memory, 2 for the rest
abbrev pub config_status : ConfigFault → ℕ
config_status NotToml = 2
config_status (Missing key) = 2
config_status (WrongType key) = 2
config_status (OutOfRange key) = 2
config_status SameName = 2
config_status LimitOverPool = 2
config_status Memory = 4

-- a run is stopped by this fault of the configuration, or by want of memory
abbrev pub TellsConfig : ConfigFault → Result (Unit {0}) Fault → Type 0
TellsConfig due result = (result ≡ Err (Config due)) ⊎ (result ≡ Err (Config Memory))
