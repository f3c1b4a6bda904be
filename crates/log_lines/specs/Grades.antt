-- How grave lines are.
use Rattle.std.specs.Prelude.{ℕ}
use Rattle.log.specs.declared.level.Level.{Level}
use Rattle.log.specs.declared.level.Level.TheVariants.{Debug, Error, Info, Trace, Warn}

-- the severity of syslog: 3 an error, 4 a warning, 6 information, 7 what helps to find a fault
abbrev pub grade_of : Level → ℕ
grade_of Error = 3
grade_of Warn = 4
grade_of Info = 6
grade_of Debug = 7
grade_of Trace = 7
