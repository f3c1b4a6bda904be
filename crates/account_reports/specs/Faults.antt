-- The exit status of each fault.
use Rattle.std.specs.Prelude.{ℕ, Result, Ok, Err}
use Rattle.account_reports.specs.declared.fault.ReportFault.{ReportFault}
use Rattle.account_reports.specs.declared.fault.ReportFault.TheVariants as fault

-- 6 where the account isn't as it has to be, 4 for memory and files
abbrev pub fault_status : ReportFault → ℕ
fault_status (fault.Line path line) = 6
fault_status (fault.Entry path line) = 6
fault_status (fault.Follow path line) = 6
fault_status (fault.Ends path digest) = 6
fault_status (fault.Printed path line differs file) = 6
fault_status (fault.Missing path line lacks) = 6
fault_status (fault.ReadFile path) = 4
fault_status fault.Memory = 4
fault_status fault.WriteFile = 4

-- 0 for what was done
abbrev pub end_status : Result (Unit {0}) ReportFault → ℕ
end_status (Ok done) = 0
end_status (Err fault) = fault_status fault
