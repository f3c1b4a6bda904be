-- Which faults a step of a server may have.
use Rattle.std.specs.Prelude.{◌≡◌, ◌⊎◌, ℕ, Result, Err}
use Rattle.lpd_commands.specs.Ends.{one_more}
use Rattle.server_house.specs.declared.faults.ServerFault.{ServerFault}
use Rattle.server_house.specs.declared.faults.ServerFault.TheVariants.{Memory, Output}

-- memory was refused, or the output can't be written
abbrev pub IsRunningFault : ServerFault → Type 0
IsRunningFault fault = (fault ≡ Memory) ⊎ (fault ≡ Output)

-- a writer's faults after a result: one more where writing is what failed
abbrev pub write_faults : {A : Type 0} → ℕ → Result A ServerFault → ℕ
write_faults n (Err Output) = one_more n
write_faults n _ = n
