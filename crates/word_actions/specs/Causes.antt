-- Which faults a step may have.
use Rattle.std.specs.Prelude.{◌≡◌, ◌⊎◌}
use Rattle.lpr_client.specs.declared.send.SendFault.{SendFault}
use Rattle.lpd_script.specs.declared.fault.Fault as script_fault
use Rattle.lpd_script.specs.declared.fault.Fault.TheVariants as script
use Rattle.word_actions.specs.declared.fault.ActionFault.{ActionFault}
use Rattle.word_actions.specs.declared.fault.ActionFault.TheVariants.{Memory, Run, Network, Send}

-- a data file can't be read, or memory was refused
abbrev pub IsFileFault : ActionFault → Type 0
IsFileFault fault =
    (fault ≡ Run script.ReadFile) ⊎ (fault ≡ Run script.Memory) ⊎ (fault ≡ Memory)

-- a file can't be read or written, a configuration can't be used, or a script can't be run
abbrev pub IsRunFault : ActionFault → Type 0
IsRunFault fault = (cause : script_fault.Fault) × (fault ≡ Run cause)

-- the server can't be reached, or didn't take the job
abbrev pub IsNetworkFault : ActionFault → Type 0
IsNetworkFault fault = (fault ≡ Network) ⊎ ((cause : SendFault) × (fault ≡ Send cause))
