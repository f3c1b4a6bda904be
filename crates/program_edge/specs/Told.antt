-- What is told of faults.
use Rattle.std.specs.Prelude.{◌⊎◌, ◌++◌, ◌∷◌, ℕ, List, [], Option, Some, None, codes}
use Rattle.lpd_commands.specs.Ends.{Writes}
use Rattle.program_edge.specs.declared.telling.FaultName.{FaultName}
use Rattle.program_edge.specs.declared.telling.FaultName.TheVariants.{Memory, BadScript, ReadFile, Network, WriteFile}

-- the word fault, the number and the name
abbrev pub fault_text : FaultName → List ℕ
fault_text Memory = codes "fault 12 Memory"
fault_text BadScript = codes "fault 70 BadScript"
fault_text ReadFile = codes "fault 71 ReadFile"
fault_text Network = codes "fault 72 Network"
fault_text WriteFile = codes "fault 73 WriteFile"

-- one line was written: a fault with this text, where its type tells it, or that memory was refused
abbrev pub IsTold : Option (List ℕ) → (was now : Option (List ℕ)) → Type 0
IsTold None was now = Unit {0}
IsTold (Some text) was now =
    Writes was now (text ++ 10 ∷ []) ⊎ Writes was now (fault_text Memory ++ 10 ∷ [])
