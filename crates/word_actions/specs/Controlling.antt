-- A command that is sent to a server's control socket, and what comes of it.
use Rattle.std.specs.Prelude.{◌≡◌, ◌++◌, ◌∷◌, ℕ, List, [], Option, Some, None, Result, Ok, Err, codes, string_bytes}
use Rattle.std.specs.Borrow.{Bor}
use Rattle.control_lines.specs.Answers.{HasNoEnd, IsEnded}
use Rattle.control_lines.specs.Commands.{written}
use Rattle.control_lines.specs.declared.command.ControlCommand.{ControlCommand}
use Rattle.control_lines.specs.declared.command.ControlCommand.TheVariants.{Stop, StopNow}
use Rattle.lpd_commands.specs.Ends.{Writes, WritesSome, one_more}
use Rattle.lpd_script.specs.Streams.{HasGivenAll}
use Rattle.word_actions.specs.declared.controlling.ControlFault.{ControlFault}
use Rattle.word_actions.specs.declared.controlling.ControlFault.TheVariants.{Refused, Unknown, Network, Memory, WriteFile}
use Rattle.program_edge.specs.Told.{IsTold, fault_text}
use Rattle.program_edge.specs.declared.telling.FaultName.TheVariants as edge

-- the word fault, the number, the name and what it is about
abbrev pub control_text : ControlFault → List ℕ
control_text (Refused text) = codes "fault 60 Refused " ++ string_bytes text
control_text Unknown = codes "fault 60 Refused unknown command"
control_text (Network path) = fault_text edge.Network ++ 32 ∷ path.now
control_text Memory = fault_text edge.Memory
control_text WriteFile = fault_text edge.WriteFile

-- 5 for a command that was refused, 4 for the rest
abbrev pub control_status : ControlFault → ℕ
control_status (Refused text) = 5
control_status Unknown = 5
control_status (Network path) = 4
control_status Memory = 4
control_status WriteFile = 4

-- 0 for what was done
abbrev pub result_status : Result (Unit {0}) ControlFault → ℕ
result_status (Ok done) = 0
result_status (Err fault) = control_status fault

-- the last line of an answer that comes to this, without its LF; none where it comes to that by another cause
abbrev pub end_line : Result (Unit {0}) ControlFault → Option (List ℕ)
end_line (Ok done) = Some (codes "end done")
end_line (Err (Refused text)) = Some (codes "end refused " ++ string_bytes text)
end_line (Err Unknown) = Some (codes "end unknown")
end_line (Err (Network path)) = None
end_line (Err Memory) = None
end_line (Err WriteFile) = None

-- what an answer that ends with this line comes to: no fault where the command was carried out
abbrev pub IsRefusal : Option ControlFault → List ℕ → Type 0
IsRefusal None line = line ≡ codes "end done"
IsRefusal (Some fault) line = end_line (Err fault) ≡ Some line

-- a fact of the path of a server that doesn't answer to the end
abbrev pub IfNetwork : Result (Unit {0}) ControlFault → (Bor (List ℕ) → Type 0) → Type 0
IfNetwork (Err (Network path)) P = P path
IfNetwork _ P = Unit {0}

-- a fact, where no answer came to its end, or memory was refused
abbrev pub IfUnprinted : Result (Unit {0}) ControlFault → Type 0 → Type 0
IfUnprinted (Err (Network path)) P = P
IfUnprinted (Err Memory) P = P
IfUnprinted _ P = Unit {0}

-- the line of the command was written
abbrev pub IsSent : ControlCommand → (was now : Option (List ℕ)) → Type 0
IsSent command was now = Writes was now (written command ++ 10 ∷ [])

-- a reader gave a whole answer that ends with this line, and what comes before the line was written
abbrev pub IsPrinted : (line : List ℕ) → (left rest was now : Option (List ℕ)) → Type 0
IsPrinted line left rest was now =
    (answer : List ℕ) × ((before : List ℕ) × HasGivenAll left rest answer × IsEnded answer before line × Writes was now before)

-- a reader gave a whole answer, and of what comes before its last line some octets from the head were written
abbrev pub IsCutOff : (left rest was now : Option (List ℕ)) → Type 0
IsCutOff left rest was now =
    (answer : List ℕ) × ((before : List ℕ) × ((line : List ℕ) × HasGivenAll left rest answer × IsEnded answer before line
    × WritesSome was now before))

-- a reader gave all that it has, which doesn't end as an answer does
abbrev pub GivesNoEnd : (left rest : Option (List ℕ)) → Type 0
GivesNoEnd left rest = (answer : List ℕ) × HasGivenAll left rest answer × HasNoEnd answer

-- a writer's faults after a result: one more where printing is what failed
abbrev pub write_faults : ℕ → Result (Unit {0}) ControlFault → ℕ
write_faults n (Err WriteFile) = one_more n
write_faults n _ = n

-- for how many seconds a server may say nothing, where that is limited: a stop is answered at the server's end
abbrev pub patience_seconds : ControlCommand → Option ℕ
patience_seconds (Stop seconds) = None
patience_seconds StopNow = None
patience_seconds _ = Some 10

-- a fault of this exit status was told
abbrev pub IsToldAt : ℕ → (was now : Option (List ℕ)) → Type 0
IsToldAt status was now =
    (fault : ControlFault) × (control_status fault ≡ status) × IsTold (Some (control_text fault)) was now
