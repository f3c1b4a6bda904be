-- The exit status of each fault.
use Rattle.std.specs.Prelude.{ℕ, Result, Ok, Err}
use Rattle.lpr_client.specs.declared.send.SendFault.{SendFault}
use Rattle.lpr_client.specs.declared.send.SendFault.TheVariants as send
use Rattle.lpd_script.specs.Status as script
use Rattle.word_actions.specs.declared.fault.ActionFault.{ActionFault}
use Rattle.word_actions.specs.declared.fault.ActionFault.TheVariants.{Memory, Run, Network, Send, Printer, Places, Folder, Socket, NoJobFits}

-- 4 for memory, 5 for what the server or its connection did
abbrev pub send_status : SendFault → ℕ
send_status (send.Refused octet) = 5
send_status send.Cut = 5
send_status send.ReadFault = 5
send_status send.WriteFault = 5
send_status send.Memory = 4

-- 1 for a printer that can't be named so, 2 for the configuration, also where a queue of it takes no job, 3 for the script, 4 for memory, files and the network, 5 for
-- a job that wasn't taken
abbrev pub status_of : ActionFault → ℕ
status_of Memory = 4
status_of (Run fault) = script.status_of fault
status_of Network = 4
status_of (Send fault) = send_status fault
status_of (Printer text) = 1
status_of (Places fault) = 2
status_of (Folder path) = 4
status_of (Socket path) = 4
status_of NoJobFits = 2

-- 0 for what was done
abbrev pub end_status : Result (Unit {0}) ActionFault → ℕ
end_status (Ok done) = 0
end_status (Err fault) = status_of fault
