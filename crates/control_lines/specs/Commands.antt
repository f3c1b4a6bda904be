-- What is written of a command, and what a line means.
use Rattle.std.specs.Prelude.{◌≡◌, ◌<◌, ◌^◌, ℕ, List, ◌∷◌, ◌++◌, Some, None, Result, Ok, Err, MatchResult, IsTrue, codes}
use Rattle.std.specs.Fmt.{decimal}
use Rattle.control_lines.specs.Operands.{is_queue_name, is_whom}
use Rattle.control_lines.specs.declared.verb.Verb.{Verb}
use Rattle.control_lines.specs.declared.verb.Verb.TheVariants as verb
use Rattle.control_lines.specs.declared.command.ControlCommand.{ControlCommand}
use Rattle.control_lines.specs.declared.command.ControlCommand.TheVariants.{Status, Start, Hold, Release, Remove, CancelJob, CancelFile, Resend, ResendAll, ResendQueue, Rotate, Stop, StopNow}
use Rattle.control_lines.specs.declared.command.CommandFault.{CommandFault}
use Rattle.control_lines.specs.declared.command.CommandFault.TheVariants.{Unknown, Memory}

-- the line of a command, without its LF
abbrev pub written : ControlCommand → List ℕ
written Status = codes "status"
written (Start queue) = codes "start " ++ queue
written (Hold queue) = codes "hold " ++ queue
written (Release queue) = codes "release " ++ queue
written (Remove queue whom) = codes "remove " ++ (queue ++ 32 ∷ whom)
written (CancelJob number) = codes "cancel job " ++ decimal number
written (CancelFile number) = codes "cancel file " ++ decimal number
written (Resend number) = codes "resend " ++ decimal number
written ResendAll = codes "resend all"
written (ResendQueue queue) = codes "resend all " ++ queue
written Rotate = codes "rotate"
written (Stop None) = codes "stop"
written (Stop (Some seconds)) = codes "stop " ++ decimal seconds
written StopNow = codes "stop now"

-- a command that can be said: a queue and whom are as they may be written, a number fits 64 bits, and seconds fit 32
abbrev pub IsSayable : ControlCommand → Type 0
IsSayable Status = Unit {0}
IsSayable (Start queue) = IsTrue (is_queue_name queue)
IsSayable (Hold queue) = IsTrue (is_queue_name queue)
IsSayable (Release queue) = IsTrue (is_queue_name queue)
IsSayable (Remove queue whom) = IsTrue (is_queue_name queue) × IsTrue (is_whom whom)
IsSayable (CancelJob number) = number < 2 ^ 64
IsSayable (CancelFile number) = number < 2 ^ 64
IsSayable (Resend number) = number < 2 ^ 64
IsSayable ResendAll = Unit {0}
IsSayable (ResendQueue queue) = IsTrue (is_queue_name queue)
IsSayable Rotate = Unit {0}
IsSayable (Stop None) = Unit {0}
IsSayable (Stop (Some seconds)) = seconds < 2 ^ 32
IsSayable StopNow = Unit {0}

-- a line (without its LF) means the command that can be said and of which it is written
abbrev pub Means : List ℕ → ControlCommand → Type 0
Means line command = (line ≡ written command) × IsSayable command

-- a command with octets of its own
abbrev pub NamesQueue : ControlCommand → Type 0
NamesQueue (Start queue) = Unit {0}
NamesQueue (Hold queue) = Unit {0}
NamesQueue (Release queue) = Unit {0}
NamesQueue (Remove queue whom) = Unit {0}
NamesQueue (ResendQueue queue) = Unit {0}
NamesQueue _ = ⊥

-- a line that means nothing is unknown, and memory is wanted only for a queue
abbrev pub Refuses : List ℕ → CommandFault → Type 0
Refuses line Unknown = (command : ControlCommand) → Means line command → ⊥
Refuses line Memory = (command : ControlCommand) × Means line command × NamesQueue command

-- a reader's answer: the meaning, or why there is none
abbrev pub Reads : List ℕ → Result ControlCommand CommandFault → Type 0
Reads line result = MatchResult result (Means line) (Refuses line)

-- these octets name a queue, or why not
abbrev pub IsQueueOf : List ℕ → Result (List ℕ) CommandFault → Type 0
IsQueueOf name (Ok queue) = (queue ≡ name) × IsTrue (is_queue_name name)
IsQueueOf name (Err Unknown) = IsTrue (is_queue_name name) → ⊥
IsQueueOf name (Err Memory) = IsTrue (is_queue_name name)

-- the first word of a command
abbrev pub verb_of : ControlCommand → Verb
verb_of Status = verb.Status
verb_of (Start queue) = verb.Start
verb_of (Hold queue) = verb.Hold
verb_of (Release queue) = verb.Release
verb_of (Remove queue whom) = verb.Remove
verb_of (CancelJob number) = verb.Cancel
verb_of (CancelFile number) = verb.Cancel
verb_of (Resend number) = verb.Resend
verb_of ResendAll = verb.Resend
verb_of (ResendQueue queue) = verb.Resend
verb_of Rotate = verb.Rotate
verb_of (Stop seconds) = verb.Stop
verb_of StopNow = verb.Stop
