-- What comes of a question for a server, and of a request to start printers.
use Rattle.std.specs.Prelude.{◌≡◌, ◌++◌, ◌∷◌, ℕ, List, [], Option, Result, Ok, Err, codes}
use Rattle.lpd_commands.specs.Ends.{Writes}
use Rattle.lpd_commands.specs.Written.{command_line}
use Rattle.lpd_commands.specs.declared.command.Command.{Command}
use Rattle.lpd_commands.specs.declared.command.Command.TheVariants.{PrintWaiting}
use Rattle.lpd_script.specs.declared.fault.Fault.TheVariants as script
use Rattle.lpr_client.specs.Asking.{BreaksSilence, IsAsked, IsHandedOn, StopsAnswer, TookAll}
use Rattle.lpr_client.specs.declared.asking.AskFault.TheVariants as ask
use Rattle.word_actions.specs.declared.fault.ActionFault.{ActionFault}
use Rattle.word_actions.specs.declared.fault.ActionFault.TheVariants.{Memory, Run, Send}

-- what is sent of a command
abbrev pub sent_line : Command → List ℕ
sent_line command = command_line command ++ 10 ∷ []

-- a line was written, or some of it where that failed; nothing where memory was refused
abbrev pub IsPut : List ℕ → Result (Unit {0}) ActionFault → (was now : Option (List ℕ)) → Type 0
IsPut line (Err Memory) was now = now ≡ was
IsPut line (Err (Send fault)) was now = IsAsked line (Err fault) was now
IsPut line _ was now = Writes was now line

-- printers were asked to start: nothing is answered to that, and `started` was printed
abbrev pub Starts : Result (Unit {0}) ActionFault → (left rest was now : Option (List ℕ)) → Type 0
Starts (Ok done) left rest was now = TookAll left rest [] × Writes was now (codes "started\n")
Starts (Err (Send fault)) left rest was now = BreaksSilence fault left rest × (now ≡ was)
Starts (Err (Run fault)) left rest was now = TookAll left rest [] × (fault ≡ script.WriteFile)
Starts (Err Memory) left rest was now = (rest ≡ left) × (now ≡ was)
Starts (Err fault) left rest was now = ⊥

-- a text was asked for: the whole answer was printed
abbrev pub Tells : Result (Unit {0}) ActionFault → (left rest was now : Option (List ℕ)) → Type 0
Tells (Ok done) left rest was now = IsHandedOn left rest was now
Tells (Err (Send fault)) left rest was now = StopsAnswer (ask.Server fault) left rest was now
Tells (Err (Run fault)) left rest was now =
    StopsAnswer ask.Output left rest was now × (fault ≡ script.WriteFile)
Tells (Err Memory) left rest was now = (rest ≡ left) × (now ≡ was)
Tells (Err fault) left rest was now = ⊥

-- what comes of a question
abbrev pub ComesTo : Command → Result (Unit {0}) ActionFault → (left rest was now : Option (List ℕ)) → Type 0
ComesTo (PrintWaiting queue) result left rest was now = Starts result left rest was now
ComesTo command result left rest was now = Tells result left rest was now
