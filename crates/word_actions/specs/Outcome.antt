-- What comes of words.
use Rattle.std.specs.Prelude.{ℕ, List}
use Rattle.std.specs.Borrow.{Bor}
use Rattle.word_actions.specs.declared.running.RunOutcome.{RunOutcome}
use Rattle.word_actions.specs.declared.running.RunOutcome.TheVariants.{Ended, Serve, Control, Audit, Usage}
use Rattle.program_words.specs.declared.control_request.ControlRequest.{ControlRequest}
use Rattle.program_words.specs.declared.words.Ask.{Ask}
use Rattle.program_words.specs.declared.words.Ask.TheVariants as ask
use Rattle.program_words.specs.declared.serving.ServeRequest.{ServeRequest}

-- a fact of the exit status, if the program ends
abbrev pub IfEnded : RunOutcome → (ℕ → Type 0) → Type 0
IfEnded (Ended status) P = P status
IfEnded (Serve config request) P = Unit {0}
IfEnded (Control request) P = Unit {0}
IfEnded (Audit request) P = Unit {0}
IfEnded (Usage request) P = Unit {0}

-- a fact of what is to be served and how, if the program serves
abbrev pub IfServes : RunOutcome → (Bor (List ℕ) → ServeRequest → Type 0) → Type 0
IfServes (Ended status) P = Unit {0}
IfServes (Serve config request) P = P config request
IfServes (Control request) P = Unit {0}
IfServes (Audit request) P = Unit {0}
IfServes (Usage request) P = Unit {0}

-- a fact of the command that is to be sent, if the program sends one
abbrev pub IfControls : RunOutcome → (ControlRequest → Type 0) → Type 0
IfControls (Ended status) P = Unit {0}
IfControls (Serve config request) P = Unit {0}
IfControls (Control request) P = P request
IfControls (Audit request) P = Unit {0}
IfControls (Usage request) P = Unit {0}

-- a fact of what is asked of an account, if anything is
abbrev pub IfReports : RunOutcome → (Ask → Type 0) → Type 0
IfReports (Ended status) P = Unit {0}
IfReports (Serve config request) P = Unit {0}
IfReports (Control request) P = Unit {0}
IfReports (Audit request) P = P (ask.Audit request)
IfReports (Usage request) P = P (ask.Usage request)
