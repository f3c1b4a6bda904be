-- What a server can't open at its start.
use Rattle.std.specs.Prelude.{◌≡◌, ◌++◌, ℕ, List, Option, None, Some, codes, string_bytes}
use Rattle.program_edge.specs.Told.{fault_text}
use Rattle.program_edge.specs.declared.telling.FaultName.TheVariants.{Network, WriteFile}
use Rattle.program_edge.specs.declared.opening.FailedOpening as O
use Rattle.program_edge.specs.declared.opening.StartFault.{StartFault}
use Rattle.program_edge.specs.declared.opening.StartFault.TheVariants as fault
use Rattle.program_edge.specs.declared.opening.StartPart.{StartPart}
use Rattle.program_edge.specs.declared.opening.StartPart.TheVariants as kind

-- a fault of a file or a folder has its path, one of an address nothing
abbrev pub text_of : StartPart → List ℕ → List ℕ
text_of (kind.Printer number) at = fault_text WriteFile ++ codes " " ++ at
text_of kind.Spool at = fault_text WriteFile ++ codes " " ++ at
text_of kind.Account at = fault_text WriteFile ++ codes " " ++ at
text_of kind.Listener at = fault_text Network
text_of kind.Status at = fault_text Network

abbrev pub refusal_text : O.FailedOpening → List ℕ
refusal_text opening = text_of opening.what (string_bytes opening.at)

-- these are the octets of a text, where it tells them
abbrev pub IsText : Option (List ℕ) → List ℕ → Type 0
IsText (Some text) octets = octets ≡ text
IsText None octets = Unit {0}

-- this is what wasn't opened, where it is, and why
pub record Tells (part : StartPart) (place why : Option (List ℕ)) (opening : O.FailedOpening) : Type 0 where
  pub what : opening.what ≡ part
  pub at : IsText place (string_bytes opening.at)
  pub cause : IsText why (string_bytes opening.cause)

-- a fault tells it, or that memory was refused
abbrev pub IsRefusal : StartPart → (place why : Option (List ℕ)) → StartFault → Type 0
IsRefusal part place why (fault.Opening opening) = Tells part place why opening
IsRefusal part place why fault.Memory = Unit {0}

-- what wasn't opened is such a part, or memory was refused
abbrev pub IsUnopened : (StartPart → Type 0) → StartFault → Type 0
IsUnopened P (fault.Opening opening) = P opening.what
IsUnopened P fault.Memory = Unit {0}

abbrev pub IsPrinter : StartPart → Type 0
IsPrinter (kind.Printer number) = Unit {0}
IsPrinter _ = ⊥
