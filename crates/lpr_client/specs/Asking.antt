-- What comes of a question: a text that is handed on, or a fault (RFC 1179, sections 5.1 and 5.3 to 5.5).
use Rattle.std.specs.Prelude.{◌≡◌, ◌≢◌, ◌⊎◌, ◌<◌, ◌≤◌, ◌++◌, ◌∷◌, ℕ, List, [], Option, Some, None, Result, Ok, Err, length}
use Rattle.lpd_commands.specs.Ends.{IsReadOut, Took, Writes, WritesSome, most_reads, one_more}
use Rattle.lpr_client.specs.declared.asking.AskFault.{AskFault}
use Rattle.lpr_client.specs.declared.asking.AskFault.TheVariants.{Server, Output}
use Rattle.lpr_client.specs.declared.send.SendFault.{SendFault}
use Rattle.lpr_client.specs.declared.send.SendFault.TheVariants.{Refused, Cut, ReadFault, WriteFault, Memory}

-- one octet was read, or nothing was left
abbrev pub TookOne : Option ℕ → (left rest : Option (List ℕ)) → Type 0
TookOne None left rest = (rest ≡ left) × IsReadOut rest
TookOne (Some octet) left rest = Took left rest (octet ∷ [])

-- these octets were read, and no others are left
abbrev pub TookAll : (left rest : Option (List ℕ)) → List ℕ → Type 0
TookAll left rest octets = Took left rest octets × IsReadOut rest

-- an answer that is a text: some octets, and not one alone that is below a space
abbrev pub IsText : List ℕ → Type 0
IsText [] = ⊥
IsText (octet ∷ []) = 32 ≤ octet
IsText (octet ∷ next ∷ octets) = Unit {0}

-- these octets, and then all that a reader had, were written
abbrev pub HandsOn : List ℕ → (left rest was now : Option (List ℕ)) → Type 0
HandsOn head left rest was now = (octets : List ℕ) × TookAll left rest octets × Writes was now (head ++ octets)

-- the same, but writing stopped after some of them, or reading did
abbrev pub HandsSomeOn : List ℕ → (left rest was now : Option (List ℕ)) → Type 0
HandsSomeOn head left rest was now =
    (octets : List ℕ) × Took left rest octets × WritesSome was now (head ++ octets)

-- the whole answer is a text, and was written
abbrev pub IsHandedOn : (left rest was now : Option (List ℕ)) → Type 0
IsHandedOn left rest was now =
    (text : List ℕ) × TookAll left rest text × IsText text × Writes was now text

-- what was read and written of an answer that isn't handed on whole. Of one octet alone that is below a space, and of
-- none, nothing was written
abbrev pub StopsAnswer : AskFault → (left rest was now : Option (List ℕ)) → Type 0
StopsAnswer (Server (Refused octet)) left rest was now =
    (octet < 32) × TookAll left rest (octet ∷ []) × (now ≡ was)
StopsAnswer (Server Cut) left rest was now = TookAll left rest [] × (now ≡ was)
StopsAnswer (Server ReadFault) left rest was now = HandsSomeOn [] left rest was now
StopsAnswer (Server WriteFault) left rest was now = (rest ≡ left) × (now ≡ was)
StopsAnswer (Server Memory) left rest was now = ⊥
StopsAnswer Output left rest was now = HandsSomeOn [] left rest was now

-- what was read where no silence was answered
abbrev pub BreaksSilence : SendFault → (left rest : Option (List ℕ)) → Type 0
BreaksSilence (Refused octet) left rest = Took left rest (octet ∷ [])
BreaksSilence Cut left rest = ⊥
BreaksSilence ReadFault left rest = rest ≡ left
BreaksSilence WriteFault left rest = rest ≡ left
BreaksSilence Memory left rest = ⊥

-- the line of a question was written, or some of it where writing is what failed
abbrev pub IsAsked : List ℕ → Result (Unit {0}) SendFault → (was now : Option (List ℕ)) → Type 0
IsAsked line (Err WriteFault) was now = WritesSome was now line
IsAsked line _ was now = Writes was now line

-- how asking ended with the server, whatever came of handing its answer on
abbrev pub with_server : Result (Unit {0}) AskFault → Result (Unit {0}) SendFault
with_server (Err (Server fault)) = Err fault
with_server _ = Ok tt

-- how often a writer of the answer has failed after a result: once more where that was the cause
abbrev pub output_faults : Result (Unit {0}) AskFault → ℕ → ℕ
output_faults (Err Output) n = one_more n
output_faults _ n = n

-- a reader failed once more, or each of as many reads as are made at most gave octets
abbrev pub HasFailed : (faults faults' : ℕ) → (left rest : Option (List ℕ)) → Type 0
HasFailed faults faults' left rest =
    (faults' ≡ one_more faults) ⊎ ((octets : List ℕ) × Took left rest octets × (most_reads ≤ length octets))
