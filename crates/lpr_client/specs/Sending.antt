-- What sending a job wrote and read, where it stopped.
use Rattle.std.specs.Prelude.{◌≡◌, ◌≢◌, ◌<◌, ◌≤◌, ◌+◌, ◌++◌, ℕ, List, [], ◌∷◌, Option, Result, Err, length, take, replicate}
use Rattle.std.specs.List.{concat}
use Rattle.lpd_commands.specs.Ends.{one_more, IsReadOut, Took, Writes, WritesSome}
use Rattle.lpr_client.specs.declared.send.SendFault.{SendFault}
use Rattle.lpr_client.specs.declared.send.SendFault.TheVariants.{Refused, Cut, ReadFault, WriteFault, Memory}

-- Where sending stopped by a fault after k acknowledgements: the octets of the parts that were written, and the octets
-- that were read. Each acknowledgement was 00. What a failed write left is a head of the first k + 1 parts that has the
-- first k whole; in each other case the first k + 1 parts were written whole.
abbrev pub StopsAt : SendFault → ℕ → List (List ℕ) → List ℕ → List ℕ → Type 0
StopsAt (Refused octet) k parts written read =
    (octet ≢ 0) × (written ≡ concat (take (k + 1) parts)) × (read ≡ replicate k 0 ++ octet ∷ [])
StopsAt Cut k parts written read =
    (written ≡ concat (take (k + 1) parts)) × (read ≡ replicate k 0)
StopsAt ReadFault k parts written read =
    (written ≡ concat (take (k + 1) parts)) × (read ≡ replicate k 0)
StopsAt WriteFault k parts written read =
    ((n : ℕ) × (written ≡ take n (concat (take (k + 1) parts))) × (length (concat (take k parts)) ≤ n))
    × (read ≡ replicate k 0)
StopsAt Memory k parts written read = ⊥

-- sending these parts stopped by a fault, by what is left of the reader and written of the writer
pub record Stops (fault : SendFault) (parts : List (List ℕ))
    (left rest was now : Option (List ℕ)) : Type 0 where
  pub acknowledged : ℕ
  pub within : acknowledged < length parts
  pub written : List ℕ
  pub read : List ℕ
  pub stops : StopsAt fault acknowledged parts written read
  pub wrote : Writes was now written
  pub took : Took left rest read
  pub cut : fault ≡ Cut → IsReadOut rest

-- where memory was refused nothing was written or read
abbrev pub StopsOrNot :
    SendFault → List (List ℕ) → (left rest was now : Option (List ℕ)) → Type 0
StopsOrNot Memory parts left rest was now = (rest ≡ left) × (now ≡ was)
StopsOrNot fault parts left rest was now = Stops fault parts left rest was now

-- all parts were written, and each acknowledged by an octet 00
abbrev pub AllSent : List (List ℕ) → (left rest was now : Option (List ℕ)) → Type 0
AllSent parts left rest was now =
    Writes was now (concat parts) × Took left rest (replicate (length parts) 0)

-- what is read where an acknowledgement is due, but isn't there
abbrev pub LacksOne : SendFault → Option (List ℕ) → Option (List ℕ) → Type 0
LacksOne (Refused octet) left rest = (octet ≢ 0) × Took left rest (octet ∷ [])
LacksOne Cut left rest = (rest ≡ left) × IsReadOut rest
LacksOne ReadFault left rest = rest ≡ left
LacksOne _ left rest = ⊥

-- sending one part stopped by a fault
abbrev pub PartStops : SendFault → List ℕ → (left rest was now : Option (List ℕ)) → Type 0
PartStops WriteFault part left rest was now = WritesSome was now part × (rest ≡ left)
PartStops fault part left rest was now = Writes was now part × LacksOne fault left rest

-- how often a reader has failed after a result: once more where that was the cause, and as often as before otherwise
abbrev pub reader_faults : Result (Unit {0}) SendFault → ℕ → ℕ
reader_faults (Err ReadFault) n = one_more n
reader_faults _ n = n

-- the same of a writer
abbrev pub writer_faults : Result (Unit {0}) SendFault → ℕ → ℕ
writer_faults (Err WriteFault) n = one_more n
writer_faults _ n = n

-- how often a reader was read after sending a part came to this: once more, unless writing the part failed
abbrev pub part_reads : Result (Unit {0}) SendFault → ℕ → ℕ
part_reads (Err WriteFault) n = n
part_reads _ n = one_more n
