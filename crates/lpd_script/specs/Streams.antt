-- What a run leaves of its reader and its writers.
use Rattle.std.specs.Prelude.{◌≡◌, ◌⊎◌, ◌++◌, ◌≤◌, ℕ, List, [], Option, Some, None, Result, Err, length}
use Rattle.lpd_commands.specs.Ends.{many_more, most_reads, one_more}
use Rattle.lpd_script.specs.declared.fault.Fault.{Fault}
use Rattle.lpd_script.specs.declared.fault.Fault.TheVariants.{Memory, ReadFile, WriteFile}

-- a reader has given these octets, as far as it tells them
abbrev pub HasGiven : Option (List ℕ) → Option (List ℕ) → List ℕ → Type 0
HasGiven None now octets = now ≡ None
HasGiven (Some old) now octets = (rest : List ℕ) × (old ≡ octets ++ rest) × (now ≡ Some rest)

-- a reader has given these octets and has no others, as far as it tells them
abbrev pub HasGivenAll : Option (List ℕ) → Option (List ℕ) → List ℕ → Type 0
HasGivenAll None now octets = now ≡ None
HasGivenAll (Some old) now octets = (old ≡ octets) × (now ≡ Some [])

-- nothing is left, as far as the reader tells it
abbrev pub IsReadOut : Option (List ℕ) → Type 0
IsReadOut None = Unit {0}
IsReadOut (Some left) = left ≡ []

-- nothing is left after a run, unless reading or memory stopped it
abbrev pub IsReadOutAfter : Option (List ℕ) → Result (Unit {0}) Fault → Type 0
IsReadOutAfter left (Err ReadFile) = Unit {0}
IsReadOutAfter left (Err Memory) = Unit {0}
IsReadOutAfter left _ = IsReadOut left

-- what can stop the reading of the input
abbrev pub IsReadingFault : Fault → Type 0
IsReadingFault fault = (fault ≡ Memory) ⊎ (fault ≡ ReadFile)

-- a writer's octets and faults are as they were
abbrev pub IsUntouched : Option (List ℕ) → ℕ → Option (List ℕ) → ℕ → Type 0
IsUntouched old old_faults new new_faults = (new ≡ old) × (new_faults ≡ old_faults)

-- a writer's faults after a run: one more where writing is what failed
abbrev pub write_faults : ℕ → Result (Unit {0}) Fault → ℕ
write_faults n (Err WriteFile) = one_more n
write_faults n _ = n

-- a read failed, or each of 4,294,967,295 reads gave octets
abbrev pub IsUnread : (old_faults new_faults : ℕ) → (old new : Option (List ℕ)) → Type 0
IsUnread old_faults new_faults old new =
    (new_faults ≡ one_more old_faults)
    ⊎ ((octets : List ℕ) × HasGiven old new octets × (most_reads ≤ length octets))

-- a read failed, or as many reads were made as are made at most
abbrev pub HasGivenUp : (faults faults' reads reads' : ℕ) → Type 0
HasGivenUp faults faults' reads reads' =
    (faults' ≡ one_more faults) ⊎ ((n : ℕ) × (n ≡ most_reads) × (reads' ≡ many_more n reads))
