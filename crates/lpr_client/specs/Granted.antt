-- What a session writes for a job where no request is refused.
use Rattle.std.specs.Prelude.{◌≡◌, ℕ, true, false, List, [], ◌∷◌, All}
use Rattle.receiver.specs.Script.{Output, Wrote, Asked, Reply, Refused, octets_written}
use Rattle.receiver.specs.Reading.{start, kind_of, fits}
use Rattle.receiver.specs.Reads.{Reads}

abbrev pub IsGrant : Reply → Type 0
IsGrant (Refused refusal) = ⊥
IsGrant _ = Unit {0}

-- each request among these outputs that is answered is granted, by an answer that fits it
abbrev pub AreGranted : List Output → List Reply → Type 0
AreGranted [] a = Unit {0}
AreGranted (Wrote w ∷ os) a = AreGranted os a
AreGranted (Asked r ∷ os) [] = Unit {0}
AreGranted (Asked r ∷ os) (x ∷ a) = (fits (kind_of r) x ≡ true) × IsGrant x × AreGranted os a

-- Where memory is ample and no request is refused, whatever the answers are (tickets of any sizes, Later any number of
-- times, a job that is whole at any file), each octet that a session writes for these octets is 00.
abbrev pub IsAcknowledged : List ℕ → Type 0
IsAcknowledged octets =
    (os : List Output) (a : List Reply) → Reads false os start octets a → AreGranted os a →
    All (λ b. b ≡ 0) (octets_written os)
