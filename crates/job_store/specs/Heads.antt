-- What the head of a file says.
use Rattle.std.specs.Prelude.{◌≡◌, ◌<◌, ◌^◌, ◌++◌, ℕ, List, Option, IfSome, Result, Ok, Err}
use Rattle.lpd_commands.specs.Ends.{Took}
use Rattle.job_heads.specs.Head.{head, name}
use Rattle.job_heads.specs.declared.HeadFault.{HeadFault}
use Rattle.job_heads.specs.declared.HeadFault.TheVariants.{OtherVersion}

-- these octets don't begin with a head of this version; with the name that heads of all versions begin with, where the fault says so
pub record IsHeadless (octets : List ℕ) (fault : HeadFault) : Type 0 where
  pub none : (sender : ℕ) (rest : List ℕ) → sender < 2 ^ 32 → octets ≡ head sender ++ rest → ⊥
  pub other : fault ≡ OtherVersion → (rest : List ℕ) × (octets ≡ name ++ rest)

-- a head was read, or there is none
abbrev pub HasSender : (left rest : Option (List ℕ)) → Result ℕ HeadFault → Type 0
HasSender left rest (Ok sender) = Took left rest (head sender)
HasSender left rest (Err fault) = IfSome left (λ octets. IsHeadless octets fault)
