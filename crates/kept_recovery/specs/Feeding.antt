-- What feeding kept jobs comes to.
use Rattle.std.specs.Prelude.{◌≡◌, ℕ, List, [], ◌∷◌, Option, IfSome}
use Rattle.lpd_commands.specs.Ends.{Took}
use Rattle.job_heads.specs.Head.{head}
use Rattle.job_store.specs.Files.{IsNotThere, IsOfFile}
use Rattle.job_store.specs.Heads.{IsHeadless}
use Rattle.request_session.specs.declared.ending.SessionEnd.{SessionEnd}
use Rattle.request_session.specs.Carried.{Carrying, Ending}
use Rattle.request_session.specs.Served.{ServedBy, Side, Source, around}
use Rattle.kept_recovery.specs.declared.feeding.Fed.{Fed}
use Rattle.kept_recovery.specs.declared.feeding.Fed.TheVariants as fed

module _ {Q : Type 0} (carries : Carrying Q) (ends : Ending Q) where
  -- what stands behind the head of a file was served as a session of the sender that the head names
  pub record Serves (told : Option (Option (List ℕ))) (end : SessionEnd) (old new : Q) : Type 0 where
    -- what its reader tells before the head, behind it, and at the end
    pub left : Option (List ℕ)
    pub of_file : IsOfFile told left
    pub sender : ℕ
    pub behind : Source
    pub headed : Took left behind.octets (head sender)
    pub rest : Source
    -- what is written goes nowhere
    pub first : Side
    pub last : Side
    pub served : ServedBy carries ends end sender (around behind first old) (around rest last new)

  -- what came of feeding a job, by what is told of its whole file
  abbrev pub Feeds : Option (Option (List ℕ)) → Fed → (old new : Q) → Type 0
  Feeds told (fed.Served end) old new = Serves told end old new
  Feeds told (fed.Headless fault) old new =
      (new ≡ old) × (left : Option (List ℕ)) × IsOfFile told left × IfSome left (λ octets. IsHeadless octets fault)
  Feeds told fed.Absent old new = (new ≡ old) × IsNotThere told
  Feeds told other old new = new ≡ old

  -- what came of feeding jobs, one after another
  abbrev pub FeedsAll : (ℕ → Option (Option (List ℕ))) → List ℕ → List Fed → (old new : Q) → Type 0
  FeedsAll told [] [] old new = new ≡ old
  FeedsAll told (job ∷ jobs) (one ∷ more) old new = (mid : Q) × Feeds (told job) one old mid × FeedsAll told jobs more mid new
  FeedsAll told jobs more old new = ⊥
