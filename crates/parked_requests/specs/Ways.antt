-- Which way a job goes that is opened.
use Rattle.std.specs.Prelude.{◌≡◌, ◌⊎◌, ◌++◌, ℕ, List, Option, None, Some, Result, Ok, Err}
use Rattle.lpd_values.specs.declared.refusal.Refusal.{Refusal}
use Rattle.lpd_values.specs.declared.refusal.Refusal.TheVariants.{AccountFull, TableFull}
use Rattle.page_pool.specs.Page.{Page}
use Rattle.receiver.specs.Script.{Request, Open}
use Rattle.spool_requests.specs.declared.answer.Answer.{Answer}
use Rattle.spool_requests.specs.declared.answer.Answer.TheVariants.{Accepted, Refused}
use Rattle.parked_requests.specs.declared.ways.OpenedJob.{OpenedJob}

-- what an answer to a request may be, and what it leaves
abbrev pub Carrying : Type 0 → Type 1
Carrying Q = Q → (sender job : ℕ) → Request → Answer → Q → Type 0

-- what the end of a session leaves that has a job in hand, and this page
abbrev pub Ending : Type 0 → Type 1
Ending Q = Q → (job : ℕ) → Option Page → Q → Type 0

-- the spool has no room for a job now
abbrev pub IsFull : Refusal → Type 0
IsFull TableFull = Unit {0}
IsFull AccountFull = Unit {0}
IsFull refusal = ⊥

-- this text, and more behind it
abbrev pub AddsTo : (text told : List ℕ) → Type 0
AddsTo text told = (more : List ℕ) × (told ≡ text ++ more)

-- the spool was asked to accept a job, and has no room for it now
pub record FindsFull {Q : Type 0} (carries : Carrying Q) (old : Q) (sender job : ℕ) (queue : List ℕ) (new : Q) : Type 0 where
  pub refusal : Refusal
  pub full : IsFull refusal
  pub asked : carries old sender job (Open queue) (Refused refusal) new

-- The spool has accepted the job under this number; or it goes beside: nothing was asked, or the spool has no room for it.
abbrev pub OpensAs : {Q : Type 0} → Carrying Q → Q → (sender job : ℕ) → (queue : List ℕ) → Option ℕ → Q → Type 0
OpensAs carries old sender job queue (Some number) new = carries old sender job (Open queue) (Accepted number) new
OpensAs carries old sender job queue None new = (new ≡ old) ⊎ FindsFull carries old sender job queue new

-- so it is where a job was opened; any refusal is the spool's
abbrev pub Opens : {Q : Type 0} → Carrying Q → Q → (sender job : ℕ) → (queue : List ℕ) → Result OpenedJob Refusal → Q → Type 0
Opens carries old sender job queue (Ok opened) new = OpensAs carries old sender job queue opened.job new
Opens carries old sender job queue (Err refusal) new = carries old sender job (Open queue) (Refused refusal) new
