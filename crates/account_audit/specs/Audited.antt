-- What contracts see of an audit.
use Rattle.std.specs.Prelude.{ℕ, ◌≤◌, List, ◌∷◌, Option, MatchOption}
use Rattle.std.specs.List.{AllByRecursion}
use Rattle.config_values.specs.Config as S
use Rattle.spool_history.specs.Base.{Base}
use Rattle.spool_history.specs.Events.{Event}
use Rattle.spool_history.specs.Legal.{IsLegal, IsLeftBy}
use Rattle.account.specs.declared.entry.Entry.{Entry}
use Rattle.account.specs.declared.entry.Outline.{Outline}
use Rattle.account.specs.Seen.{event_seen, octets}
use Rattle.history_reader.specs.Seen.{state_seen}
use Rattle.history_reader.specs.declared.state.Job.{Job}
use Rattle.history_reader.specs.declared.state.State.{State}

pub record Audited : Type 0 where
  -- where the entries that were read leave the spool
  pub state : State
  -- how many were read, the sum of the numbers of their kinds, and how many are hand-outs
  pub entries : ℕ
  pub kinds : ℕ
  pub handed : ℕ

-- a job was lent, and had at printers, no more pages than so many entries tell of
abbrev pub IsFew : ℕ → Job → Type 0
IsFew n job = (job.granted ≤ n) × (job.handed ≤ n) × (job.back ≤ n)

abbrev pub AreFew : ℕ → List Job → Type 0
AreFew n jobs = AllByRecursion (IsFew n) jobs

-- from any base, where the entries so far are legal and leave the spool here: with this entry more they are legal exactly
-- where an audit goes on, and that one stands where they leave the spool then
abbrev pub Decides : S.Config → Audited → Entry → Option Audited → Type 0
Decides c was e r =
    (b : Base) (h : List (Event Outline)) → IsLeftBy octets b h (state_seen c was.state)
    → MatchOption r (IsLegal octets c b (event_seen e ∷ h) → ⊥) (λ (is : Audited). IsLeftBy octets b (event_seen e ∷ h) (state_seen c is.state))
