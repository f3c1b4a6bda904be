-- What claims say, in the words of the definitions, and what it takes that one of them goes first.
use Rattle.std.specs.Prelude.{ℕ, Bool, ◌+◌, ◌-◌, List, map, remove, sum_by, slice_index_or}
use Rattle.std.specs.List.{AllByRecursion}
use Rattle.counts.specs.Amounts.{amount, Fits}
use Rattle.claims.specs.declared.row.Row.{Row}
use Rattle.claims.specs.Safety.{KeepsLine, HasFinishingOrder, freed}
use Rattle.config_values.specs.Config as S
use Rattle.spool_history.specs.Now.{Job, amounts, capacity}
use Rattle.history_legality.specs.declared.orders.Claim.{Claim}

abbrev pub row_seen : S.Config → Claim → Row
row_seen c x = record {
  number = x.number;
  sender = x.sender;
  queue = x.queue;
  held = amounts c x.held_pages x.queue x.held_printers;
  need = amounts c x.need_pages x.queue x.need_printers;
}

abbrev pub rows_seen : S.Config → List Claim → List Row
rows_seen c claims = map (row_seen c) claims

-- what rows hold of a kind
abbrev pub held_in : ℕ → List Row → ℕ
held_in kind rows = sum_by (λ (row : Row). amount row.held kind) rows

-- what is free once these claims gave back what they held
abbrev pub with_back : S.Config → (ℕ → ℕ) → List Claim → ℕ → ℕ
with_back c free gone kind = free kind + held_in kind (rows_seen c gone)

abbrev pub no_claim : Claim
no_claim = record { number = 0; sender = 0; queue = 0; held_pages = 0; held_printers = 0; need_pages = 0; need_printers = 0 }

abbrev pub claim_at : List Claim → ℕ → Claim
claim_at claims place = slice_index_or claims place no_claim

-- the claim at a place may go first, and the others have an order after it
pub record GoesAt (c : S.Config) (free : ℕ → ℕ) (claims : List Claim) (place : ℕ) : Type 0 where
  pub stands : AllByRecursion (KeepsLine (row_seen c (claim_at claims place))) (rows_seen c (remove claims place))
  pub fits : Fits (row_seen c (claim_at claims place)).need free
  pub rest : HasFinishingOrder (freed free (row_seen c (claim_at claims place))) (rows_seen c (remove claims place))

-- what is free of each kind where these rows are all
abbrev pub free_beside : S.Config → List Row → ℕ → ℕ
free_beside c rows kind = amount (capacity c) kind - held_in kind rows

-- rows that are all have an order
abbrev pub AreSafe : S.Config → List Row → Type 0
AreSafe c rows = HasFinishingOrder (free_beside c rows) rows

-- the job where so many pages were lent to it, and one is lent now or not
abbrev pub with_lent : {C : Type 0} → ℕ → Bool → Job C → Job C
with_lent granted lent job = record job { granted = granted; lent = lent }
