-- What seats have added.
use Rattle.std.specs.Prelude.{◌≡◌, ◌<◌, ◌+◌, ℕ, Bool, true, false, All, List, Result, Ok, Err, Some, length, slice_get, sum_by}
use Rattle.account.specs.declared.kind.Kind.{Kind}
use Rattle.spool_calls.specs.declared.answers.Next.{Next}
use Rattle.spool_calls.specs.declared.answers.Next.TheVariants as next
use Rattle.spool_ledgers.specs.Sums.{Sums, no_sums}
use Rattle.locked_spool.specs.Shares.{when_done, when_handed}

-- a printer's seat: its number, from 1, whether a page that it was handed is out, and its shares
pub record Desk : Type 0 where
  pub printer : ℕ
  pub is_out : Bool
  pub sums : Sums

-- a seat of this number, that added nothing yet
abbrev pub new_desk : ℕ → Desk
new_desk printer = record { printer = printer; is_out = false; sums = no_sums 1 }

-- a page is out after one was handed, or where one was
abbrev pub is_out_after : Next → Bool → Bool
is_out_after (next.Handed page) was = true
is_out_after _ was = was

-- its page is out from a hand-out on
abbrev pub next_desk : Next → Desk → Desk
next_desk answer d = record { printer = d.printer; is_out = is_out_after answer d.is_out; sums = when_handed answer d.sums }

-- until one comes back that isn't foreign
abbrev pub is_out_still : {A B : Type 0} → Result A B → Bool → Bool
is_out_still (Ok x) was = false
is_out_still (Err e) was = was

-- a page that came back, which writes an entry of this kind where it isn't foreign
abbrev pub back_desk : {A B : Type 0} → Kind → Result A B → Desk → Desk
back_desk kind answer d =
    record { printer = d.printer; is_out = is_out_still answer d.is_out; sums = when_done kind answer d.sums }

-- the seats of the printers, by their numbers
abbrev pub IsRowOfDesks : List Desk → Type 0
IsRowOfDesks desks = (i : ℕ) → i < length desks → slice_get desks i ≡ Some (new_desk (i + 1))

-- so many seats of sessions, none of which added anything
abbrev pub AreFresh : ℕ → List Sums → Type 0
AreFresh n seats = (length seats ≡ n) × All (λ s. s ≡ no_sums 1) seats

-- the seats of so many printers, by their numbers
abbrev pub AreDesks : ℕ → List Desk → Type 0
AreDesks n desks = (length desks ≡ n) × IsRowOfDesks desks

-- what all these seats added
abbrev pub entries_by : List Sums → List Desk → ℕ
entries_by sessions printers = sum_by (λ (s : Sums). s.entries) sessions + sum_by (λ (d : Desk). d.sums.entries) printers

abbrev pub kinds_by : List Sums → List Desk → ℕ
kinds_by sessions printers = sum_by (λ (s : Sums). s.kinds) sessions + sum_by (λ (d : Desk). d.sums.kinds) printers

-- the hand-outs, of which a session's seat has none
abbrev pub handed_by_all : List Desk → ℕ
handed_by_all printers = sum_by (λ (d : Desk). d.sums.handed) printers
