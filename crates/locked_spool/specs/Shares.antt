-- How an answer moves the share of whoever called: by one entry of the call's kind where the answer is one that writes an entry.
use Rattle.std.specs.Prelude.{◌≡◌, ◌⊎◌, ℕ, ◌++◌, ◌==◌, [], ◌∷◌, List, Result, Ok, Err, if◌then◌else◌, codes, length, vec_len}
use Rattle.std.specs.Str.{bytes_eq}
use Rattle.lpd_values.specs.declared.refusal.Refusal.{Refusal}
use Rattle.account.specs.declared.kind.Kind.{Kind}
use Rattle.account.specs.declared.kind.Kind.TheVariants as kind
use Rattle.spool_calls.specs.declared.answers.Asked.{Asked}
use Rattle.spool_calls.specs.declared.answers.Asked.TheVariants as asked
use Rattle.spool_calls.specs.declared.answers.Next.{Next}
use Rattle.spool_calls.specs.declared.answers.Next.TheVariants as next
use Rattle.spool_core.specs.declared.closing.Started.{Started}
use Rattle.spool_core.specs.declared.telling.Removal.{Removal}
use Rattle.spool_core.specs.declared.removing.Unremoved.{Unremoved}
use Rattle.spool_ledgers.specs.Sums.{Sums, with_entry}

-- a call that did what it was to do writes an entry of this kind
abbrev pub when_done : {A B : Type 0} → Kind → Result A B → Sums → Sums
when_done k (Ok x) s = with_entry k s
when_done k (Err e) s = s

-- a page that was lent
abbrev pub when_lent : Result Asked Refusal → Sums → Sums
when_lent (Ok (asked.Page ticket)) s = with_entry kind.Granted s
when_lent (Ok asked.Later) s = s
when_lent (Err refusal) s = s

-- a page that was handed out
abbrev pub when_handed : Next → Sums → Sums
when_handed (next.Handed page) s = with_entry kind.Handed s
when_handed _ s = s

-- the text that tells that nothing was removed
abbrev pub nothing_removed : List ℕ
nothing_removed = codes "nothing removed" ++ 10 ∷ []

-- a removal that took a job, as its text tells
abbrev pub when_removed : Result (List ℕ) Refusal → Sums → Sums
when_removed (Ok text) s = if bytes_eq text nothing_removed then s else with_entry kind.Removed s
when_removed (Err refusal) s = s

-- a removal that took a job, as the numbers of its jobs tell
abbrev pub when_taken : Result Removal Refusal → Sums → Sums
when_taken (Ok removal) s = if vec_len removal.numbers == 0 then s else with_entry kind.Removed s
when_taken (Err refusal) s = s

-- a removal of jobs by their numbers, if there are any
abbrev pub when_listed : List ℕ → Result ℕ Unremoved → Sums → Sums
when_listed numbers (Ok q) s = if length numbers == 0 then s else with_entry kind.Removed s
when_listed numbers (Err e) s = s

-- a start that started a printer, as its answer tells
abbrev pub when_started : Result Started Refusal → Sums → Sums
when_started (Ok found) s = if found.stopped == 0 then s else with_entry kind.Started s
when_started (Err refusal) s = s

-- an answer that doesn't tell whether an entry of this kind was written: one or none
abbrev pub OneOrNone : Kind → (old new : Sums) → Type 0
OneOrNone k old new = (new ≡ old) ⊎ (new ≡ with_entry k old)

-- a start that was done may have started a printer or none
abbrev pub WhenStarted : Result (Unit {0}) Refusal → (old new : Sums) → Type 0
WhenStarted (Ok done) old new = OneOrNone kind.Started old new
WhenStarted (Err refusal) old new = new ≡ old
