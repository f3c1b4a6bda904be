-- The text of a removal tells whether a job was removed, and so do the numbers of its jobs.
use Rattle.std.proofs.Common.{◌≡◌, ◌≢◌, ◌==◌, ℕ, Bool, true, false, List, [], ◌∷◌, length, map, refl, ap, sym, ◌∙◌, arith}
use Rattle.std.specs.Prelude.{Ok, if◌then◌else◌, vec_len}
use Rattle.std.specs.Str.{bytes_eq}
use Rattle.std.proofs.lemmas.Bool.Decides.{nat_tests}
use Rattle.lpd_values.specs.Texts.{or_nothing}
use Rattle.account.specs.declared.kind.Kind.TheVariants as kind
use Rattle.spool_history.specs.Base.{Base}
use Rattle.spool_history.specs.Choice.{chosen}
use Rattle.spool_history.specs.Events.{Event}
use Rattle.spool_history.specs.Now.{Job}
use Rattle.spool_history.specs.Told.{told_of}
use Rattle.spool_calls.specs.Looks.{Detail, What}
use Rattle.spool_calls.specs.Kept.{Kept}
use Rattle.spool_calls.specs.Calls.{before}
use Rattle.spool_ledgers.specs.Sums.{Sums, with_entry}
use Rattle.spool_core.specs.declared.telling.Removal.{Removal}
use Rattle.spool_core.specs.Halves.{FindsRemoval}
use Rattle.locked_spool.specs.Shares.{nothing_removed, when_removed, when_taken}

module _ {C : Type 0} where
  -- where none was, it says so
  pub tells_none : (jobs : List (Job C)) → map (λ (v : Job C). v.number) jobs ≡ [] → bytes_eq (or_nothing told_of jobs) nothing_removed ≡ true
  tells_none [] e = refl
  tells_none (v ∷ vs) e = absurd (cc)

  -- and where one was, it says something else
  pub tells_some : (jobs : List (Job C)) → map (λ (v : Job C). v.number) jobs ≢ [] → bytes_eq (or_nothing told_of jobs) nothing_removed ≡ false
  tells_some [] ne = absurd (ne refl)
  tells_some (v ∷ vs) ne = refl

empty : (n : ℕ) (xs : List ℕ) → (n == 0) ≡ true → length xs ≡ n → xs ≡ []
empty n [] e l = refl
empty n (x ∷ xs) e l = absurd (grind (arith, nat_tests))

pub not_empty : (n : ℕ) (xs : List ℕ) → (n == 0) ≡ false → length xs ≡ n → xs ≢ []
not_empty n xs e l z = absurd (let m : length xs ≡ 0 = ap length z in grind (arith, nat_tests))

-- no job was found
pub has_none : (r : Removal) → (vec_len r.numbers == 0) ≡ true → r.numbers.items ≡ []
has_none r none = empty (vec_len r.numbers) r.numbers.items none (let o = r.numbers.ok in omega arith)

pub has_some : (r : Removal) → (vec_len r.numbers == 0) ≡ false → r.numbers.items ≢ []
has_some r more = not_empty (vec_len r.numbers) r.numbers.items more (let o = r.numbers.ok in omega arith)

-- what the numbers tell is what the text tells
module _ (d : Detail) (b : Base) (h : List (Event (What d))) (k : Kept) (name agent : List ℕ) (list : List (List ℕ)) (r : Removal) (f : FindsRemoval d b h k name agent list (Ok r)) where
  abbrev jobs : List (Job (What d))
  jobs = chosen (before d b h k) r.queue agent list

  text_is : bytes_eq r.text nothing_removed ≡ bytes_eq (or_nothing told_of jobs) nothing_removed
  text_is = ap (λ (t : List ℕ). bytes_eq t nothing_removed) f.3

  by : (none : Bool) → (vec_len r.numbers == 0) ≡ none → (vec_len r.numbers == 0) ≡ bytes_eq r.text nothing_removed
  by true e = e ∙ sym (text_is ∙ tells_none jobs (sym f.2 ∙ has_none r e))
  by false e = e ∙ sym (text_is ∙ tells_some jobs (λ n. has_some r e (f.2 ∙ n)))

  pub as_told : (s : Sums) → when_taken (Ok r) s ≡ when_removed (Ok r.text) s
  as_told s = ap (λ (none : Bool). if none then s else with_entry kind.Removed s) (by (vec_len r.numbers == 0) refl)
