-- The first job that passes a test, by what is known of each.
use Rattle.std.proofs.Common.{◌≡◌, ℕ, ◌<◌, Bool, true, false, List, length, get_or, ◌∙◌, ap, arith}
use Rattle.std.specs.Prelude.{Some, None}
use Rattle.std.specs.List.{list_any}
use Rattle.std.proofs.lemmas.List.{get_or-map, get_or_default, length-map}
use Rattle.std.proofs.lemmas.List.Folds.{list_any_none, list_any_at}
use Rattle.held_jobs.specs.Jobs.{Facts, HeldJob, no_job}
use Rattle.held_jobs.specs.Turns.{FirstOf, facts_in, no_facts}

-- as much is known of jobs as there are
pub facts_len : (jobs : List HeldJob) → length (facts_in jobs) ≡ length jobs
facts_len jobs = length-map jobs (λ (j : HeldJob). j.facts)

-- what is known of the job at a place
pub facts_at : (jobs : List HeldJob) (k : ℕ) → k < length jobs → get_or (facts_in jobs) k no_facts ≡ (get_or jobs k no_job).facts
facts_at jobs k lt = get_or-map (λ (j : HeldJob). j.facts) jobs k no_job no_facts lt

module _ (test : Facts → Bool) (jobs : List HeldJob) where
  -- it stands at this place
  pub first_some : (i : ℕ) → i < length jobs → test (get_or jobs i no_job).facts ≡ true → ((k : ℕ) → k < i → test (get_or jobs k no_job).facts ≡ false) → FirstOf test (facts_in jobs) (Some i)
  first_some i lt is before =
      let n = facts_len jobs in
      (omega (arith, n, lt), ap test (facts_at jobs i lt) ∙ is, λ k less. ap test (facts_at jobs k (omega (arith, less, lt))) ∙ before k less)

  -- so one of them does
  pub some_any : (i : ℕ) → i < length jobs → test (get_or jobs i no_job).facts ≡ true → list_any test (facts_in jobs) ≡ true
  some_any i lt is = (let n = facts_len jobs in list_any_at test (facts_in jobs) i no_facts (omega (arith, n, lt)) (ap test (facts_at jobs i lt) ∙ is))

  -- or none passes it
  pub first_none : (n : ℕ) → n ≡ length jobs → ((k : ℕ) → k < n → test (get_or jobs k no_job).facts ≡ false) → FirstOf test (facts_in jobs) None
  first_none n all none = λ k less. (
      let m = facts_len jobs in
      let lt : k < length jobs = omega (arith, less, m) in
      ap test (facts_at jobs k lt) ∙ none k (omega (arith, all, lt)))

  -- so it isn't among them
  pub none_any : (n : ℕ) → n ≡ length jobs → ((k : ℕ) → k < n → test (get_or jobs k no_job).facts ≡ false) → list_any test (facts_in jobs) ≡ false
  none_any n all none = list_any_none test (facts_in jobs) (λ k d less. (
      let m = facts_len jobs in
      ap test (get_or_default (facts_in jobs) k d no_facts less) ∙ first_none n all none k less))
