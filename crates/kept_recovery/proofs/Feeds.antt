-- Jobs are fed, one after another.
use Rattle.std.proofs.Common.{◌≡◌, ◌<◌, ◌+◌, ℕ, List, [], ◌∷◌, ◌++◌, Option, Some, None, IfSome, refl, length, take, get_or, ap, subst, ◌∙◌}
use Rattle.std.proofs.lemmas.List.{take_more}
use Rattle.job_store.specs.Files.{Files, SameJobs, whole_told}
use Rattle.request_session.specs.Carried.{Carrying, Ending}
use Rattle.kept_recovery.specs.declared.feeding.Fed.{Fed}
use Rattle.kept_recovery.specs.Feeding.{Feeds, FeedsAll}

-- the same is told of whole files
pub told_same : {D : Type 0} (files : Option (D → Files)) (a b : D) (n : ℕ) → IfSome files (λ tell. SameJobs (tell a) (tell b))
    → whole_told files b n ≡ whole_told files a n
told_same None a b n same = refl
told_same (Some tell) a b n same = ap (λ (whole : ℕ → Option (List ℕ)). Some (whole n)) same.whole

pub told_still : {D : Type 0} (files : Option (D → Files)) (a b : D) (n : ℕ) → IfSome files (λ tell. tell b ≡ tell a)
    → whole_told files b n ≡ whole_told files a n
told_still None a b n same = refl
told_still (Some tell) a b n same = ap (λ (f : Files). Some (f.whole n)) same

-- files that stay have the same jobs
pub still_same : {D : Type 0} (files : Option (D → Files)) (a b d : D) → IfSome files (λ tell. SameJobs (tell a) (tell b))
    → IfSome files (λ tell. tell d ≡ tell b)
    → IfSome files (λ tell. SameJobs (tell a) (tell d))
still_same None a b d same still = tt
still_same (Some tell) a b d same still = record {
  whole = ap (λ (f : Files). f.whole) still ∙ same.whole;
  failed = ap (λ (f : Files). f.failed) still ∙ same.failed;
}

pub stays_more : {D : Type 0} (files : Option (D → Files)) (a b d : D) → IfSome files (λ tell. tell b ≡ tell a)
    → IfSome files (λ tell. tell d ≡ tell b)
    → IfSome files (λ tell. tell d ≡ tell a)
stays_more None a b d first then_ = tt
stays_more (Some tell) a b d first then_ = then_ ∙ first

module _ {Q : Type 0} (carries : Carrying Q) (ends : Ending Q) where
  pub feeds_more : (told : ℕ → Option (Option (List ℕ))) (jobs : List ℕ) (all : List Fed) (job : ℕ) (one : Fed) (a b c : Q)
      → FeedsAll carries ends told jobs all a b → Feeds carries ends (told job) one b c
      → FeedsAll carries ends told (jobs ++ job ∷ []) (all ++ one ∷ []) a c
  feeds_more told [] [] job one a b c so_far now = (c, subst (λ x. Feeds carries ends (told job) one x c) so_far now, refl)
  feeds_more told [] (x ∷ xs) job one a b c so_far now = absurd so_far
  feeds_more told (first ∷ jobs) [] job one a b c so_far now = absurd so_far
  feeds_more told (first ∷ jobs) (x ∷ xs) job one a b c so_far now =
      (so_far.0, so_far.1, feeds_more told jobs xs job one so_far.0 b c so_far.2 now)

  pub feeds_next : (told : ℕ → Option (Option (List ℕ))) (jobs : List ℕ) (i : ℕ) (all next : List Fed) (one : Fed) (a b c : Q)
      → i < length jobs → next ≡ all ++ one ∷ [] → FeedsAll carries ends told (take i jobs) all a b
      → Feeds carries ends (told (get_or jobs i 0)) one b c → FeedsAll carries ends told (take (i + 1) jobs) next a c
  feeds_next told jobs i all next one a b c less pushed so_far now =
      rw (take_more jobs i 0 less, pushed) (feeds_more told (take i jobs) all (get_or jobs i 0) one a b c so_far now)

  -- of jobs of which the same is told
  pub feeds_same : (told other : ℕ → Option (Option (List ℕ))) (jobs : List ℕ) (all : List Fed) (a b : Q) → ((n : ℕ) → other n ≡ told n)
      → FeedsAll carries ends other jobs all a b → FeedsAll carries ends told jobs all a b
  feeds_same told other [] [] a b same fed = fed
  feeds_same told other [] (x ∷ xs) a b same fed = absurd fed
  feeds_same told other (job ∷ jobs) [] a b same fed = absurd fed
  feeds_same told other (job ∷ jobs) (x ∷ xs) a b same fed =
      (fed.0, subst (λ t. Feeds carries ends t x a fed.0) (same job) fed.1, feeds_same told other jobs xs fed.0 b same fed.2)
