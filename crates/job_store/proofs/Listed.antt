-- A listing of names, and what is seen.
use Rattle.std.proofs.Common.{◌⊎◌, inl, inr, ◌≡◌, ◌<◌, ◌≤◌, ◌==◌, ℕ, true, false, List, Option, Some, None, IfNone, IfSome, is_some, if◌then◌else◌, cond, count_by, refl, ◌∙◌, sym, ap, arith}
use Rattle.std.specs.List.Sorted.{IsPermutation}
use Rattle.std.proofs.lemmas.List.Sorted.{sum_by-IsPermutation}
use Rattle.job_store.specs.Files.{Files, IsListOf, SameJobs}
use Rattle.job_store.specs.Kept.{HasContents, IsFreeFrom, IsTaken, KeepsAll}

-- what isn't listed isn't there
not_listed : (o : Option (List ℕ)) (k : ℕ) → k ≡ (if is_some o then 1 else 0) → k ≡ 0 → o ≡ None
not_listed None k is zero = refl
not_listed (Some octets) k is zero = absurd (omega (arith, is, zero))

-- what is listed is there
is_listed : (o : Option (List ℕ)) (k : ℕ) → k ≡ (if is_some o then 1 else 0) → 0 < k → is_some o ≡ true
is_listed None k is some = absurd (omega (arith, is, some))
is_listed (Some octets) k is some = refl

-- nothing is left where nothing is seen
not_left : (o c : Option (List ℕ)) → is_some c ≡ is_some o → o ≡ None → c ≡ None
not_left o None same none = refl
not_left o (Some octets) same none = absurd (let e : true ≡ false = same ∙ ap is_some none in cc)

-- a job is left where one is seen
is_left : (o c : Option (List ℕ)) (octets : List ℕ) → is_some c ≡ is_some o → o ≡ Some octets → c ≡ None → ⊥
is_left o c octets same some none = let e : false ≡ true = sym (ap is_some none) ∙ same ∙ ap is_some some in cc

-- what lists the whole files lists them in another order too
pub reorders : {D : Type 0} (files : Option (D → Files)) (a : D) (xs ys : List ℕ)
    → IfSome files (λ tell. IsListOf (tell a).whole xs) → IsPermutation xs ys → IfSome files (λ tell. IsListOf (tell a).whole ys)
reorders None a xs ys lists moves = tt
reorders (Some tell) a xs ys lists moves = λ n. sum_by-IsPermutation (λ x. cond (x == n) 1 0) xs ys moves ∙ lists n

-- the whole files that are listed at d were there at a: b cleared, d synced
pub lists_jobs : {D : Type 0} (files : Option (D → Files)) (a b d : D) (xs : List ℕ)
    → IfSome files (λ tell. SameJobs (tell a) (tell b)) → IfSome files (λ tell. tell d ≡ tell b)
    → IfSome files (λ tell. IsListOf (tell d).whole xs) → IfSome files (λ tell. IsListOf (tell a).whole xs)
lists_jobs None a b d xs cleared synced lists = tt
lists_jobs (Some tell) a b d xs cleared synced lists = λ n.
    let same : (tell d).whole ≡ (tell a).whole = ap (λ (f : Files). f.whole) synced ∙ cleared.whole in
    lists n ∙ ap (λ (seen : ℕ → Option (List ℕ)). if is_some (seen n) then 1 else 0) same

-- and those of failed jobs
pub lists_failed : {D : Type 0} (files : Option (D → Files)) (a b d : D) (xs : List ℕ)
    → IfSome files (λ tell. SameJobs (tell a) (tell b)) → IfSome files (λ tell. tell d ≡ tell b)
    → IfSome files (λ tell. IsListOf (tell d).failed xs) → IfSome files (λ tell. IsListOf (tell a).failed xs)
lists_failed None a b d xs cleared synced lists = tt
lists_failed (Some tell) a b d xs cleared synced lists = λ n.
    let same : (tell d).failed ≡ (tell a).failed = ap (λ (f : Files). f.failed) synced ∙ cleared.failed in
    lists n ∙ ap (λ (seen : ℕ → Option (List ℕ)). if is_some (seen n) then 1 else 0) same

-- what the disk has is kept once the names are synced: a first, b cleared, d synced, e listed
pub keeps_all : {D : Type 0} (files : Option (D → Files)) (may_leave : D → ℕ → Option (List ℕ) → Type 0) (a b d e : D)
    → IfSome files (λ tell. HasContents (tell a) (may_leave a))
    → IfSome files (λ tell. SameJobs (tell a) (tell b)) → IfSome files (λ tell. tell d ≡ tell b) → IfSome files (λ tell. tell e ≡ tell d)
    → IfSome files (λ tell. (n : ℕ) (c : Option (List ℕ)) → may_leave d n c → is_some c ≡ is_some ((tell b).whole n))
    → ((n : ℕ) (c : Option (List ℕ)) → may_leave d n c → may_leave a n c)
    → ((n : ℕ) (c : Option (List ℕ)) → may_leave e n c → may_leave d n c)
    → IfSome files (λ tell. KeepsAll (tell a) (tell e) (may_leave e))
keeps_all None may_leave a b d e contents cleared synced listed names before after = tt
keeps_all (Some tell) may_leave a b d e contents cleared synced listed names before after = λ n octets here.
    let whole_b : (tell b).whole n ≡ Some octets = ap (λ (seen : ℕ → Option (List ℕ)). seen n) cleared.whole ∙ here in
    let whole_e : (tell e).whole n ≡ Some octets = ap (λ (f : Files). f.whole n) (listed ∙ synced) ∙ whole_b in
    record {
      told = whole_e;
      durable = λ c left. elim (contents n octets c here (before n c (after n c left))) [
        | inl none ↦ absurd (is_left _ c octets (names n c (after n c left)) whole_b none)
        | inr some ↦ some
      ];
    }

-- a number above all that are listed is free
pub is_free : {D : Type 0} (files : Option (D → Files)) (may_leave : D → ℕ → Option (List ℕ)
    → Type 0) (b d e : D) (jobs failed : List ℕ) (next : Option ℕ)
    → IfSome files (λ tell. (n : ℕ) → (tell b).partial n ≡ None) → IfSome files (λ tell. tell d ≡ tell b)
    → IfSome files (λ tell. tell e ≡ tell d)
    → IfSome files (λ tell. (n : ℕ) (c : Option (List ℕ)) → may_leave d n c → is_some c ≡ is_some ((tell b).whole n))
    → ((n : ℕ) (c : Option (List ℕ)) → may_leave e n c → may_leave d n c)
    → IfSome files (λ tell. IsListOf (tell d).whole jobs) → IfSome files (λ tell. IsListOf (tell d).failed failed)
    → IfSome next (λ next. (n : ℕ) → next ≤ n → count_by (λ number. number == n) jobs ≡ 0)
    → IfSome next (λ next. (n : ℕ) → next ≤ n → count_by (λ number. number == n) failed ≡ 0)
    → IfSome next (λ next. IfSome files (λ tell. IsFreeFrom (tell e) (may_leave e) next))
is_free files may_leave b d e jobs failed None gone synced listed names after lists_whole lists_failed no_job no_failed = tt
is_free None may_leave b d e jobs failed (Some next) gone synced listed names after lists_whole lists_failed no_job no_failed = tt
is_free (Some tell) may_leave b d e jobs failed (Some next) gone synced listed names after lists_whole lists_failed no_job no_failed =
    let no_whole : (n : ℕ) → next ≤ n → (tell d).whole n ≡ None = λ n above. not_listed _ _ (lists_whole n) (no_job n above) in
    record {
      partial = λ n above. ap (λ (f : Files). f.partial n) (listed ∙ synced) ∙ gone n;
      whole = λ n above. ap (λ (f : Files). f.whole n) listed ∙ no_whole n above;
      failed = λ n above. ap (λ (f : Files). f.failed n) listed ∙ not_listed _ _ (lists_failed n) (no_failed n above);
      never = λ n above c left. not_left _ c (names n c (after n c left)) (ap (λ (f : Files). f.whole n) (sym synced) ∙ no_whole n above);
    }

-- a number that is listed is taken
pub is_taken : {D : Type 0} (files : Option (D → Files)) (a : D) (jobs failed : List ℕ) (number : ℕ) (next : Option ℕ)
    → IfSome files (λ tell. IsListOf (tell a).whole jobs) → IfSome files (λ tell. IsListOf (tell a).failed failed)
    → IfNone next ((0 < count_by (λ n. n == number) jobs) ⊎ (0 < count_by (λ n. n == number) failed))
    → IfNone next (IfSome files (λ tell. IsTaken (tell a) number))
is_taken files a jobs failed number (Some next) lists_whole lists_failed some = tt
is_taken None a jobs failed number None lists_whole lists_failed some = tt
is_taken (Some tell) a jobs failed number None lists_whole lists_failed (inl some) = inl (is_listed _ _ (lists_whole number) some)
is_taken (Some tell) a jobs failed number None lists_whole lists_failed (inr some) = inr (is_listed _ _ (lists_failed number) some)
