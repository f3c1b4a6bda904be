-- How many pages a job has in its chain.
use Rattle.std.proofs.Common.{inl, inr, ◌≡◌, ◌==◌, ◌<◌, ◌≤◌, ℕ, suc, ◌+◌, ◌-◌, Bool, true, false, cond, List, [], ◌∷◌, length, drop, map, refl, sym, ◌∙◌, ap, arith, length-append}
use Rattle.std.specs.Prelude.{◌&&◌, ◌||◌, not, filter, sum_by, Option, Some, None, slice_get}
use Rattle.std.specs.List.{list_any}
use Rattle.std.proofs.lemmas.Bool.{false_from_ne_true, and_parts, not-true, and_left, cases_eq}
use Rattle.std.proofs.lemmas.List.Elements.{filter_agree}
use Rattle.page_pool.specs.Page.{Page}
use Rattle.page_chain.specs.declared.place.Place.{Place}
use Rattle.page_chain.specs.Files as F
use Rattle.page_chain.specs.Files.{every_page, there}
use Rattle.page_chain.specs.Changes.{is_same_place}
use Rattle.held_jobs.specs.declared.phase.Phase.TheVariants.{Ended}
use Rattle.held_jobs.specs.Jobs.{HeldJob}
use Rattle.held_jobs.specs.Shown as S
use Rattle.held_jobs.specs.Shown.{see_file, see_page}
use Rattle.config_values.specs.Config.{Config}
use Rattle.spool_history.specs.Acts as A
use Rattle.spool_history.specs.Acts.{all_pages, is_same_page}
use Rattle.spool_history.specs.Now.{Job, is_received, pages_kept, places}
use Rattle.spool_calls.specs.Kept.{is_printed, is_there, place_of, shelved, shelved_files, spots, is_at}
use Rattle.spool_laws.specs.Sums.{chained_of}
use Rattle.spool_laws.proofs.Apart.{pages_sum}
use Rattle.spool_laws.proofs.Known.{clash}
use Rattle.spool_laws.proofs.Copies.{pages_in}
use Rattle.lpd_values.specs.Told.{prints_in}
use Rattle.spool_laws.proofs.Copies.{places_there}
use Rattle.step_lemmas.proofs.HeldJobs.EachPage.{how_many_either, how_many_more, how_many_same, page_once}
use Rattle.spool_calls.proofs.Spots.{any_spot}
use Rattle.step_lemmas.proofs.OneJob.Ties.{Prints, Ties, at_phase, fills, phase_ended, prints}
use Rattle.step_lemmas.proofs.OneJob.Passes.{none_there}
use Rattle.step_lemmas.proofs.OneJob.Shelving.{AreWhole, are_whole, no_files, one_more, whole_pages}
use Rattle.step_lemmas.proofs.OneJob.Counting.{all_there, count_none}
use Rattle.step_lemmas.proofs.OneJob.Spots.{any_later, place_at, there_even, there_odd}
use Rattle.std.proofs.lemmas.List.{drop-map}

-- while it is being received: those of all its files

-- as many as the files have
stored_whole : {C : Type 0} (f : Page → C) {xs : List F.File} {ys : List (A.File C)} → AreWhole f xs ys → length (every_page xs) ≡ pages_in ys
stored_whole f no_files = refl
stored_whole f (one_more x y {xs} {ys} e w) =
    omega (arith, all_there f x.pages y.pages (whole_pages f x y e), stored_whole f w, length-append (there x.pages) (every_page xs))

-- once it is received: those that are there

-- the pages of a row that are there
count_shelved : {C : Type 0} (f : Page → C) (is_in : Place → Bool) (file n m : ℕ) (xs : List (Option Page)) (pages : List C) → n ≡ m → map {A = Option Page} {B = Option C} (see_page f) xs ≡ shelved is_in file m pages
    → length (there xs) ≡ length (filter (λ (page : A.Page C). is_in (place_of page)) (A.numbered file n pages))
count_shelved f is_in file n m [] [] nm e = refl
count_shelved f is_in file n m [] (y ∷ pages) nm e = absurd cc
count_shelved f is_in file n m (x ∷ xs) [] nm e = absurd cc
count_shelved {C} f is_in file n m (x ∷ xs) (y ∷ pages) nm e =
    let first : see_page f x ≡ cond (is_in (record { file = file; number = m })) (Some y) None = cc in
    let rest : map {A = Option Page} {B = Option C} (see_page f) xs ≡ shelved is_in file (suc m) pages = cc in
    let ih = count_shelved f is_in file (n + 1) (suc m) xs pages (omega arith) rest in
    by x (is_in (record { file = file; number = m })) (ap (λ (k : ℕ). is_in (record { file = file; number = k })) nm) first ih
  where
    by : (x : Option Page) (b : Bool) → is_in (record { file = file; number = n }) ≡ b → see_page f x ≡ cond b (Some y) None
        → length (there xs) ≡ length (filter (λ (page : A.Page C). is_in (place_of page)) (A.numbered file (n + 1) pages))
        → length (there (x ∷ xs)) ≡ length (filter (λ (page : A.Page C). is_in (place_of page)) (A.numbered file n (y ∷ pages)))
    by None true is first ih = absurd cc
    by (Some page) true is first ih = rw is (ap suc ih)
    by None false is first ih = rw is ih
    by (Some page) false is first ih = absurd cc

-- the pages of a file that are there
count_file : {C : Type 0} (f : Page → C) (is_in : Place → Bool) (file : ℕ) (xs : List (Option Page)) (pages : List C) (b : Bool) → ((k : ℕ) → b ≡ false → is_in (record { file = file; number = k }) ≡ false)
    → map {A = Option Page} {B = Option C} (see_page f) xs ≡ cond b (shelved is_in file 0 pages) [] → length (there xs) ≡ length (filter (λ (page : A.Page C). is_in (place_of page)) (A.numbered file 0 pages))
count_file f is_in file xs pages true none e = count_shelved f is_in file 0 0 xs pages refl e
count_file {C} f is_in file [] pages false none e = sym (count_none (λ (page : A.Page C). is_in (place_of page)) file 0 pages (λ k page. none k refl))
count_file f is_in file (x ∷ xs) pages false none e = absurd cc

-- those of the files from the m-th on
count_files : {C : Type 0} (f : Page → C) (printed : ℕ → Bool) (is_in : Place → Bool) (n m : ℕ) (xs : List F.File) (ys : List (A.File C)) → n ≡ m
    → ((place : Place) → printed place.file ≡ false → is_in place ≡ false)
    → map {A = F.File} {B = S.File C} (see_file f) xs ≡ shelved_files printed is_in m ys → length (every_page xs) ≡ length (filter (λ (page : A.Page C). is_in (place_of page)) (all_pages n ys))
count_files f printed is_in n m [] [] nm none e = refl
count_files f printed is_in n m [] (y ∷ ys) nm none e = absurd cc
count_files f printed is_in n m (x ∷ xs) [] nm none e = absurd cc
count_files {C} f printed is_in n m (x ∷ xs) (y ∷ ys) nm none e =
    let t : A.Page C → Bool = λ page. is_in (place_of page) in
    let first : see_file f x ≡ record { name = y.name; pages = cond (printed m) (shelved is_in m 0 y.pages) [] } = cc in
    let rest : map {A = F.File} {B = S.File C} (see_file f) xs ≡ shelved_files printed is_in (suc m) ys = cc in
    let ih = count_files f printed is_in (n + 1) (suc m) xs ys (omega arith) none rest in
    let one = count_file f is_in m x.pages y.pages (printed m) (λ k b. none (record { file = m; number = k }) b) (ap (λ (z : S.File C). z.pages) first) in
    omega (arith, ih, one, ap (λ (k : ℕ). length (filter t (A.numbered k 0 y.pages))) nm, length-append (there x.pages) (every_page xs), how_many_more t n y ys)

-- a page that isn't printed isn't there
not_printed : {C : Type 0} (v : Job C) (place : Place) → is_printed (spots v) place.file ≡ false → is_there (spots v) v.handed v.back place ≡ false
not_printed v place e =
    and_left (list_any (is_same_place place) (drop v.back (spots v))) (not (not (v.handed == v.back) && is_at (slice_get (spots v) v.back) place))
    (false_from_ne_true (list_any (is_same_place place) (drop v.back (spots v)))
    (λ h. clash (list_any (is_same_place place) (spots v)) (any_later (is_same_place place) v.back (spots v) h) (none_there (spots v) place e)))

-- those of the job's files
stored_there : {C : Type 0} (f : Page → C) (c : Config) (j : HeldJob) (v : Job C) → Prints f c j v
    → length (every_page j.chain.files) ≡ length (filter (λ (page : A.Page C). is_there (spots v) v.handed v.back (place_of page)) (all_pages 0 v.files))
stored_there f c j v a = count_files f (is_printed (spots v)) (is_there (spots v) v.handed v.back) 0 0 j.chain.files v.files refl (not_printed v) a.files

-- a page that some place hasn't come back of, by its place
kept_test : {C : Type 0} (v : Job C) (page : A.Page C) → list_any (is_same_page page) (drop v.back (places v)) ≡ list_any (is_same_place (place_of page)) (drop v.back (spots v))
kept_test {C} v page =
    sym (any_spot page (drop v.back (places v)))
    ∙ ap (list_any (is_same_place (place_of page))) (sym (drop-map (place_of {C = C}) v.back (places v)))

-- with no page at a printer, those that are kept
stored_even : {C : Type 0} (v : Job C) → v.handed ≡ v.back → length (filter (λ (page : A.Page C). is_there (spots v) v.handed v.back (place_of page)) (all_pages 0 v.files)) ≡ length (pages_kept v)
stored_even {C} v e =
    ap (λ (l : List (A.Page C)). length l)
    (filter_agree (λ (page : A.Page C). is_there (spots v) v.handed v.back (place_of page)) (λ (page : A.Page C). list_any (is_same_page page) (drop v.back (places v)))
    (λ page. there_even (spots v) v.handed v.back (place_of page) e ∙ sym (kept_test v page)) (all_pages 0 v.files))

-- a test keeps so many more than one that leaves out what another test, which is no wider, takes
less_by : {X : Type 0} (t m u : X → Bool) (xs : List X) → ((x : X) → m x ≡ true → t x ≡ true) → ((x : X) → u x ≡ (t x && not (m x))) → length (filter t xs) ≡ length (filter u xs) + length (filter m xs)
less_by {X} t m u xs up is =
    how_many_same t (λ (x : X). u x || m x) xs (λ x. by (t x) (m x) (up x) ∙ ap (λ (b : Bool). b || m x) (sym (is x)))
    ∙ how_many_either u m xs (λ x e. not-true (m x) (and_parts (t x) (not (m x)) (sym (is x) ∙ e)).1)
  where
    by : (a b : Bool) → (b ≡ true → a ≡ true) → a ≡ ((a && not b) || b)
    by true true up = refl
    by true false up = refl
    by false true up = up refl
    by false false up = refl

-- with a page at a printer, one less than are kept
stored_odd : {C : Type 0} (v : Job C) → v.handed ≡ v.back + 1 → v.back < length (places v)
    → length (pages_kept v) ≡ length (filter (λ (page : A.Page C). is_there (spots v) v.handed v.back (place_of page)) (all_pages 0 v.files)) + 1
stored_odd {C} v e lt =
    let at = place_at v v.back lt in
    let p = place_of at.page in
    let t : A.Page C → Bool = λ page. list_any (is_same_page page) (drop v.back (places v)) in
    let m : A.Page C → Bool = λ page. is_same_place (place_of page) p in
    let u : A.Page C → Bool = λ page. is_there (spots v) v.handed v.back (place_of page) in
    let up : (page : A.Page C) → m page ≡ true → t page ≡ true =
    λ page h.
    kept_test v page
    ∙ (ap (list_any (is_same_place (place_of page))) at.spots_left
    ∙ ap (λ (b : Bool). b || list_any (is_same_place (place_of page)) (drop (v.back + 1) (spots v))) h) in
    let is : (page : A.Page C) → u page ≡ (t page && not (m page)) =
    λ page. there_odd (spots v) v.handed v.back p (place_of page) e at.spot ∙ ap (λ (b : Bool). b && not (m page)) (sym (kept_test v page)) in
    omega (arith, less_by t m u (all_pages 0 v.files) up is, page_once at.page v.files (places_there at.page v.files (prints_in v.control) at.has))

-- phase by phase
stored_by : {C : Type 0} (f : Page → C) (c : Config) (j : HeldJob) (v : Job C) (e r : Bool) → v.ended ≡ e → is_received v ≡ r → v.back ≤ v.handed → v.handed ≤ v.back + 1 → v.handed ≤ length (places v) → Ties f c j v
    → length (every_page j.chain.files) ≡ cond e 0 (cond r (length (pages_kept v) - (v.handed - v.back)) (sum_by (λ (g : A.File C). length g.pages) v.files))
stored_by {C} f c j v true r ee er le one within t =
    none j.chain.files (ap (λ (s : S.Shelf C). s.files) (at_phase f c Ended j v (phase_ended v ee) t).shelf)
  where
    none : (xs : List F.File) → map {A = F.File} {B = S.File C} (see_file f) xs ≡ [] → length (every_page xs) ≡ 0
    none [] e = refl
    none (x ∷ xs) e = absurd cc
stored_by {C} f c j v false false ee er le one within t = stored_whole f (are_whole f j.chain.files v.files (fills f c j v (ee, er) t).files) ∙ sym (pages_sum v.files)
stored_by {C} f c j v false true ee er le one within t =
    let here = stored_there f c j v (prints f c j v ee er t) in
    elim (cases_eq v.handed v.back) [
      | inl even ↦ let n = stored_even v even in omega (arith, here, n, even)
      | inr odd ↦
          let out : v.handed ≡ v.back + 1 = omega (arith, odd, le, one) in
          omega (arith, here, stored_odd v out (omega (arith, out, within)), out)
    ]

-- of each job the chain has as many pages as the history says
pub stored : {C : Type 0} (f : Page → C) (c : Config) (j : HeldJob) (v : Job C) → v.back ≤ v.handed → v.handed ≤ v.back + 1 → v.handed ≤ length (places v) → Ties f c j v → length (every_page j.chain.files) ≡ chained_of v
stored f c j v le one within t = stored_by f c j v v.ended (is_received v) refl refl le one within t
