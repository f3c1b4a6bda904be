-- How many pages a job that becomes received keeps, and how many go back.
use Rattle.std.proofs.Common.{◌≡◌, ◌<◌, ℕ, suc, ◌+◌, Bool, true, false, cond, List, [], ◌∷◌, length, drop, map, refl, sym, ◌∙◌, ap, subst, arith, length-append}
use Rattle.std.specs.Prelude.{filter, sum_by, Option, Some, None}
use Rattle.std.specs.List.{list_any}
use Rattle.lpd_values.specs.Contents.{Contents}
use Rattle.lpd_values.specs.Told.{prints_in}
use Rattle.page_pool.specs.Page.{Page}
use Rattle.page_chain.specs.Files as F
use Rattle.page_chain.specs.Files.{there}
use Rattle.page_chain.specs.Changes.{dropped_from, is_among, is_same_place, numbers_of, unnamed_pages}
use Rattle.held_jobs.specs.Jobs.{HeldJob}
use Rattle.held_jobs.specs.Books.{prints_of}
use Rattle.held_jobs.specs.Moves.{closed_file, controlled_facts, told}
use Rattle.held_jobs.specs.Shown.{see_file, see_page}
use Rattle.config_values.specs.Config.{Config}
use Rattle.spool_history.specs.Events.Act.{Controlled, FileEnded}
use Rattle.spool_history.specs.Acts as A
use Rattle.spool_history.specs.Acts.{all_pages, at_last, is_same_page, names_in}
use Rattle.spool_history.specs.Now.{Job, pages_kept, places}
use Rattle.spool_history.specs.Steps.{acted}
use Rattle.spool_history.specs.Legal.{IsReceiving}
use Rattle.spool_calls.specs.Kept.{place_of, whole_file}
use Rattle.spool_laws.proofs.Apart.{pages_sum}
use Rattle.spool_laws.proofs.Copies.{pages_in}
use Rattle.spool_laws.proofs.Counts.{with_end}
use Rattle.spool_laws.proofs.Held.{pages_ended}
use Rattle.step_lemmas.proofs.HeldJobs.Files.{Differ}
use Rattle.step_lemmas.proofs.HeldJobs.EachPage.{how_many_more}
use Rattle.spool_calls.proofs.Spots.{any_spot}
use Rattle.step_lemmas.proofs.OneJob.Ties.{Ties, fills}
use Rattle.step_lemmas.proofs.OneJob.Passes.{none_there, passed, passes, printed_none}
use Rattle.step_lemmas.proofs.OneJob.Shelving.{AreWhole, RestAt, Whole, are_whole, len_in, no_files, one_more, rest_all, whole_length, whole_pages}
use Rattle.step_lemmas.proofs.OneJob.Received.{names_ended, prints_same, spots_placed, whole_ended}

-- pages that are all there are as many
pub all_there : {C : Type 0} (f : Page → C) (xs : List (Option Page)) (ys : List C) → map {A = Option Page} {B = Option C} (see_page f) xs ≡ map {A = C} {B = Option C} (λ page. Some page) ys → length (there xs) ≡ length ys
all_there f [] [] e = refl
all_there f [] (y ∷ ys) e = absurd cc
all_there f (None ∷ xs) [] e = absurd cc
all_there f (Some x ∷ xs) [] e = absurd cc
all_there f (None ∷ xs) (y ∷ ys) e = absurd cc
all_there {C} f (Some x ∷ xs) (y ∷ ys) e =
    let rest : map {A = Option Page} {B = Option C} (see_page f) xs ≡ map {A = C} {B = Option C} (λ page. Some page) ys = cc in
    ap suc (all_there f xs ys rest)

-- what a test keeps of the pages of a file
pub count_all : {C : Type 0} (t : A.Page C → Bool) (file n m : ℕ) (pages : List C) → n + length pages ≡ m → ((k : ℕ) (page : C) → k < m → t (record { file = file; number = k; page = page }) ≡ true)
    → length (filter t (A.numbered file n pages)) ≡ length pages
count_all t file n m [] e all = refl
count_all {C} t file n m (page ∷ pages) e all =
    rw (all n page (omega arith)) (ap suc (count_all t file (n + 1) m pages (omega arith) all))

-- a test that takes no page of a file
pub count_none : {C : Type 0} (t : A.Page C → Bool) (file n : ℕ) (pages : List C) → ((k : ℕ) (page : C) → t (record { file = file; number = k; page = page }) ≡ false) → length (filter t (A.numbered file n pages)) ≡ 0
count_none t file n [] none = refl
count_none {C} t file n (page ∷ pages) none =
    rw (none n page) (count_none t file (n + 1) pages none)

-- what a test keeps is what has a place among those of these files
abbrev Keeps : {C : Type 0} → (A.Page C → Bool) → (ℕ → ℕ) → List ℕ → Type 0
Keeps {C} t len numbers = (page : A.Page C) → t page ≡ list_any (is_same_place (place_of page)) (passes len numbers)

-- of one file: its pages go back, or are kept
count_by : {C : Type 0} (f : Page → C) (t : A.Page C → Bool) (numbers : List ℕ) (all : List F.File) (n m : ℕ) (x : F.File) (y : A.File C) (b : Bool) → n ≡ m → is_among numbers m ≡ b
    → F.file_at all m ≡ x → see_file f x ≡ whole_file y → Keeps t (len_in all) numbers → length (cond b [] (there x.pages)) + length (filter t (A.numbered n 0 y.pages)) ≡ length y.pages
count_by {C} f t numbers all n m x y true nm e at a keeps =
    let size : len_in all m ≡ length y.pages = ap (λ (z : F.File). length z.pages) at ∙ whole_length f x y a in
    let c : length (filter t (A.numbered m 0 y.pages)) ≡ length y.pages =
    count_all t m 0 (length y.pages) y.pages (omega arith)
    (λ k page lt. keeps (record { file = m; number = k; page = page }) ∙ passed (len_in all) numbers (record { file = m; number = k }) e (subst (λ (i : ℕ). k < i) (sym size) lt)) in
    let d : length (filter t (A.numbered n 0 y.pages)) ≡ length y.pages = ap (λ (i : ℕ). length (filter t (A.numbered i 0 y.pages))) nm ∙ c in
    omega (arith, d)
count_by {C} f t numbers all n m x y false nm e at a keeps =
    let none = printed_none (len_in all) numbers m e in
    let c : length (filter t (A.numbered m 0 y.pages)) ≡ 0 =
    count_none t m 0 y.pages (λ k page. keeps (record { file = m; number = k; page = page }) ∙ none_there (passes (len_in all) numbers) (record { file = m; number = k }) none) in
    let d : length (filter t (A.numbered n 0 y.pages)) ≡ 0 = ap (λ (i : ℕ). length (filter t (A.numbered i 0 y.pages))) nm ∙ c in
    omega (arith, d, all_there f x.pages y.pages (whole_pages f x y a))

-- of all files, where the first has the number m
counted : {C : Type 0} (f : Page → C) (t : A.Page C → Bool) (numbers : List ℕ) (all : List F.File) (n m : ℕ) {xs : List F.File} {ys : List (A.File C)} → AreWhole f xs ys → n ≡ m
    → RestAt all m xs → Keeps t (len_in all) numbers
    → length (dropped_from m numbers xs) + length (filter t (all_pages n ys)) ≡ pages_in ys
counted f t numbers all n m no_files nm r keeps = refl
counted {C} f t numbers all n m (one_more x y {xs} {ys} e w) nm r keeps =
    let ih = counted f t numbers all (n + 1) (suc m) w (omega arith) r.1 keeps in
    let one = count_by f t numbers all n m x y (is_among numbers m) nm refl r.0 e keeps in
    let p = length-append (cond (is_among numbers m) [] (there x.pages)) (dropped_from (suc m) numbers xs) in
    omega (arith, ih, one, p, how_many_more t n y ys)

-- the pages that go back and those that are kept are all pages of the files
pub counts_placed : {C : Type 0} (f : Page → C) (xs : List F.File) (v : Job C) (names : List (List ℕ)) → Whole f xs v.files → Differ (names_in v.files) → names ≡ prints_in v.control → v.back ≡ 0
    → length (unnamed_pages xs names) + length (pages_kept v) ≡ sum_by (λ (g : A.File C). length g.pages) v.files
counts_placed {C} f xs v names w d e b =
    let numbers = numbers_of (F.names_of xs) names in
    let t : A.Page C → Bool = λ page. list_any (is_same_page page) (drop v.back (places v)) in
    let keeps : Keeps t (len_in xs) numbers =
    λ page.
    ap (λ (n : ℕ). list_any (is_same_page page) (drop n (places v))) b
    ∙ (sym (any_spot page (places v)) ∙ ap (list_any (is_same_place (place_of page))) (sym (spots_placed f xs v names w d e))) in
    counted f t numbers xs 0 0 (are_whole f xs v.files w) refl (rest_all xs) keeps ∙ sym (pages_sum v.files)

-- where the job becomes received by the end of a file
pub counts_by_file : {C : Type 0} (f : Page → C) (c : Config) (j : HeldJob) (v : Job C) (file : ℕ) → IsReceiving v → v.back ≡ 0 → Differ (names_in v.files) → Ties f c j v
    → length (unnamed_pages (closed_file j).chain.files (prints_of j)) + length (pages_kept (acted (FileEnded file true) v)) ≡ sum_by (λ (g : A.File C). length g.pages) v.files
counts_by_file {C} f c j v file r b d t =
    let a = fills f c j v r t in
    let v' : Job C = acted (FileEnded file true) v in
    counts_placed f j.chain.files v' (prints_of j) (a.files ∙ sym (whole_ended v.files)) (subst Differ (sym (names_ended v.files)) d) (prints_same f c j v a) b
    ∙ (pages_sum (at_last with_end v.files) ∙ (pages_ended v.files ∙ sym (pages_sum v.files)))

-- and by its control file
pub counts_by_control : {C : Type 0} (f : Page → C) (c : Config) (j : HeldJob) (v : Job C) (control : Contents) → IsReceiving v → v.back ≡ 0 → Differ (names_in v.files) → Ties f c j v
    → length (unnamed_pages (told (controlled_facts control) j).chain.files control.prints) + length (pages_kept (acted (Controlled control true) v)) ≡ sum_by (λ (g : A.File C). length g.pages) v.files
counts_by_control {C} f c j v control r b d t = counts_placed f j.chain.files (acted (Controlled control true) v) control.prints (fills f c j v r t).files d refl b
