-- What is left in the chain of a job that is received: the pages of the files that are printed.
use Rattle.std.proofs.Common.{◌≡◌, ◌==◌, ◌<◌, ℕ, suc, ◌+◌, Bool, true, false, cond, List, [], ◌∷◌, length, drop, map, refl, sym, ◌∙◌, ap, subst, arith}
use Rattle.std.specs.Prelude.{◌&&◌, not, Option, Some, None, slice_get}
use Rattle.std.specs.List.{list_any}
use Rattle.std.proofs.lemmas.List.{length-map}
use Rattle.std.proofs.lemmas.Simd.{map-map}
use Rattle.page_pool.specs.Page.{Page}
use Rattle.page_chain.specs.declared.place.Place.{Place}
use Rattle.page_chain.specs.Files as F
use Rattle.page_chain.specs.Files.{file_at, no_file}
use Rattle.page_chain.specs.Changes.{is_among, is_same_place, kept_from}
use Rattle.held_jobs.specs.Shown as S
use Rattle.held_jobs.specs.Shown.{see_file, see_page}
use Rattle.spool_history.specs.Acts as A
use Rattle.spool_history.specs.Acts.{names_in}
use Rattle.spool_calls.specs.Kept.{is_at, is_printed, is_there, shelved, shelved_files, whole_file}
use Rattle.step_lemmas.proofs.OneJob.Passes.{and_yes, passes, passed, printed_none, printed_some}
use Rattle.step_lemmas.proofs.OneJob.Placing.{Sizes}

-- the files of a chain are these, whole
abbrev pub Whole : {C : Type 0} → (Page → C) → List F.File → List (A.File C) → Type 0
Whole {C} f xs ys = map {A = F.File} {B = S.File C} (see_file f) xs ≡ map {A = A.File C} {B = S.File C} whole_file ys

-- one by one
pub data AreWhole {C : Type 0} (f : Page → C) : List F.File → List (A.File C) → Type 0 where
  no_files : AreWhole f [] []
  one_more : (x : F.File) (y : A.File C) {xs : List F.File} {ys : List (A.File C)} → see_file f x ≡ whole_file y → AreWhole f xs ys → AreWhole f (x ∷ xs) (y ∷ ys)

pub are_whole : {C : Type 0} (f : Page → C) (xs : List F.File) (ys : List (A.File C)) → Whole f xs ys → AreWhole f xs ys
are_whole f [] [] w = no_files
are_whole f [] (y ∷ ys) w = absurd cc
are_whole f (x ∷ xs) [] w = absurd cc
are_whole f (x ∷ xs) (y ∷ ys) w = (let first : see_file f x ≡ whole_file y = cc in let rest : Whole f xs ys = cc in one_more x y first (are_whole f xs ys rest))

-- a file has the pages of its own
pub whole_pages : {C : Type 0} (f : Page → C) (x : F.File) (y : A.File C) → see_file f x ≡ whole_file y
    → map {A = Option Page} {B = Option C} (see_page f) x.pages ≡ map {A = C} {B = Option C} (λ page. Some page) y.pages
whole_pages {C} f x y e = ap (λ (z : S.File C). z.pages) e

-- and so as many
pub whole_length : {C : Type 0} (f : Page → C) (x : F.File) (y : A.File C) → see_file f x ≡ whole_file y → length x.pages ≡ length y.pages
whole_length {C} f x y e =
    sym (length-map x.pages (see_page f)) ∙ (ap (λ (l : List (Option C)). length l) (whole_pages f x y e) ∙ length-map y.pages (λ (page : C). Some page))

-- their names are the same
pub whole_names : {C : Type 0} (f : Page → C) (xs : List F.File) (ys : List (A.File C)) → Whole f xs ys → F.names_of xs ≡ names_in ys
whole_names {C} f xs ys w =
    sym (map-map (λ (z : S.File C). z.name) (see_file f) xs) ∙ (ap (map (λ (z : S.File C). z.name)) w ∙ map-map (λ (z : S.File C). z.name) (whole_file {C = C}) ys)

-- the rest of a list from a place on
abbrev pub RestAt : List F.File → ℕ → List F.File → Type 0
RestAt all n [] = Unit {0}
RestAt all n (x ∷ xs) = (file_at all n ≡ x) × RestAt all (suc n) xs

-- the rest of a longer list
rest_more : (z : F.File) (all : List F.File) (n : ℕ) (xs : List F.File) → RestAt all n xs → RestAt (z ∷ all) (suc n) xs
rest_more z all n [] r = tt
rest_more z all n (x ∷ xs) r = (r.0, rest_more z all (suc n) xs r.1)

-- a list is its own rest
pub rest_all : (all : List F.File) → RestAt all 0 all
rest_all [] = tt
rest_all (x ∷ xs) = (refl, rest_more x xs 0 xs (rest_all xs))

-- how many pages the file of a number has
abbrev pub len_in : List F.File → ℕ → ℕ
len_in all i = length (file_at all i).pages

-- the sizes of the files from the n-th on
sizes_from : {C : Type 0} (f : Page → C) (all : List F.File) (n : ℕ) {xs : List F.File} {ys : List (A.File C)} → AreWhole f xs ys → RestAt all n xs → Sizes (len_in all) n ys
sizes_from f all n no_files r = tt
sizes_from f all n (one_more x y e w) r = (ap (λ (z : F.File). length z.pages) r.0 ∙ whole_length f x y e, sizes_from f all (suc n) w r.1)

-- the sizes of all files
pub whole_sizes : {C : Type 0} (f : Page → C) (xs : List F.File) (ys : List (A.File C)) → Whole f xs ys → Sizes (len_in xs) 0 ys
whole_sizes f xs ys w = sizes_from f xs 0 (are_whole f xs ys w) (rest_all xs)

-- pages that are all there
pub all_shelved : {C : Type 0} (there : Place → Bool) (file n m : ℕ) (pages : List C) → n + length pages ≡ m → ((k : ℕ) → k < m → there (record { file = file; number = k }) ≡ true)
    → shelved there file n pages ≡ map {A = C} {B = Option C} (λ page. Some page) pages
all_shelved there file n m [] e all i = []
all_shelved there file n m (page ∷ pages) e all i = cond (all n (omega arith) i) (Some page) None ∷ all_shelved there file (suc n) m pages (omega arith) all i

-- while nothing was handed out a page is there where some place of it is
pub there_first : (spots : List Place) (handed back : ℕ) (place : Place) → handed ≡ 0 → back ≡ 0 → is_there spots handed back place ≡ list_any (is_same_place place) spots
there_first spots handed back place e d =
    ap (λ (n : ℕ). list_any (is_same_place place) (drop back spots) && not (not (n == back) && is_at (slice_get spots back) place)) e
    ∙ (ap (λ (n : ℕ). list_any (is_same_place place) (drop n spots) && not (not (0 == n) && is_at (slice_get spots n) place)) d
    ∙ and_yes (list_any (is_same_place place) spots))

-- a file that is printed has all its pages, and another none
file_printed : {C : Type 0} (printed : Bool) (there : Place → Bool) (file : ℕ) (pages : List C) → (0 < length pages → printed ≡ true) → ((k : ℕ) → k < length pages → there (record { file = file; number = k }) ≡ true)
    → cond printed (shelved there file 0 pages) [] ≡ map {A = C} {B = Option C} (λ page. Some page) pages
file_printed true there file pages some all = all_shelved there file 0 (length pages) pages (omega arith) all
file_printed false there file [] some all = refl
file_printed false there file (page ∷ pages) some all = (let e = some (omega arith) in absurd cc)

-- one file: whole where it is printed, else without a page
kept_by : {C : Type 0} (f : Page → C) (numbers : List ℕ) (all : List F.File) (there : Place → Bool) (n : ℕ) (x : F.File) (y : A.File C) (b : Bool) → is_among numbers n ≡ b
    → file_at all n ≡ x → see_file f x ≡ whole_file y → ((place : Place) → there place ≡ list_any (is_same_place place) (passes (len_in all) numbers))
    → see_file f (cond b x (record x { pages = [] })) ≡ record { name = y.name; pages = cond (is_printed (passes (len_in all) numbers) n) (shelved there n 0 y.pages) [] }
kept_by {C} f numbers all there n x y true e at a is =
    let size : len_in all n ≡ length y.pages = ap (λ (z : F.File). length z.pages) at ∙ whole_length f x y a in
    let has : (k : ℕ) → k < length y.pages → list_any (is_same_place (record { file = n; number = k })) (passes (len_in all) numbers) ≡ true =
    λ k lt. passed (len_in all) numbers (record { file = n; number = k }) e (subst (λ (m : ℕ). k < m) (sym size) lt) in
    a
    ∙ ap (λ (p : List (Option C)). record { name = y.name; pages = p })
    (sym (file_printed (is_printed (passes (len_in all) numbers) n) there n y.pages
    (λ lt. printed_some (passes (len_in all) numbers) (record { file = n; number = 0 }) (has 0 lt))
    (λ k lt. is (record { file = n; number = k }) ∙ has k lt)))
kept_by {C} f numbers all there n x y false e at a is =
    ap (λ (z : S.File C). record { name = z.name; pages = [] }) a
    ∙ ap (λ (b : Bool). record { name = y.name; pages = cond b (shelved there n 0 y.pages) [] }) (sym (printed_none (len_in all) numbers n e))

-- the files from the n-th on
kept_files : {C : Type 0} (f : Page → C) (numbers : List ℕ) (all : List F.File) (there : Place → Bool) (n : ℕ) {xs : List F.File} {ys : List (A.File C)} → AreWhole f xs ys → RestAt all n xs
    → ((place : Place) → there place ≡ list_any (is_same_place place) (passes (len_in all) numbers))
    → map {A = F.File} {B = S.File C} (see_file f) (kept_from n numbers xs) ≡ shelved_files (is_printed (passes (len_in all) numbers)) there n ys
kept_files f numbers all there n no_files r is i = []
kept_files f numbers all there n (one_more x y e w) r is i =
    kept_by f numbers all there n x y (is_among numbers n) refl r.0 e is i ∷ kept_files f numbers all there (suc n) w r.1 is i

-- what is kept of whole files, where those of these numbers are printed
pub kept_is : {C : Type 0} (f : Page → C) (numbers : List ℕ) (xs : List F.File) (ys : List (A.File C)) (handed back : ℕ) → Whole f xs ys → handed ≡ 0 → back ≡ 0
    → map {A = F.File} {B = S.File C} (see_file f) (kept_from 0 numbers xs) ≡ shelved_files (is_printed (passes (len_in xs) numbers)) (is_there (passes (len_in xs) numbers) handed back) 0 ys
kept_is f numbers xs ys handed back w e d =
    kept_files f numbers xs (is_there (passes (len_in xs) numbers) handed back) 0 (are_whole f xs ys w) (rest_all xs)
    (λ place. there_first (passes (len_in xs) numbers) handed back place e d)
