-- The pages of a received job that are in its chain, page by page.
use Rattle.std.proofs.Common.{◌≡◌, ◌<◌, ◌≤◌, ℕ, zero, suc, ◌+◌, Bool, true, false, cond, List, [], ◌∷◌, length, get_or, set, refl, sym, ◌∙◌, ap, arith}
use Rattle.std.specs.Prelude.{Option, Some, None, slice_get}
use Rattle.page_chain.specs.declared.place.Place.{Place}
use Rattle.spool_history.specs.Acts as A
use Rattle.spool_calls.specs.Kept.{shelved, shelved_files}
use Rattle.step_lemmas.proofs.OneJob.Placing.{Sizes}
use Rattle.step_lemmas.proofs.OneJob.Seeing.{seen_at, seen_len, seen_with}

-- the page of a number in the file of a number
abbrev pub content_at : {C : Type 0} → List (A.File C) → (file number : ℕ) → Option C
content_at [] i n = None
content_at (x ∷ xs) zero n = slice_get x.pages n
content_at (x ∷ xs) (suc i) n = content_at xs i n

-- how many pages the file of a number has
abbrev pub len_of : {C : Type 0} → List (A.File C) → ℕ → ℕ
len_of [] i = 0
len_of (x ∷ xs) zero = length x.pages
len_of (x ∷ xs) (suc i) = len_of xs i

-- sizes, counted from the second file on
sizes_later : {C : Type 0} (len : ℕ → ℕ) (n : ℕ) (fs : List (A.File C)) → Sizes (λ i. len (suc i)) n fs → Sizes len (suc n) fs
sizes_later len n [] s = tt
sizes_later len n (f ∷ fs) s = (s.0, sizes_later len (suc n) fs s.1)

-- these are the sizes of the files
pub sizes_of : {C : Type 0} (fs : List (A.File C)) → Sizes (len_of fs) 0 fs
sizes_of [] = tt
sizes_of (f ∷ fs) = (refl, sizes_later (len_of (f ∷ fs)) 0 fs (sizes_of fs))

-- a page, where the test says so
abbrev pub given_if : {C : Type 0} → Bool → Option C → Option C
given_if b o = cond b o None

-- no page, whatever the test says
pub given_none : {C : Type 0} (b : Bool) → ◌≡◌ {A = Option C} (given_if b None) None
given_none true = refl
given_none false = refl

-- the page of a number in a row of pages
shelved_at : {C : Type 0} (there : Place → Bool) (file m k : ℕ) (pages : List C) → get_or (shelved there file m pages) k None ≡ given_if (there (record { file = file; number = m + k })) (slice_get pages k)
shelved_at there file m k [] = sym (given_none (there (record { file = file; number = m + k })))
shelved_at {C} there file m zero (x ∷ pages) = (let e : m ≡ m + 0 = omega arith in ap (λ (n : ℕ). given_if (there (record { file = file; number = n })) (Some x)) e)
shelved_at {C} there file m (suc k) (x ∷ pages) =
    let e : suc m + k ≡ m + suc k = omega arith in
    shelved_at there file (suc m) k pages ∙ ap (λ (n : ℕ). given_if (there (record { file = file; number = n })) (slice_get pages k)) e

-- the page of a number in a file
in_printed : {C : Type 0} (b : Bool) (there : Place → Bool) (file k : ℕ) (pages : List C) → get_or (cond b (shelved there file 0 pages) []) k None ≡ given_if b (given_if (there (record { file = file; number = k })) (slice_get pages k))
in_printed {C} true there file k pages = (let e : 0 + k ≡ k = omega arith in shelved_at there file 0 k pages ∙ ap (λ (n : ℕ). given_if (there (record { file = file; number = n })) (slice_get pages k)) e)
in_printed false there file k pages = refl

-- the page of a number in one of the files from the n-th on
seen_from : {C : Type 0} (printed : ℕ → Bool) (there : Place → Bool) (n i k file : ℕ) (fs : List (A.File C)) → n + i ≡ file
    → seen_at (shelved_files printed there n fs) i k ≡ given_if (printed file) (given_if (there (record { file = file; number = k })) (content_at fs i k))
seen_from {C} printed there n i k file [] e = sym (ap (given_if (printed file)) (given_none (there (record { file = file; number = k }))) ∙ given_none (printed file))
seen_from {C} printed there n zero k file (f ∷ fs) e =
    let same : n ≡ file = omega arith in
    in_printed (printed n) there n k f.pages ∙ ap (λ (m : ℕ). given_if (printed m) (given_if (there (record { file = m; number = k })) (slice_get f.pages k))) same
seen_from printed there n (suc i) k file (f ∷ fs) e = seen_from printed there (suc n) i k file fs (omega arith)

-- which page is there at a place
pub seen_shelved : {C : Type 0} (printed : ℕ → Bool) (there : Place → Bool) (fs : List (A.File C)) (place : Place)
    → seen_at (shelved_files printed there 0 fs) place.file place.number ≡ given_if (printed place.file) (given_if (there place) (content_at fs place.file place.number))
seen_shelved printed there fs place = seen_from printed there 0 place.file place.number place.file fs (omega arith)

-- as many numbers as pages
length-shelved : {C : Type 0} (there : Place → Bool) (file m : ℕ) (pages : List C) → length (shelved there file m pages) ≡ length pages
length-shelved there file m [] = refl
length-shelved there file m (x ∷ pages) = ap suc (length-shelved there file (suc m) pages)

-- a file has all its numbers or none
len_by : {C : Type 0} (b : Bool) (there : Place → Bool) (file : ℕ) (pages : List C) → length (cond b (shelved there file 0 pages) []) ≤ length pages
len_by true there file pages = (let l = length-shelved there file 0 pages in omega (arith, l))
len_by false there file pages = omega arith

-- no file has more pages than it had
pub len_shelved : {C : Type 0} (printed : ℕ → Bool) (there : Place → Bool) (n i : ℕ) (fs : List (A.File C)) → seen_len (shelved_files printed there n fs) i ≤ len_of fs i
len_shelved printed there n i [] = omega arith
len_shelved printed there n zero (f ∷ fs) = len_by (printed n) there n f.pages
len_shelved printed there n (suc i) (f ∷ fs) = len_shelved printed there (suc n) i fs

-- a test that says the same of all pages

-- pages of one file
same_pages : {C : Type 0} (there after : Place → Bool) (file m : ℕ) (pages : List C) → ((k : ℕ) → m ≤ k → there (record { file = file; number = k }) ≡ after (record { file = file; number = k }))
    → shelved there file m pages ≡ shelved after file m pages
same_pages there after file m [] same i = []
same_pages there after file m (x ∷ pages) same i = cond (same m (omega arith) i) (Some x) None ∷ same_pages there after file (suc m) pages (λ k le. same k (omega arith)) i

-- leaves the same pages
pub same_files : {C : Type 0} (printed : ℕ → Bool) (there after : Place → Bool) (n : ℕ) (fs : List (A.File C)) → ((place : Place) → n ≤ place.file → there place ≡ after place)
    → shelved_files printed there n fs ≡ shelved_files printed after n fs
same_files printed there after n [] same i = []
same_files printed there after n (f ∷ fs) same i =
    record { name = f.name; pages = cond (printed n) (same_pages there after n 0 f.pages (λ k le. same (record { file = n; number = k }) (omega arith)) i) [] }
    ∷ same_files printed there after (suc n) fs (λ place le. same place (omega arith)) i

-- a test that says the same of all pages but one

-- a row of pages with another at one number
set_pages : {C : Type 0} (there after : Place → Bool) (file m k number : ℕ) (pages : List C) (page : Option C) → m + k ≡ number
    → ((i : ℕ) → (i ≡ number → ⊥) → there (record { file = file; number = i }) ≡ after (record { file = file; number = i }))
    → (k < length pages → page ≡ given_if (after (record { file = file; number = number })) (slice_get pages k))
    → set (shelved there file m pages) k page ≡ shelved after file m pages
set_pages there after file m k number [] page e same is i = []
set_pages {C} there after file m zero number (x ∷ pages) page e same is i =
    let n : number ≡ m = omega arith in
    (is (omega arith) ∙ ap (λ (i : ℕ). cond (after (record { file = file; number = i })) (Some x) None) n) i ∷ same_pages there after file (suc m) pages (λ i le. same i (λ s. omega arith)) i
set_pages there after file m (suc k) number (x ∷ pages) page e same is i =
    cond (same m (λ s. omega arith) i) (Some x) None ∷ set_pages there after file (suc m) k number pages page (omega arith) same (λ lt. is (omega arith)) i

-- a file with another page at one number
set_printed : {C : Type 0} (b : Bool) (there after : Place → Bool) (file number : ℕ) (pages : List C) (page : Option C)
    → ((i : ℕ) → (i ≡ number → ⊥) → there (record { file = file; number = i }) ≡ after (record { file = file; number = i }))
    → (number < length pages → page ≡ given_if (after (record { file = file; number = number })) (slice_get pages number))
    → set (cond b (shelved there file 0 pages) []) number page ≡ cond b (shelved after file 0 pages) []
set_printed true there after file number pages page same is = set_pages there after file 0 number number pages page (omega arith) same is
set_printed false there after file number pages page same is = refl

-- one of the files from the n-th on, with another page at one number
set_from : {C : Type 0} (printed : ℕ → Bool) (there after : Place → Bool) (n i : ℕ) (at : Place) (fs : List (A.File C)) (page : Option C) → n + i ≡ at.file
    → ((place : Place) → ((place.file ≡ at.file) × (place.number ≡ at.number) → ⊥) → there place ≡ after place)
    → page ≡ given_if (after at) (content_at fs i at.number)
    → seen_with (shelved_files printed there n fs) i at.number page ≡ shelved_files printed after n fs
set_from printed there after n i at [] page e same is p = []
set_from {C} printed there after n zero at (f ∷ fs) page e same is p =
    let m : at.file ≡ n = omega arith in
    let here : page ≡ given_if (after (record { file = n; number = at.number })) (slice_get f.pages at.number) =
    is ∙ ap (λ (j : ℕ). given_if (after (record { file = j; number = at.number })) (slice_get f.pages at.number)) m in
    record { name = f.name; pages = set_printed (printed n) there after n at.number f.pages page (λ k ne. same (record { file = n; number = k }) (λ s. ne s.1)) (λ lt. here) p }
    ∷ same_files printed there after (suc n) fs (λ place le. same place (λ s. let q = s.0 in omega arith)) p
set_from printed there after n (suc i) at (f ∷ fs) page e same is p =
    record { name = f.name; pages = cond (printed n) (same_pages there after n 0 f.pages (λ k le. same (record { file = n; number = k }) (λ s. let q = s.0 in omega arith)) p) [] }
    ∷ set_from printed there after (suc n) i at fs page (omega arith) same is p

-- leaves the pages with that one as the test says
pub set_shelved : {C : Type 0} (printed : ℕ → Bool) (there after : Place → Bool) (at : Place) (fs : List (A.File C)) (page : Option C)
    → ((place : Place) → ((place.file ≡ at.file) × (place.number ≡ at.number) → ⊥) → there place ≡ after place)
    → page ≡ given_if (after at) (content_at fs at.file at.number)
    → seen_with (shelved_files printed there 0 fs) at.file at.number page ≡ shelved_files printed after 0 fs
set_shelved printed there after at fs page same is = set_from printed there after 0 at.file at fs page (omega arith) same is
