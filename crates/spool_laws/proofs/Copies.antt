-- How many pages a received job keeps, and how many places it has, where its print list may repeat a name.
use Rattle.std.proofs.Common.{◌⊎◌, inl, inr, ◌≡◌, ℕ, zero, suc, ◌+◌, ◌*◌, ◌<◌, ◌≤◌, Bool, true, false, List, [], ◌∷◌, ◌++◌, drop, length, refl, ap, subst, arith, length-append}
use Rattle.std.specs.Prelude.{cond, filter}
use Rattle.std.specs.List.{list_any, flat_map}
use Rattle.std.specs.Str.{bytes_eq}
use Rattle.std.proofs.lemmas.List.Sums.{length-filter, sum_by-le-sum_by, count_by-le-length}
use Rattle.lpd_values.specs.Told.{prints_in}
use Rattle.spool_history.specs.Acts.{File, Page, all_pages, is_same_page, numbered, pages_among, pages_named}
use Rattle.spool_history.specs.Now.{Job, pages_kept, places}
use Rattle.spool_laws.proofs.Known.{Has, filter_has, clash, or_true, test}
use Rattle.spool_laws.proofs.Adding.{has_left}
use Rattle.std.proofs.lemmas.Bool.{cases_Bool}

-- how many pages files have
abbrev pub pages_in : {C : Type 0} → List (File C) → ℕ
pages_in [] = 0
pages_in (f ∷ fs) = length f.pages + pages_in fs

length_numbered : {C : Type 0} (file n : ℕ) (pages : List C) → length (numbered file n pages) ≡ length pages
length_numbered file n [] = refl
length_numbered file n (x ∷ xs) = ap suc (length_numbered file (n + 1) xs)

length_all : {C : Type 0} (n : ℕ) (fs : List (File C)) → length (all_pages n fs) ≡ pages_in fs
length_all n [] = refl
length_all n (f ∷ fs) = omega (arith, length-append (numbered n 0 f.pages) (all_pages (n + 1) fs), length_numbered n 0 f.pages, length_all (n + 1) fs)

-- what a test keeps of a list

filter_fewer : {X : Type 0} (t u : X → Bool) (xs : List X) → ((x : X) → t x ≡ true → u x ≡ true) → length (filter t xs) ≤ length (filter u xs)
filter_fewer {X} t u xs up =
    let each = sum_by-le-sum_by (λ (x : X). cond (t x) 1 0) (λ (x : X). cond (u x) 1 0) xs (λ x. elim (cases_Bool (t x)) [ inl e ↦ rw (e, up x e) (omega arith) | inr e ↦ rw e (omega arith) ]) in
    omega (arith, length-filter t xs, length-filter u xs)

-- a list that has something is not empty
has_some : {X : Type 0} (x : X) (xs : List X) → Has x xs → 1 ≤ length xs
has_some x [] has = absurd has
has_some x (y ∷ ys) has = omega arith

none_left : {X : Type 0} (t : X → Bool) (n : ℕ) → list_any t (drop n []) ≡ false
none_left t zero = refl
none_left t (suc n) = refl

any_later : {X : Type 0} (t : X → Bool) (n : ℕ) (xs : List X) → list_any t (drop (n + 1) xs) ≡ true → list_any t (drop n xs) ≡ true
any_later {X} t n [] e = absurd (clash (list_any t (drop (n + 1) [])) e (none_left t (n + 1)))
any_later t zero (x ∷ xs) e = (let z : list_any t xs ≡ true = e in rw z (or_true (t x)))
any_later t (suc n) (x ∷ xs) e =
    let next : suc n + 1 ≡ suc (n + 1) = omega arith in
    any_later t n xs (subst (λ (m : ℕ). list_any t (drop m (x ∷ xs)) ≡ true) next e)

-- the pages that a job keeps are among the pages of its files
pub kept_within : {C : Type 0} (v : Job C) → length (pages_kept v) ≤ pages_in v.files
kept_within {C} v =
    let is_kept : Page C → Bool = λ page. list_any (is_same_page page) (drop v.back (places v)) in
    omega (arith, length-filter is_kept (all_pages 0 v.files), count_by-le-length is_kept (all_pages 0 v.files), length_all 0 v.files)

-- and no more of them once one more place came back
pub kept_fewer : {C : Type 0} (v : Job C) → length (pages_kept (record v { back = v.back + 1 })) ≤ length (pages_kept v)
kept_fewer {C} v =
    filter_fewer (λ (page : Page C). list_any (is_same_page page) (drop (v.back + 1) (places v))) (λ (page : Page C). list_any (is_same_page page) (drop v.back (places v))) (all_pages 0 v.files)
    (λ page. any_later (is_same_page page) v.back (places v))

-- each place is a page of a file

pub has_right : {X : Type 0} (x : X) (xs ys : List X) → Has x ys → Has x (xs ++ ys)
has_right x [] ys has = has
has_right x (z ∷ zs) ys has = inr (has_right x zs ys has)

pub has_either : {X : Type 0} (x : X) (xs ys : List X) → Has x (xs ++ ys) → Has x xs ⊎ Has x ys
has_either x [] ys has = inr has
has_either x (z ∷ zs) ys has = elim has [
  | inl e ↦ inl (inl e)
  | inr t ↦ elim (has_either x zs ys t) [ inl a ↦ inl (inr a) | inr b ↦ inr b ]
]

pub if_has : {X : Type 0} (x : X) (b : Bool) (xs : List X) → Has x (cond b xs []) → Has x xs
if_has x true xs has = has
if_has x false xs has = absurd has

pub named_there : {C : Type 0} (name : List ℕ) (x : Page C) (n : ℕ) (fs : List (File C)) → Has x (pages_named name n fs) → Has x (all_pages n fs)
named_there name x n [] has = absurd has
named_there name x n (f ∷ fs) has = elim (has_either x (cond (bytes_eq f.name name) (numbered n 0 f.pages) []) (pages_named name (n + 1) fs) has) [
  | inl a ↦ has_left x (numbered n 0 f.pages) (all_pages (n + 1) fs) (if_has x (bytes_eq f.name name) (numbered n 0 f.pages) a)
  | inr b ↦ has_right x (numbered n 0 f.pages) (all_pages (n + 1) fs) (named_there name x (n + 1) fs b)
]

pub places_there : {C : Type 0} (x : Page C) (fs : List (File C)) (names : List (List ℕ)) → Has x (flat_map (λ name. pages_named name 0 fs) names) → Has x (all_pages 0 fs)
places_there x fs [] has = absurd has
places_there x fs (name ∷ names) has = elim (has_either x (pages_named name 0 fs) (flat_map (λ name. pages_named name 0 fs) names) has) [
  | inl a ↦ named_there name x 0 fs a
  | inr b ↦ places_there x fs names b
]

pub same_page : {C : Type 0} (x : Page C) → is_same_page x x ≡ true
same_page x = elim (test x.file x.file) [
  | inl s ↦ elim (test x.number x.number) [ inl t ↦ rw (s.1, t.1) refl | inr t ↦ absurd (t.0 refl) ]
  | inr s ↦ absurd (s.0 refl)
]

some_later : {C : Type 0} (n : ℕ) (ps all : List (Page C)) → n < length ps → ((x : Page C) → Has x ps → Has x all) → 1 ≤ length (pages_among (drop n ps) all)
some_later n [] all lt there = absurd (omega arith)
some_later {C} zero (x ∷ xs) all lt there =
    has_some x _ (filter_has (λ (page : Page C). list_any (is_same_page page) (x ∷ xs)) x all (rw (same_page x) refl) (there x (inl refl)))
some_later (suc n) (x ∷ xs) all lt there = some_later n xs all (omega arith) (λ y has. there y (inr has))

-- while a place is to come a page is kept
pub kept_some : {C : Type 0} (v : Job C) → v.back < length (places v) → 1 ≤ length (pages_kept v)
kept_some v lt = some_later v.back (places v) (all_pages 0 v.files) lt (λ x has. places_there x v.files (prints_in v.control) has)

-- a print list of n names has n times the pages at most

named_within : {C : Type 0} (name : List ℕ) (n : ℕ) (fs : List (File C)) → length (pages_named name n fs) ≤ pages_in fs
named_within name n [] = omega arith
named_within name n (f ∷ fs) =
    let ih = named_within name (n + 1) fs in
    let l = length_numbered n 0 f.pages in
    omega (arith, length-append (cond (bytes_eq f.name name) (numbered n 0 f.pages) []) (pages_named name (n + 1) fs), if_length (bytes_eq f.name name) (numbered n 0 f.pages))
  where
    if_length : {X : Type 0} (b : Bool) (xs : List X) → length (cond b xs []) ≤ length xs
    if_length true xs = omega arith
    if_length false xs = omega arith

-- n times a number, by adding
abbrev pub times : ℕ → ℕ → ℕ
times zero p = 0
times (suc n) p = p + times n p

places_times : {C : Type 0} (n : ℕ) (fs : List (File C)) (names : List (List ℕ)) → length names ≤ n → length (flat_map (λ name. pages_named name 0 fs) names) ≤ times n (pages_in fs)
places_times n fs [] le = omega arith
places_times zero fs (name ∷ names) le = absurd (omega arith)
places_times (suc n) fs (name ∷ names) le =
    omega (arith, places_times n fs names (omega arith), named_within name 0 fs, length-append (pages_named name 0 fs) (flat_map (λ name. pages_named name 0 fs) names))

pub places_many : {C : Type 0} (v : Job C) → length (prints_in v.control) ≤ 99 → length (places v) ≤ 99 * pages_in v.files
places_many v le = let a = places_times 99 v.files (prints_in v.control) le in omega arith
