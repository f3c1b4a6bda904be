-- How many pages of a job still have a place, name by name: a name that is printed again adds nothing, and one that isn't adds the
-- pages of its file, less those places of it that came back.
use Rattle.std.proofs.Common.{inl, inr, ◌⊎◌, ◌≡◌, ◌==◌, ◌≢◌, ℕ, zero, suc, ◌+◌, ◌-◌, ◌<◌, ◌≤◌, Bool, true, false, List, [], ◌∷◌, ◌++◌, drop, length, refl, sym, ◌∙◌, ap, subst, arith, length-append, length-drop}
use Rattle.std.specs.Prelude.{filter, cond, ◌||◌, ◌&&◌}
use Rattle.std.specs.List.{flat_map, list_any}
use Rattle.std.specs.Str.{bytes_eq}
use Rattle.std.proofs.lemmas.List.{append-nil, drop-append-le}
use Rattle.std.proofs.Math.Seq.{drop-append-add}
use Rattle.std.proofs.lemmas.List.Folds.{list_any-append}
use Rattle.std.proofs.lemmas.Bool.{and_left, and_parts, and_right, cases_Bool, ne_eqb, or_cases}
use Rattle.std.proofs.lemmas.Bool.Decides.{nat_tests}
use Rattle.std.proofs.lemmas.Slice.Eq.{bytes_eq-Decides}
use Rattle.lpd_values.specs.Kept.{is_among}
use Rattle.spool_history.specs.Acts.{File, Page, numbered, pages_named, all_pages, is_same_page, pages_among}
use Rattle.spool_laws.proofs.Known.{Has, clash, or_true, test}
use Rattle.spool_laws.proofs.Copies.{named_there}
use Rattle.step_lemmas.proofs.HeldJobs.EachPage.{among_last, how_many_either, how_many_same}

-- the places of these names
abbrev pub placed : {C : Type 0} → List (List ℕ) → List (File C) → List (Page C)
placed names fs = flat_map (λ name. pages_named name 0 fs) names

-- the pages that have one of these places
abbrev pub kept_of : {C : Type 0} → List (Page C) → List (File C) → ℕ
kept_of places fs = length (pages_among places (all_pages 0 fs))

-- how many pages a name has, whatever the number of the first file
numbered_many : {C : Type 0} (file n : ℕ) (pages : List C) → length (numbered file n pages) ≡ length pages
numbered_many file n [] = refl
numbered_many file n (page ∷ pages) = ap suc (numbered_many file (n + 1) pages)

pub named_first : {C : Type 0} (name : List ℕ) (n : ℕ) (f : File C) (fs : List (File C)) → length (pages_named name n (f ∷ fs)) ≡ cond (bytes_eq f.name name) (length f.pages) 0 + length (pages_named name (n + 1) fs)
named_first {C} name n f fs =
    length-append (cond (bytes_eq f.name name) (numbered n 0 f.pages) []) (pages_named name (n + 1) fs) ∙ ap (λ (m : ℕ). m + length (pages_named name (n + 1) fs)) (own (bytes_eq f.name name))
  where
    own : (b : Bool) → length (cond b (numbered n 0 f.pages) []) ≡ cond b (length f.pages) 0
    own true = numbered_many n 0 f.pages
    own false = refl

pub named_shifted : {C : Type 0} (name : List ℕ) (n m : ℕ) (fs : List (File C)) → length (pages_named name n fs) ≡ length (pages_named name m fs)
named_shifted name n m [] = refl
named_shifted name n m (f ∷ fs) =
    named_first name n f fs
    ∙ (ap (λ (k : ℕ). cond (bytes_eq f.name name) (length f.pages) 0 + k) (named_shifted name (n + 1) (m + 1) fs) ∙ sym (named_first name m f fs))

-- one file more
pub named_own : {C : Type 0} (name : List ℕ) (f : File C) (fs : List (File C)) → bytes_eq f.name name ≡ true → length (pages_named name 0 (f ∷ fs)) ≡ length (pages_named name 0 fs) + length f.pages
named_own name f fs e =
    let first = named_first name 0 f fs in
    let same = named_shifted name 1 0 fs in
    let own : cond (bytes_eq f.name name) (length f.pages) 0 ≡ length f.pages = rw e refl in
    omega (arith, first, same, own)

pub named_other : {C : Type 0} (name : List ℕ) (f : File C) (fs : List (File C)) → bytes_eq f.name name ≡ false → length (pages_named name 0 (f ∷ fs)) ≡ length (pages_named name 0 fs)
named_other name f fs e =
    let first = named_first name 0 f fs in
    let same = named_shifted name 1 0 fs in
    let own : cond (bytes_eq f.name name) (length f.pages) 0 ≡ 0 = rw e refl in
    omega (arith, first, same, own)

-- a test of the pages of a file by their numbers
same_by : {C : Type 0} (x : Page C) (file n : ℕ) (page : C) → is_same_page x (record { file = file; number = n; page = page }) ≡ ((x.file == file) && (x.number == n))
same_by x file n page = refl

other_numbered : {C : Type 0} (x : Page C) (file n : ℕ) (pages : List C) → x.file ≢ file → list_any (is_same_page x) (numbered file n pages) ≡ false
other_numbered x file n [] ne = refl
other_numbered x file n (page ∷ pages) ne =
    rw (and_left (x.file == file) (x.number == n) (ne_eqb x.file file ne)) (other_numbered x file (n + 1) pages ne)

lower_numbered : {C : Type 0} (x : Page C) (file n : ℕ) (pages : List C) → x.number < n → list_any (is_same_page x) (numbered file n pages) ≡ false
lower_numbered x file n [] lt = refl
lower_numbered x file n (page ∷ pages) lt =
    rw (and_right (x.file == file) (x.number == n) (ne_eqb x.number n (λ e. omega (arith, e, lt)))) (lower_numbered x file (n + 1) pages (omega (arith, lt)))

-- none is of an earlier file
earlier_file : {C : Type 0} (x : Page C) (name : List ℕ) (n : ℕ) (fs : List (File C)) → x.file < n → list_any (is_same_page x) (pages_named name n fs) ≡ false
earlier_file x name n [] lt = refl
earlier_file {C} x name n (f ∷ fs) lt =
    list_any-append (is_same_page x) (cond (bytes_eq f.name name) (numbered n 0 f.pages) []) (pages_named name (n + 1) fs)
    ∙ (ap (λ (b : Bool). b || list_any (is_same_page x) (pages_named name (n + 1) fs)) (own (bytes_eq f.name name)) ∙ earlier_file x name (n + 1) fs (omega (arith, lt)))
  where
    own : (b : Bool) → list_any (is_same_page x) (cond b (numbered n 0 f.pages) []) ≡ false
    own true = other_numbered x n 0 f.pages (λ e. omega (arith, e, lt))
    own false = refl

-- no two are the same page
abbrev pub AreApart : {C : Type 0} → List (Page C) → Type 0
AreApart [] = Unit {0}
AreApart (x ∷ xs) = (list_any (is_same_page x) xs ≡ false) × AreApart xs

-- a file's pages and pages of which none is of it or an earlier one
before_others : {C : Type 0} (file n : ℕ) (pages : List C) (others : List (Page C)) → ((x : Page C) → x.file ≡ file → list_any (is_same_page x) others ≡ false) → AreApart others → AreApart (numbered file n pages ++ others)
before_others file n [] others none h = h
before_others {C} file n (page ∷ pages) others none h = (
  list_any-append (is_same_page first) (numbered file (n + 1) pages) others
      ∙ (ap (λ (b : Bool). b || list_any (is_same_page first) others) (lower_numbered first file (n + 1) pages (omega arith)) ∙ none first refl),
  before_others file (n + 1) pages others none h,
)
  where
    first : Page C
    first = record { file = file; number = n; page = page }

named_apart : {C : Type 0} (name : List ℕ) (n : ℕ) (fs : List (File C)) → AreApart (pages_named name n fs)
named_apart name n [] = tt
named_apart {C} name n (f ∷ fs) = own (bytes_eq f.name name) (named_apart name (n + 1) fs)
  where
    own : (b : Bool) → AreApart (pages_named name (n + 1) fs) → AreApart (cond b (numbered n 0 f.pages) [] ++ pages_named name (n + 1) fs)
    own true others = before_others n 0 f.pages (pages_named name (n + 1) fs) (λ x e. earlier_file x name (n + 1) fs (omega (arith, e))) others
    own false others = others

apart_later : {C : Type 0} (n : ℕ) (xs : List (Page C)) → AreApart xs → AreApart (drop n xs)
apart_later zero xs h = h
apart_later (suc n) [] h = h
apart_later (suc n) (x ∷ xs) h = apart_later n xs h.1

has_later : {X : Type 0} (x : X) (n : ℕ) (xs : List X) → Has x (drop n xs) → Has x xs
has_later x zero xs h = h
has_later x (suc n) [] h = h
has_later x (suc n) (y ∷ ys) h = inr (has_later x n ys h)

any_later : {X : Type 0} (t : X → Bool) (n : ℕ) (xs : List X) → list_any t (drop n xs) ≡ true → list_any t xs ≡ true
any_later t zero xs h = h
any_later t (suc n) [] h = h
any_later t (suc n) (x ∷ xs) h = ap (λ (b : Bool). t x || b) (any_later t n xs h) ∙ or_true (t x)

-- where there is no place there is no page
none_of_all : {C : Type 0} (xs : List (Page C)) → length (pages_among [] xs) ≡ 0
none_of_all [] = refl
none_of_all (x ∷ xs) = none_of_all xs

-- places that are apart are as many pages
apart_kept : {C : Type 0} (ps : List (Page C)) (fs : List (File C)) → AreApart ps → ((x : Page C) → Has x ps → Has x (all_pages 0 fs)) → kept_of ps fs ≡ length ps
apart_kept [] fs h there = none_of_all (all_pages 0 fs)
apart_kept (x ∷ xs) fs h there =
    let one = among_last x xs fs (there x (inl refl)) h.0 in
    let rest = apart_kept xs fs h.1 (λ y has. there y (inr has)) in
    omega (arith, one, rest)

-- a page is of one name
one_name : {C : Type 0} (x : Page C) (a b : List ℕ) (n : ℕ) (fs : List (File C)) → list_any (is_same_page x) (pages_named a n fs) ≡ true → list_any (is_same_page x) (pages_named b n fs) ≡ true → a ≡ b
one_name x a b n [] h k = cc h
one_name {C} x a b n (f ∷ fs) h k =
    elim (test x.file n) [
      | inl s ↦ sym (its a (own a h s.0)) ∙ its b (own b k s.0)
      | inr s ↦ one_name x a b (n + 1) fs (rest a h s.0) (rest b k s.0)
    ]
  where
    parts : (name : List ℕ) → list_any (is_same_page x) (pages_named name n (f ∷ fs)) ≡ true
        → (list_any (is_same_page x) (cond (bytes_eq f.name name) (numbered n 0 f.pages) []) ≡ true) ⊎ (list_any (is_same_page x) (pages_named name (n + 1) fs) ≡ true)
    parts name e =
        or_cases _ _ (sym (list_any-append (is_same_page x) (cond (bytes_eq f.name name) (numbered n 0 f.pages) []) (pages_named name (n + 1) fs)) ∙ e)

    named : (t : Bool) → list_any (is_same_page x) (cond t (numbered n 0 f.pages) []) ≡ true → t ≡ true
    named true e = refl
    named false e = cc e

    own : (name : List ℕ) → list_any (is_same_page x) (pages_named name n (f ∷ fs)) ≡ true → x.file ≡ n → bytes_eq f.name name ≡ true
    own name e same =
        elim (parts name e) [
          | inl first ↦ named (bytes_eq f.name name) first
          | inr later ↦ absurd (clash _ later (earlier_file x name (n + 1) fs (omega (arith, same))))
        ]

    its : (name : List ℕ) → bytes_eq f.name name ≡ true → f.name ≡ name
    its name e = (bytes_eq-Decides f.name name).0 e

    none : (t : Bool) → x.file ≢ n → list_any (is_same_page x) (cond t (numbered n 0 f.pages) []) ≡ false
    none true ne = other_numbered x n 0 f.pages ne
    none false ne = refl

    rest : (name : List ℕ) → list_any (is_same_page x) (pages_named name n (f ∷ fs)) ≡ true → x.file ≢ n → list_any (is_same_page x) (pages_named name (n + 1) fs) ≡ true
    rest name e ne =
        elim (parts name e) [
          | inl first ↦ absurd (clash _ first (none (bytes_eq f.name name) ne))
          | inr later ↦ later
        ]

-- a page that these names print is of one of them
of_these : {C : Type 0} (x : Page C) (name : List ℕ) (names : List (List ℕ)) (fs : List (File C)) → list_any (is_same_page x) (pages_named name 0 fs) ≡ true → list_any (is_same_page x) (placed names fs) ≡ true → is_among name names ≡ true
of_these x name [] fs h k = cc k
of_these {C} x name (b ∷ names) fs h k =
    elim (or_cases _ _ (sym (list_any-append (is_same_page x) (pages_named b 0 fs) (placed names fs)) ∙ k)) [
      | inl own ↦ (let e : bytes_eq b name ≡ true = (bytes_eq-Decides b name).1 (one_name x b name 0 fs own h) in rw e refl)
      | inr later ↦ ap (λ (t : Bool). bytes_eq b name || t) (of_these x name names fs h later) ∙ or_true (bytes_eq b name)
    ]

-- and a name that is among them has its pages there
there_again : {C : Type 0} (x : Page C) (name : List ℕ) (names : List (List ℕ)) (fs : List (File C)) → is_among name names ≡ true → list_any (is_same_page x) (pages_named name 0 fs) ≡ true → list_any (is_same_page x) (placed names fs) ≡ true
there_again x name [] fs h k = cc h
there_again {C} x name (b ∷ names) fs h k =
    list_any-append (is_same_page x) (pages_named b 0 fs) (placed names fs)
    ∙ elim (or_cases (bytes_eq b name) (is_among name names) h) [
      | inl own ↦ (
          let e : list_any (is_same_page x) (pages_named b 0 fs) ≡ true = ap (λ (l : List ℕ). list_any (is_same_page x) (pages_named l 0 fs)) ((bytes_eq-Decides b name).0 own) ∙ k in rw e refl)
      | inr later ↦ ap (λ (t : Bool). list_any (is_same_page x) (pages_named b 0 fs) || t) (there_again x name names fs later k) ∙ or_true (list_any (is_same_page x) (pages_named b 0 fs))
    ]

-- what a name adds that is printed again: nothing
pub again_kept : {C : Type 0} (name : List ℕ) (names : List (List ℕ)) (n : ℕ) (fs : List (File C)) → is_among name names ≡ true → kept_of (drop n (pages_named name 0 fs) ++ placed names fs) fs ≡ kept_of (placed names fs) fs
again_kept {C} name names n fs again =
    how_many_same (λ (x : Page C). list_any (is_same_page x) (block ++ placed names fs)) (λ (x : Page C). list_any (is_same_page x) (placed names fs)) (all_pages 0 fs)
    (λ x. list_any-append (is_same_page x) block (placed names fs) ∙ by x (list_any (is_same_page x) block) refl)
  where
    block : List (Page C)
    block = drop n (pages_named name 0 fs)

    by : (x : Page C) (b : Bool) → list_any (is_same_page x) block ≡ b → (b || list_any (is_same_page x) (placed names fs)) ≡ list_any (is_same_page x) (placed names fs)
    by x true e = sym (there_again x name names fs again (any_later (is_same_page x) n (pages_named name 0 fs) e))
    by x false e = refl

-- and one that isn't: its places
pub last_kept : {C : Type 0} (name : List ℕ) (names : List (List ℕ)) (n : ℕ) (fs : List (File C)) → is_among name names ≡ false → kept_of (drop n (pages_named name 0 fs) ++ placed names fs) fs ≡ length (pages_named name 0 fs) - n + kept_of (placed names fs) fs
last_kept {C} name names n fs last =
    how_many_same (λ (x : Page C). list_any (is_same_page x) (block ++ placed names fs)) (λ (x : Page C). list_any (is_same_page x) block || list_any (is_same_page x) (placed names fs)) (all_pages 0 fs)
    (λ x. list_any-append (is_same_page x) block (placed names fs))
    ∙ (
    how_many_either (λ (x : Page C). list_any (is_same_page x) block) (λ (x : Page C). list_any (is_same_page x) (placed names fs)) (all_pages 0 fs) never
    ∙ ap (λ (k : ℕ). k + kept_of (placed names fs) fs) (apart_kept block fs (apart_later n (pages_named name 0 fs) (named_apart name 0 fs)) there ∙ length-drop n (pages_named name 0 fs))
    )
  where
    block : List (Page C)
    block = drop n (pages_named name 0 fs)

    there : (x : Page C) → Has x block → Has x (all_pages 0 fs)
    there x h = named_there name x 0 fs (has_later x n (pages_named name 0 fs) h)

    never : (x : Page C) → list_any (is_same_page x) block ≡ true → list_any (is_same_page x) (placed names fs) ≡ false
    never x e =
        elim (cases_Bool (list_any (is_same_page x) (placed names fs))) [
          | inl said ↦ absurd (clash _ (of_these x name names fs (any_later (is_same_page x) n (pages_named name 0 fs) e) said) last)
          | inr no_ ↦ no_
        ]

-- the pages that have a place, where so many places came back: of a first name that is behind, of one that comes again, and of one that
-- doesn't
abbrev pub left_of : {C : Type 0} → List (List ℕ) → List (File C) → ℕ → ℕ
left_of names fs n = kept_of (drop n (placed names fs)) fs

left_none : {C : Type 0} (n : ℕ) (fs : List (File C)) → left_of [] fs n ≡ 0
left_none zero fs = none_of_all (all_pages 0 fs)
left_none (suc n) fs = none_of_all (all_pages 0 fs)

pub left_empty : {C : Type 0} (names : List (List ℕ)) (n : ℕ) (fs : List (File C)) → length names ≡ 0 → 0 ≡ left_of names fs n
left_empty [] n fs e = sym (left_none n fs)
left_empty (name ∷ names) n fs e = absurd (omega arith)

-- so many places are behind the first name, or within its pages
pub past_name : {C : Type 0} (name : List ℕ) (names : List (List ℕ)) (n : ℕ) (fs : List (File C)) → length (pages_named name 0 fs) ≤ n → kept_of (drop n (placed (name ∷ names) fs)) fs ≡ kept_of (drop (n - length (pages_named name 0 fs)) (placed names fs)) fs
past_name {C} name names n fs le =
    let m = length (pages_named name 0 fs) in
    let e : n ≡ m + (n - m) = omega (arith, le) in
    ap (λ (k : ℕ). kept_of (drop k (placed (name ∷ names) fs)) fs) e
    ∙ ap (λ (ps : List (Page C)). kept_of ps fs) (drop-append-add (pages_named name 0 fs) (placed names fs) (n - m))

pub within_name : {C : Type 0} (name : List ℕ) (names : List (List ℕ)) (n : ℕ) (fs : List (File C)) → n ≤ length (pages_named name 0 fs) → kept_of (drop n (placed (name ∷ names) fs)) fs ≡ kept_of (drop n (pages_named name 0 fs) ++ placed names fs) fs
within_name {C} name names n fs le = ap (λ (ps : List (Page C)). kept_of ps fs) (drop-append-le n (pages_named name 0 fs) (placed names fs) le)

pub left_again : {C : Type 0} (name : List ℕ) (names : List (List ℕ)) (n : ℕ) (fs : List (File C)) → n ≤ length (pages_named name 0 fs) → is_among name names ≡ true → left_of (name ∷ names) fs n ≡ left_of names fs 0
left_again name names n fs le again = within_name name names n fs le ∙ again_kept name names n fs again

pub left_last : {C : Type 0} (name : List ℕ) (names : List (List ℕ)) (n : ℕ) (fs : List (File C)) → n ≤ length (pages_named name 0 fs) → is_among name names ≡ false → left_of (name ∷ names) fs n ≡ left_of names fs 0 + (length (pages_named name 0 fs) - n)
left_last name names n fs le last =
    let e = last_kept name names n fs last in
    let w = within_name name names n fs le in
    omega (arith, e, w)
