-- Each page of a job stands once among the pages of its files, so one place less takes it out of those that are kept exactly
-- where no later place is of the same page.
use Rattle.std.proofs.Common.{inl, inr, ◌≡◌, ◌==◌, ◌≢◌, ℕ, zero, suc, ◌+◌, ◌<◌, ◌≤◌, Bool, true, false, List, [], ◌∷◌, drop, length, map, refl, sym, ◌∙◌, ap, subst, arith, length-append}
use Rattle.std.specs.Prelude.{Some, filter, slice_get, ◌&&◌, ◌||◌}
use Rattle.std.specs.List.{list_any}
use Rattle.std.proofs.lemmas.List.Elements.{filter-append, filter_agree}
use Rattle.std.proofs.lemmas.Bool.Decides.{nat_tests}
use Rattle.std.proofs.lemmas.Bool.{and_left, and_parts, and_right, ne_eqb}
use Rattle.spool_history.specs.Acts.{File, Page, numbered, all_pages, is_same_page, pages_among}
use Rattle.spool_laws.proofs.Known.{Has, test, or_true}
use Rattle.spool_laws.proofs.Apart.{one_for}
use Rattle.spool_laws.proofs.Copies.{same_page}

-- an element of a list, and what follows it
pub record Nth {X : Type 0} (xs : List X) (i : ℕ) : Type 0 where
  pub here : X
  pub left : drop i xs ≡ here ∷ drop (i + 1) xs
  pub is : slice_get xs i ≡ Some here
  pub has : Has here xs

-- each number below the length is that of an element
pub nth : {X : Type 0} (xs : List X) (i : ℕ) → i < length xs → Nth xs i
nth [] i lt = absurd (omega arith)
nth (x ∷ xs) zero lt = record { here = x; left = refl; is = refl; has = inl refl }
nth {X} (x ∷ xs) (suc i) lt =
    let n = nth xs i (omega arith) in
    let e : suc (i + 1) ≡ suc i + 1 = omega arith in
    record { here = n.here; left = n.left ∙ ap (λ (m : ℕ). n.here ∷ drop m (x ∷ xs)) e; is = n.is; has = inr n.has }

-- how many of a list a test says yes to
abbrev pub how_many : {X : Type 0} → (X → Bool) → List X → ℕ
how_many t xs = length (filter t xs)

-- one more in front is one more where the test says yes to it
how_many_cons : {X : Type 0} (t : X → Bool) (x : X) (xs : List X) → how_many t (x ∷ xs) ≡ one_for (t x) + how_many t xs
how_many_cons t x xs = by (t x) refl
  where
    by : (b : Bool) → t x ≡ b → how_many t (x ∷ xs) ≡ one_for (t x) + how_many t xs
    by true e = rw e (omega arith)
    by false e = rw e (omega arith)

-- tests that agree say yes to as many
pub how_many_same : {X : Type 0} (t u : X → Bool) (xs : List X) → ((x : X) → t x ≡ u x) → how_many t xs ≡ how_many u xs
how_many_same t u xs e = ap length (filter_agree t u e xs)

-- tests that never both say yes
pub how_many_either : {X : Type 0} (t u : X → Bool) (xs : List X) → ((x : X) → t x ≡ true → u x ≡ false) → how_many (λ (x : X). t x || u x) xs ≡ how_many t xs + how_many u xs
how_many_either t u [] e = omega arith
how_many_either {X} t u (x ∷ xs) e =
    omega (arith, how_many_cons (λ (y : X). t y || u y) x xs, how_many_cons t x xs, how_many_cons u x xs, how_many_either t u xs e, by (t x) refl)
  where
    by : (b : Bool) → t x ≡ b → one_for (t x || u x) ≡ one_for (t x) + one_for (u x)
    by true is = (let no = e x is in rw (is, no) (omega arith))
    by false is = rw is (omega arith)

-- where one stands to which the test says yes
some_there : {X : Type 0} (t : X → Bool) (x : X) (xs : List X) → t x ≡ true → Has x xs → 1 ≤ how_many t xs
some_there t x [] is has = absurd has
some_there {X} t x (y ∷ ys) is has =
    let a = how_many_cons t y ys in
    elim has [
      | inl s ↦ let here : t y ≡ true = subst (λ (z : X). t z ≡ true) (sym s) is in let one : one_for (t y) ≡ 1 = rw here refl in omega arith
      | inr h ↦ let ih = some_there t x ys is h in omega arith
    ]

-- whether a page has these numbers: of its file, and its own
abbrev pub is_page : {C : Type 0} → (file number : ℕ) → Page C → Bool
is_page file number page = (page.file == file) && (page.number == number)

-- of pages that are numbered from n on none has a lower number
none_before : {C : Type 0} (f k file n : ℕ) (pages : List C) → k < n → how_many (is_page f k) (numbered file n pages) ≡ 0
none_before f k file n [] lt = refl
none_before f k file n (page ∷ pages) lt =
    rw (and_right (file == f) (n == k) (ne_eqb n k (λ e. omega (arith, e, lt)))) (none_before f k file (n + 1) pages (omega (arith, lt)))

-- and one at most has a number
one_numbered : {C : Type 0} (f k file n : ℕ) (pages : List C) → how_many (is_page f k) (numbered file n pages) ≤ 1
one_numbered f k file n [] = omega arith
one_numbered {C} f k file n (page ∷ pages) = elim (test n k) [
  | inl s ↦
      let a = how_many_cons (is_page {C = C} f k) (record { file = file; number = n; page = page }) (numbered file (n + 1) pages) in
      let few = most ((file == f) && (n == k)) in
      let same : n ≡ k = s.0 in
      omega (arith, none_before f k file (n + 1) pages (omega arith))
  | inr s ↦ rw (and_right (file == f) (n == k) s.1) (one_numbered f k file (n + 1) pages)
]
  where
    most : (b : Bool) → one_for b ≤ 1
    most true = omega arith
    most false = omega arith

-- none of the pages of another file
other_file : {C : Type 0} (f k file n : ℕ) (pages : List C) → file ≢ f → how_many (is_page f k) (numbered file n pages) ≡ 0
other_file f k file n [] ne = refl
other_file f k file n (page ∷ pages) ne = rw (and_left (file == f) (n == k) (ne_eqb file f ne)) (other_file f k file (n + 1) pages ne)

-- those of the first file, and those of the others
pub how_many_more : {C : Type 0} (t : Page C → Bool) (n : ℕ) (g : File C) (gs : List (File C))
    → how_many t (all_pages n (g ∷ gs)) ≡ how_many t (numbered n 0 g.pages) + how_many t (all_pages (n + 1) gs)
how_many_more t n g gs = ap length (filter-append t (numbered n 0 g.pages) (all_pages (n + 1) gs)) ∙ length-append (filter t (numbered n 0 g.pages)) (filter t (all_pages (n + 1) gs))

-- nor of those of later files
none_later : {C : Type 0} (f k n : ℕ) (fs : List (File C)) → f < n → how_many (is_page f k) (all_pages n fs) ≡ 0
none_later f k n [] lt = refl
none_later {C} f k n (g ∷ gs) lt =
    omega (arith, how_many_more (is_page {C = C} f k) n g gs, other_file f k n 0 g.pages (omega arith), none_later f k (n + 1) gs (omega arith))

-- so of all pages one at most has these numbers
one_at_most : {C : Type 0} (f k n : ℕ) (fs : List (File C)) → how_many (is_page f k) (all_pages n fs) ≤ 1
one_at_most f k n [] = omega arith
one_at_most {C} f k n (g ∷ gs) =
    let a = how_many_more (is_page {C = C} f k) n g gs in
    elim (test n f) [
      | inl s ↦ let same : n ≡ f = s.0 in let first = one_numbered f k n 0 g.pages in let rest = none_later f k (n + 1) gs (omega arith) in omega arith
      | inr s ↦ let first = other_file f k n 0 g.pages s.0 in let ih = one_at_most f k (n + 1) gs in omega arith
    ]

-- a page of the files stands among them once
pub page_once : {C : Type 0} (x : Page C) (fs : List (File C)) → Has x (all_pages 0 fs) → how_many (λ (page : Page C). is_same_page page x) (all_pages 0 fs) ≡ 1
page_once {C} x fs has = omega (arith, one_at_most x.file x.number 0 fs, some_there (λ (page : Page C). is_same_page page x) x (all_pages 0 fs) (same_page x) has)

-- where two are the same page, the same places are theirs
same_any : {C : Type 0} (page x : Page C) (ps : List (Page C)) → is_same_page page x ≡ true → list_any (is_same_page page) ps ≡ list_any (is_same_page x) ps
same_any {C} page x ps e =
    let a = and_parts (page.file == x.file) (page.number == x.number) e in
    let f : page.file ≡ x.file = (let z = a.0 in grind (arith, nat_tests)) in
    let n : page.number ≡ x.number = (let z = a.1 in grind (arith, nat_tests)) in
    ap (λ (i : ℕ). list_any (λ (q : Page C). (i == q.file) && (page.number == q.number)) ps) f
    ∙ ap (λ (i : ℕ). list_any (λ (q : Page C). (x.file == q.file) && (i == q.number)) ps) n

-- a place whose page comes again takes no page out
pub among_again : {C : Type 0} (x : Page C) (ps all : List (Page C)) → list_any (is_same_page x) ps ≡ true → length (pages_among (x ∷ ps) all) ≡ length (pages_among ps all)
among_again {C} x ps all e = how_many_same (λ (page : Page C). list_any (is_same_page page) (x ∷ ps)) (λ (page : Page C). list_any (is_same_page page) ps) all (λ page. by page (is_same_page page x) refl)
  where
    by : (page : Page C) (b : Bool) → is_same_page page x ≡ b → (is_same_page page x || list_any (is_same_page page) ps) ≡ list_any (is_same_page page) ps
    by page true is = (let any : list_any (is_same_page page) ps ≡ true = same_any page x ps is ∙ e in rw any (or_true (is_same_page page x)))
    by page false is = ap (λ (b : Bool). b || list_any (is_same_page page) ps) is

-- and one whose page doesn't takes that out
pub among_last : {C : Type 0} (x : Page C) (ps : List (Page C)) (fs : List (File C)) → Has x (all_pages 0 fs) → list_any (is_same_page x) ps ≡ false → length (pages_among (x ∷ ps) (all_pages 0 fs)) ≡ length (pages_among ps (all_pages 0 fs)) + 1
among_last {C} x ps fs has e =
    let either = how_many_either (λ (page : Page C). is_same_page page x) (λ (page : Page C). list_any (is_same_page page) ps) (all_pages 0 fs) (λ page is. same_any page x ps is ∙ e) in
    omega (arith, page_once x fs has)
