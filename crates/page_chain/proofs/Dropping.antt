-- What becomes of a chain whose files are dropped, all or those that aren't named.
use Rattle.std.proofs.Common.{◌≡◌, ℕ, zero, suc, ◌+◌, ◌<◌, ◌≤◌, ◌⊎◌, inl, inr, Bool, true, false, ◌&&◌, ◌||◌, cond, eqb, nat_lt, None, List, [], ◌∷◌, ◌++◌, length, filter, get_or, refl, sym, ◌∙◌, ap, subst, arith}
use Rattle.std.specs.List.{flat_map}
use Rattle.std.proofs.lemmas.Bool.{cases_lt, cases_Bool, both_ways, eq-eqb, eqb-true, ltb-true, ltb-false, cond-true, cond-false, and_parts, and_cases, and_from, and_right, or_left, or_right}
use Rattle.std.proofs.lemmas.List.{length-append, get_or_past}
use Rattle.page_pool.specs.Page.{Page}
use Rattle.page_nodes.specs.Chains.{Chains, AreOfSize}
use Rattle.page_chain.specs.declared.run.Run.{Run}
use Rattle.page_chain.specs.declared.place.Place.{Place}
use Rattle.page_chain.specs.Files.{File, no_file, file_at, names_of, there, every_page, numbered}
use Rattle.page_chain.specs.Changes.{is_among, numbers_of, kept_from, dropped_from, unnamed_pages, places_of, placed}
use Rattle.page_chain.specs.Held.{Kept, Leads, IsHeld, IsIdle, OnlyRow, CanPrint, no_run, run_at, names_in, turned_in, padded, by_number, file_shown, pages_in, files_from, places_left, shown}
use Rattle.page_chain.specs.Drained.{dropped_in, left_in, runs_kept}
use Rattle.page_chain.proofs.Turning.{there_count, there_sized, sized_front, sized_back}
use Rattle.page_chain.proofs.Seen.{file_of, size_of, seen_by_place, length-files_from, names_shown}
use Rattle.page_chain.proofs.Rows.{row_stays}
use Rattle.page_chain.proofs.Places.{none_left, turned_none}
use Rattle.page_chain.proofs.Draining.{left_kept, left_gone, left_beyond}
use Rattle.page_chain.proofs.Forgetting.{kept_run, length-runs_kept}

-- what is among a filtered list
pub among_filter : (p : ℕ → Bool) (xs : List ℕ) (f : ℕ) → is_among (filter p xs) f ≡ (is_among xs f && p f)
among_filter p [] f = refl
among_filter p (x ∷ xs) f = go (p x) refl (among_filter p xs f)
  where
    same : (b : Bool) → p x ≡ b → eqb x f ≡ true → p f ≡ b
    same b e h = ap p (sym (eqb-true x f h)) ∙ e

    go : (b : Bool) → p x ≡ b → is_among (filter p xs) f ≡ (is_among xs f && p f) → is_among (filter p (x ∷ xs)) f ≡ (is_among (x ∷ xs) f && p f)
    go true e ih =
        ap (λ (b : Bool). is_among (cond b (x ∷ filter p xs) (filter p xs)) f) e
        ∙ elim (cases_Bool (eqb x f)) [
          | inl h ↦ or_left (eqb x f) (is_among (filter p xs) f) h ∙ sym (and_from (is_among (x ∷ xs) f) (p f) (or_left (eqb x f) (is_among xs f) h) (same true e h))
          | inr h ↦ ap (λ (b : Bool). b || is_among (filter p xs) f) h ∙ (ih ∙ ap (λ (b : Bool). (b || is_among xs f) && p f) (sym h))
        ]
    go false e ih =
        ap (λ (b : Bool). is_among (cond b (x ∷ filter p xs) (filter p xs)) f) e
        ∙ (ih ∙ elim (cases_Bool (eqb x f)) [
          | inl h ↦ and_right (is_among xs f) (p f) (same false e h) ∙ sym (and_right (is_among (x ∷ xs) f) (p f) (same false e h))
          | inr h ↦ ap (λ (b : Bool). (b || is_among xs f) && p f) (sym h)
        ])

-- how many pages go, and that they are of one size
pub dropped_count : (nodes : Chains) (row : ℕ) (prints : List ℕ) (turned : ℕ) (kept numbers : List ℕ) (k : ℕ) (runs : List Run)
    → ((i : ℕ) → i < length runs → cond (is_among kept (k + i)) 0 (length (pages_in nodes row (k + i)))
    ≡ length (cond (is_among numbers (k + i)) [] (there (file_shown (pages_in nodes row (k + i)) (turned_in prints turned (k + i)) (run_at runs i)).pages)))
    → dropped_in nodes row kept (k + length runs) ≡ dropped_in nodes row kept k + length (dropped_from k numbers (files_from nodes row prints turned k runs))
dropped_count nodes row prints turned kept numbers k [] h =
    let none : k + 0 ≡ k = omega arith in
    let less : dropped_in nodes row kept k ≡ dropped_in nodes row kept k + 0 = omega arith in
    ap (dropped_in nodes row kept) none ∙ less
dropped_count nodes row prints turned kept numbers k (run ∷ runs) h =
    let next : k + suc (length runs) ≡ suc k + length runs = omega arith in
    let first : k + 0 ≡ k = omega arith in
    let pages : ℕ → List Page = λ i. cond (is_among numbers i) [] (there (file_shown (pages_in nodes row i) (turned_in prints turned i) run).pages) in
    let counted : ℕ → ℕ = λ i. cond (is_among kept i) 0 (length (pages_in nodes row i)) in
    let here : counted k ≡ length (pages k) = ap counted (sym first) ∙ (h 0 (omega arith) ∙ ap (λ (i : ℕ). length (pages i)) first) in
    let rest = dropped_from (suc k) numbers (files_from nodes row prints turned (suc k) runs) in
    let ih = dropped_count nodes row prints turned kept numbers (suc k) runs
    (λ i lt. let shift : k + suc i ≡ suc k + i = omega arith in
    subst (λ (j : ℕ). cond (is_among kept j) 0 (length (pages_in nodes row j))
    ≡ length (cond (is_among numbers j) [] (there (file_shown (pages_in nodes row j) (turned_in prints turned j) (run_at runs i)).pages))) shift (h (suc i) (omega (arith, lt)))) in
    let l = length-append (pages k) rest in
    let e = ap (dropped_in nodes row kept) next in
    omega (arith, ih, l, e, here)

pub dropped_sized : (size : ℕ) (nodes : Chains) (row : ℕ) (prints : List ℕ) (turned : ℕ) (numbers : List ℕ) (k : ℕ) (runs : List Run) (i : ℕ)
    → AreOfSize size (dropped_from k numbers (files_from nodes row prints turned k runs)) → i < length runs → is_among numbers (k + i) ≡ false
    → AreOfSize size (there (file_shown (pages_in nodes row (k + i)) (turned_in prints turned (k + i)) (run_at runs i)).pages)
dropped_sized size nodes row prints turned numbers k [] i h lt e = absurd (omega arith)
dropped_sized size nodes row prints turned numbers k (run ∷ runs) zero h lt e =
    let first : k + 0 ≡ k = omega arith in
    let all = there (file_shown (pages_in nodes row k) (turned_in prints turned k) run).pages in
    let none = ap (is_among numbers) (sym first) ∙ e in
    let front = sized_front size (cond (is_among numbers k) [] all) (dropped_from (suc k) numbers (files_from nodes row prints turned (suc k) runs)) h in
    subst (λ (j : ℕ). AreOfSize size (there (file_shown (pages_in nodes row j) (turned_in prints turned j) run).pages)) (sym first)
    (subst (AreOfSize size) (cond-false (is_among numbers k) [] all none) front)
dropped_sized size nodes row prints turned numbers k (run ∷ runs) (suc i) h lt e =
    let shift : suc k + i ≡ k + suc i = omega arith in
    let all = there (file_shown (pages_in nodes row k) (turned_in prints turned k) run).pages in
    let back = sized_back size (cond (is_among numbers k) [] all) (dropped_from (suc k) numbers (files_from nodes row prints turned (suc k) runs)) h in
    subst (λ (j : ℕ). AreOfSize size (there (file_shown (pages_in nodes row j) (turned_in prints turned j) (run_at runs i)).pages)) shift
    (dropped_sized size nodes row prints turned numbers (suc k) runs i back (omega (arith, lt)) (ap (is_among numbers) shift ∙ e))

pub every_dropped : (k : ℕ) (files : List File) → every_page files ≡ dropped_from k [] files
every_dropped k [] = refl
every_dropped k (file ∷ files) = ap (λ (ps : List Page). there file.pages ++ ps) (every_dropped (suc k) files)

-- all files go
pub all_count : (c : Kept) (nodes : Chains) → IsHeld c nodes → dropped_in nodes c.row [] (length c.files) ≡ length (every_page (shown c nodes).files)
all_count c nodes h =
    let n = dropped_count nodes c.row c.prints c.turned [] [] 0 c.files
    (λ i lt. sym (there_count (run_at c.files i).pages (turned_in c.prints c.turned (0 + i)) (pages_in nodes c.row (0 + i))
    (let same : 0 + i ≡ i = omega arith in let fits = h.fits i lt in let e = ap (λ (j : ℕ). length (pages_in nodes c.row j)) same in omega (arith, fits, e)))) in
    let e = ap length (every_dropped 0 (shown c nodes).files) in
    let z : 0 + length c.files ≡ length c.files = omega arith in
    let m = ap (dropped_in nodes c.row []) z in
    omega (arith, n, e, m)

pub all_sized : (size : ℕ) (c : Kept) (nodes : Chains) (i : ℕ) → IsHeld c nodes → AreOfSize size (every_page (shown c nodes).files) → i < length c.files → AreOfSize size (pages_in nodes c.row i)
all_sized size c nodes i h s lt =
    let same : 0 + i ≡ i = omega arith in
    let a = dropped_sized size nodes c.row c.prints c.turned [] 0 c.files i (subst (AreOfSize size) (every_dropped 0 (shown c nodes).files) s) lt refl in
    let b = subst (λ (j : ℕ). AreOfSize size (there (file_shown (pages_in nodes c.row j) (turned_in c.prints c.turned j) (run_at c.files i)).pages)) same a in
    there_sized size (run_at c.files i).pages (turned_in c.prints c.turned i) (pages_in nodes c.row i) (h.fits i lt) b

-- a file has a page
abbrev pub has_page : List Run → ℕ → Bool
has_page files i = nat_lt 0 (run_at files i).pages

-- the files that are printed can be
pub printable : (files : List Run) (kept prints : List ℕ) → ((i : ℕ) → is_among prints i ≡ true → (is_among kept i ≡ true) × (0 < (run_at files i).pages))
    → CanPrint (runs_kept 0 kept files) prints 0
printable files kept [] h = tt
printable files kept (i ∷ prints) h =
    let here = h i (or_left (eqb i i) (is_among prints i) (eq-eqb i i refl)) in
    let lt : i < length files = (elim (cases_lt i (length files)) [
      | inl lt ↦ lt
      | inr le ↦ absurd (let none = ap (λ (r : Run). r.pages) (get_or_past files i no_run le) in let p = here.1 in omega (arith, none, p))
    ]) in
    let l = length-runs_kept 0 kept files in
    let pages = ap (λ (r : Run). r.pages) (kept_run kept files i lt ∙ cond-true (is_among kept i) (run_at files i) (record (run_at files i) { pages = 0 }) here.0) in
    let some = here.1 in
    (omega (arith, l, lt), omega (arith, pages, some), printable files kept prints (λ j e. h j (or_right (eqb i j) (is_among prints j) e)))

-- files without a page have no place
places_filtered : (size has : ℕ → ℕ) (p : ℕ → Bool) (numbers : List ℕ) → ((i : ℕ) → is_among numbers i ≡ true → p i ≡ true → has i ≡ size i) → ((i : ℕ) → p i ≡ false → size i ≡ 0)
    → flat_map (λ (i : ℕ). numbered i 0 (has i)) (filter p numbers) ≡ flat_map (λ (i : ℕ). numbered i 0 (size i)) numbers
places_filtered size has p [] h none = refl
places_filtered size has p (x ∷ numbers) h none =
    let rest = flat_map (λ (i : ℕ). numbered i 0 (size i)) numbers in
    let ih = places_filtered size has p numbers (λ i e. h i (or_right (eqb x i) (is_among numbers i) e)) none in
    elim (cases_Bool (p x)) [
      | inl e ↦
          ap (λ (b : Bool). flat_map (λ (i : ℕ). numbered i 0 (has i)) (cond b (x ∷ filter p numbers) (filter p numbers))) e
          ∙ (ap (λ (ps : List Place). numbered x 0 (has x) ++ ps) ih
          ∙ ap (λ (m : ℕ). numbered x 0 m ++ rest) (h x (or_left (eqb x x) (is_among numbers x) (eq-eqb x x refl)) e))
      | inr e ↦
          ap (λ (b : Bool). flat_map (λ (i : ℕ). numbered i 0 (has i)) (cond b (x ∷ filter p numbers) (filter p numbers))) e
          ∙ (ih ∙ ap (λ (m : ℕ). numbered x 0 m ++ rest) (sym (none x e)))
    ]

length-kept_from : (k : ℕ) (numbers : List ℕ) (fs : List File) → length (kept_from k numbers fs) ≡ length fs
length-kept_from k numbers [] = refl
length-kept_from k numbers (f ∷ fs) = ap suc (length-kept_from (suc k) numbers fs)

kept_in : (k : ℕ) (numbers : List ℕ) (fs : List File) (i : ℕ) → i < length fs
    → get_or (kept_from k numbers fs) i no_file ≡ cond (is_among numbers (k + i)) (file_at fs i) (record (file_at fs i) { pages = [] })
kept_in k numbers [] i lt = absurd (omega arith)
kept_in k numbers (f ∷ fs) zero lt = let same : k ≡ k + 0 = omega arith in ap (λ (j : ℕ). cond (is_among numbers j) f (record f { pages = [] })) same
kept_in k numbers (f ∷ fs) (suc i) lt =
    let same : suc k + i ≡ k + suc i = omega arith in
    kept_in (suc k) numbers fs i (omega arith) ∙ ap (λ (j : ℕ). cond (is_among numbers j) (file_at fs i) (record (file_at fs i) { pages = [] })) same

none_sized : (size : ℕ) (pages : List Page) → length pages ≡ 0 → AreOfSize size pages
none_sized size [] e = tt
none_sized size (page ∷ pages) e = absurd (omega arith)

-- what is dropped of a chain of which nothing is printed yet
module _ (c : Kept) (nodes : Chains) (names : List (List ℕ)) (prints : List ℕ) (empty : c.prints ≡ []) (h : IsHeld c nodes)
    (listed : prints ≡ filter (has_page c.files) (numbers_of (names_in c.files) names)) where
  abbrev fs : List File
  fs = (shown c nodes).files

  abbrev numbers : List ℕ
  numbers = numbers_of (names_of fs) names

  are_numbers : prints ≡ filter (has_page c.files) numbers
  are_numbers = listed ∙ ap (λ (ns : List (List ℕ)). filter (has_page c.files) (numbers_of ns names)) (sym (names_shown nodes c.row c.prints c.turned 0 c.files))

  within : (i : ℕ) → 0 < (run_at c.files i).pages → i < length c.files
  within i some = elim (cases_lt i (length c.files)) [
    | inl lt ↦ lt
    | inr le ↦ absurd (let none = ap (λ (r : Run). r.pages) (get_or_past c.files i no_run le) in omega (arith, none, some))
  ]

  pub among : (i : ℕ) → is_among prints i ≡ (is_among numbers i && has_page c.files i)
  among i = ap (λ (ps : List ℕ). is_among ps i) are_numbers ∙ among_filter (has_page c.files) numbers i

  -- a file that isn't printed has no page, or isn't named
  not_printed : (i : ℕ) → is_among prints i ≡ false → ((run_at c.files i).pages ≡ 0) ⊎ (is_among numbers i ≡ false)
  not_printed i e = elim (and_cases (is_among numbers i) (has_page c.files i) (sym (among i) ∙ e)) [
    | inl none ↦ inr none
    | inr none ↦ inl (let z = ltb-false 0 (run_at c.files i).pages none in omega (arith, z))
  ]

  was : (i : ℕ) → i < length c.files → file_at fs i ≡ file_shown (pages_in nodes c.row i) 0 (run_at c.files i)
  was i lt =
      file_of nodes c.row c.prints c.turned c.files i lt
      ∙ ap (λ (ps : List ℕ). file_shown (pages_in nodes c.row i) (turned_in ps c.turned i) (run_at c.files i)) empty

  fits0 : (i : ℕ) → i < length c.files → length (pages_in nodes c.row (0 + i)) ≤ (run_at c.files i).pages
  fits0 i lt = let same : 0 + i ≡ i = omega arith in let e = ap (λ (j : ℕ). length (pages_in nodes c.row j)) same in let fits = h.fits i lt in omega (arith, e, fits)

  pub dropped_all : dropped_in nodes c.row prints (length c.files) ≡ length (unnamed_pages fs names)
  dropped_all =
      let n = dropped_count nodes c.row c.prints c.turned prints numbers 0 c.files
      (λ i lt.
      let same : 0 + i ≡ i = omega arith in
      let pages = there (file_shown (pages_in nodes c.row (0 + i)) (turned_in c.prints c.turned (0 + i)) (run_at c.files i)).pages in
      let count = there_count (run_at c.files i).pages (turned_in c.prints c.turned (0 + i)) (pages_in nodes c.row (0 + i)) (fits0 i lt) in
      elim (cases_Bool (is_among prints (0 + i))) [
        | inl e ↦
            let both = and_parts (is_among numbers (0 + i)) (has_page c.files (0 + i)) (sym (among (0 + i)) ∙ e) in
            cond-true (is_among prints (0 + i)) 0 (length (pages_in nodes c.row (0 + i))) e
            ∙ sym (ap length (cond-true (is_among numbers (0 + i)) [] pages both.0))
        | inr e ↦
            cond-false (is_among prints (0 + i)) 0 (length (pages_in nodes c.row (0 + i))) e
            ∙ elim (cases_Bool (is_among numbers (0 + i))) [
              | inl named ↦
                  let none : length (pages_in nodes c.row (0 + i)) ≡ 0 = elim (not_printed (0 + i) e) [
                    | inl z ↦ let f = fits0 i lt in let r = ap (λ (j : ℕ). (run_at c.files j).pages) same in omega (arith, z, f, r)
                    | inr other ↦ absurd (both_ways (is_among numbers (0 + i)) other named)
                  ] in
                  none ∙ sym (ap length (cond-true (is_among numbers (0 + i)) [] pages named))
              | inr other ↦ sym count ∙ sym (ap length (cond-false (is_among numbers (0 + i)) [] pages other))
            ]
      ]) in
      let z : 0 + length c.files ≡ length c.files = omega arith in
      let m = ap (dropped_in nodes c.row prints) z in
      omega (arith, n, m)

  pub dropped_are : (size i : ℕ) → AreOfSize size (unnamed_pages fs names) → i < length c.files → is_among prints i ≡ false → AreOfSize size (pages_in nodes c.row i)
  dropped_are size i s lt e = elim (not_printed i e) [
    | inl z ↦ none_sized size (pages_in nodes c.row i) (let f = h.fits i lt in omega (arith, z, f))
    | inr other ↦
        let same : 0 + i ≡ i = omega arith in
        let a = dropped_sized size nodes c.row c.prints c.turned numbers 0 c.files i s lt (ap (is_among numbers) same ∙ other) in
        let b = subst (λ (j : ℕ). AreOfSize size (there (file_shown (pages_in nodes c.row j) (turned_in c.prints c.turned j) (run_at c.files i)).pages)) same a in
        there_sized size (run_at c.files i).pages (turned_in c.prints c.turned i) (pages_in nodes c.row i) (h.fits i lt) b
  ]

  pub can_print : CanPrint (runs_kept 0 prints c.files) prints 0
  can_print = printable c.files prints prints
      (λ i e. (e, ltb-true 0 (run_at c.files i).pages (and_parts (is_among numbers i) (has_page c.files i) (sym (among i) ∙ e)).1))

  abbrev runs : List Run
  runs = runs_kept 0 prints c.files

  kept_pages : (i : ℕ) → is_among prints i ≡ true → i < length c.files → (run_at runs i).pages ≡ (run_at c.files i).pages
  kept_pages i e lt = ap (λ (r : Run). r.pages) (kept_run prints c.files i lt ∙ cond-true (is_among prints i) (run_at c.files i) (record (run_at c.files i) { pages = 0 }) e)

  pub places_are : places_left runs prints 0 ≡ places_of fs numbers
  places_are =
      let size : ℕ → ℕ = λ i. length (file_at fs i).pages in
      let is_size = size_of nodes c.row c.prints c.turned c.files in
      ap (λ (ps : List ℕ). flat_map (λ (i : ℕ). numbered i 0 (run_at runs i).pages) ps) are_numbers
      ∙ places_filtered size (λ (i : ℕ). (run_at runs i).pages) (has_page c.files) numbers
      (λ i named has.
      let some = ltb-true 0 (run_at c.files i).pages has in
      let lt : i < length c.files = within i some in
      kept_pages i (among i ∙ and_from (is_among numbers i) (has_page c.files i) named has) lt ∙ sym (is_size i))
      (λ i no. let z = ltb-false 0 (run_at c.files i).pages no in let e = is_size i in omega (arith, z, e))

  -- the files of the row afterwards
  module _ (new : Chains) (left : (i : ℕ) → i < 52 → pages_in new c.row i ≡ left_in nodes c.row prints (length c.files) i) where
    pub files_are : files_from new c.row prints 0 0 runs ≡ kept_from 0 numbers fs
    files_are =
        let l = length-runs_kept 0 prints c.files in
        let n = length-kept_from 0 numbers fs in
        let m = length-files_from nodes c.row c.prints c.turned 0 c.files in
        let few = h.few in
        seen_by_place new c.row prints 0 runs (kept_from 0 numbers fs) (n ∙ (m ∙ sym l))
        (λ i il.
        let lt : i < length c.files = omega (arith, il, l) in
        let lt52 : i < 52 = omega (arith, lt, few) in
        let same : 0 + i ≡ i = omega arith in
        let run = run_at c.files i in
        let f = file_at fs i in
        let is : get_or (kept_from 0 numbers fs) i no_file ≡ cond (is_among numbers i) f (record f { pages = [] }) =
        kept_in 0 numbers fs i (omega (arith, m, lt)) ∙ ap (λ (j : ℕ). cond (is_among numbers j) f (record f { pages = [] })) same in
        let none_turned = ap (λ (r : ℕ). file_shown (pages_in new c.row i) r (run_at runs i)) (turned_none prints i) in
        none_turned ∙ elim (cases_Bool (is_among prints i)) [
          | inl e ↦
              let both = and_parts (is_among numbers i) (has_page c.files i) (sym (among i) ∙ e) in
              ap (λ (ps : List Page). file_shown ps 0 (run_at runs i)) (left i lt52 ∙ left_kept nodes c.row prints (length c.files) i e)
              ∙ (ap (file_shown (pages_in nodes c.row i) 0) (kept_run prints c.files i lt ∙ cond-true (is_among prints i) run (record run { pages = 0 }) e)
              ∙ (sym (was i lt) ∙ sym (is ∙ cond-true (is_among numbers i) f (record f { pages = [] }) both.0)))
          | inr e ↦
              let gone : File = record { name = run.name; pages = [] } in
              let here : file_shown (pages_in new c.row i) 0 (run_at runs i) ≡ gone =
              ap (λ (ps : List Page). file_shown ps 0 (run_at runs i)) (left i lt52 ∙ left_gone nodes c.row prints (length c.files) i lt e)
              ∙ ap (file_shown [] 0) (kept_run prints c.files i lt ∙ cond-false (is_among prints i) run (record run { pages = 0 }) e) in
              here ∙ sym (is ∙ elim (cases_Bool (is_among numbers i)) [
                | inl named ↦
                    let z : run.pages ≡ 0 = elim (not_printed i e) [ inl z ↦ z | inr other ↦ absurd (both_ways (is_among numbers i) other named) ] in
                    cond-true (is_among numbers i) f (record f { pages = [] }) named
                    ∙ (was i lt ∙ ap (λ (k : ℕ). record { name = run.name; pages = by_number 0 (padded k (pages_in nodes c.row i)) }) z)
                | inr other ↦
                    cond-false (is_among numbers i) f (record f { pages = [] }) other
                    ∙ ap (λ (x : File). record x { pages = [] }) (was i lt)
              ])
        ])

    pub leads : OnlyRow nodes new c.row → c.is_open ≡ false
        → Leads c (record c { files = runs; prints = prints; turned = 0; last = None }) nodes new (placed names (shown c nodes))
    leads only closed =
        let l = length-runs_kept 0 prints c.files in
        let few = h.few in
        record {
          shows =
              ap (λ (xs : List File). record { files = xs; is_open = c.is_open; places = places_left runs prints 0; last = None; file_room = c.file_room }) files_are
              ∙ ap (λ (ps : List Place). record { files = kept_from 0 numbers fs; is_open = c.is_open; places = ps; last = None; file_room = c.file_room }) places_are;
          held = record {
            row = row_stays nodes new c.row only c.row h.row;
            few = omega (arith, l, few);
            fits = λ i il.
                let lt : i < length c.files = omega (arith, il, l) in
                let lt52 : i < 52 = omega (arith, lt, few) in
                elim (cases_Bool (is_among prints i)) [
                  | inl e ↦
                      let a = ap length (left i lt52 ∙ left_kept nodes c.row prints (length c.files) i e) in
                      let b = kept_pages i e lt in
                      let fits = h.fits i lt in
                      omega (arith, a, b, fits)
                  | inr e ↦ let a = ap length (left i lt52 ∙ left_gone nodes c.row prints (length c.files) i lt e) in omega (arith, a)
                ];
            whole = λ is_open i e. absurd (both_ways c.is_open closed is_open);
            beyond = λ i le lt. left i lt ∙ (left_beyond nodes c.row prints (length c.files) i (omega (arith, l, le)) ∙ h.beyond i (omega (arith, l, le)) lt);
          };
          only = only;
          row = refl;
        }

-- the same of a chain that is seen from outside, where this was listed of its files
module _ (t now : Kept) (nodes : Chains) (names : List (List ℕ)) (prints : List ℕ) (v : t ≡ now) (p : CanPrint t.files t.prints t.turned) (idle : IsIdle now) (h : IsHeld now nodes)
    (files : List Run) (are : files ≡ t.files) (given : prints ≡ filter (has_page files) (numbers_of (names_in files) names)) where
  none : t.prints ≡ []
  none = none_left t.files t.prints t.turned p (subst (λ (u : Kept). places_left u.files u.prints u.turned ≡ []) (sym v) idle.placed)

  held : IsHeld t nodes
  held = subst (λ (u : Kept). IsHeld u nodes) (sym v) h

  listed : prints ≡ filter (has_page t.files) (numbers_of (names_in t.files) names)
  listed = subst (λ (fs : List Run). prints ≡ filter (has_page fs) (numbers_of (names_in fs) names)) are given

  pub seen_sized : (size i : ℕ) → AreOfSize size (unnamed_pages (shown now nodes).files names) → i < length t.files → is_among prints i ≡ false → AreOfSize size (pages_in nodes t.row i)
  seen_sized size i s = dropped_are t nodes names prints none held listed size i (subst (λ (u : Kept). AreOfSize size (unnamed_pages (shown u nodes).files names)) (sym v) s)

  pub seen_count : (kept : List ℕ) (count : ℕ) → kept ≡ prints → count ≡ length t.files → dropped_in nodes t.row kept count ≡ length (unnamed_pages (shown now nodes).files names)
  seen_count kept count same all =
      ap (λ (ps : List ℕ). dropped_in nodes t.row ps count) same
      ∙ (ap (dropped_in nodes t.row prints) all
      ∙ (dropped_all t nodes names prints none held listed ∙ ap (λ (u : Kept). length (unnamed_pages (shown u nodes).files names)) v))

  pub seen_prints : CanPrint (runs_kept 0 prints t.files) prints 0
  seen_prints = can_print t nodes names prints none held listed

  pub seen_leads : (new : Chains) → ((i : ℕ) → i < 52 → pages_in new t.row i ≡ left_in nodes t.row prints (length t.files) i) → OnlyRow nodes new t.row
      → Leads now (record t { files = runs_kept 0 prints t.files; prints = prints; turned = 0; last = None }) nodes new (placed names (shown now nodes))
  seen_leads new left only =
      subst (λ (u : Kept). Leads u (record t { files = runs_kept 0 prints t.files; prints = prints; turned = 0; last = None }) nodes new (placed names (shown u nodes))) v
      (leads t nodes names prints none held listed new left only (subst (λ (u : Kept). u.is_open ≡ false) (sym v) idle.closed))
