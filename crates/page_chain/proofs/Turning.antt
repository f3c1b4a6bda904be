-- The pages of a file by number, when some of them have turned.
use Rattle.std.proofs.Common.{◌≡◌, ℕ, zero, suc, ◌+◌, ◌-◌, ◌<◌, ◌≤◌, ◌⊎◌, inl, inr, Option, Some, None, List, [], ◌∷◌, ◌++◌, length, take, drop, set, get_or, refl, sym, ◌∙◌, ap, subst, arith}
use Rattle.std.specs.Prelude.{IsSome, slice_get}
use Rattle.std.proofs.lemmas.Bool.{cases_eq, cases_lt}
use Rattle.std.proofs.lemmas.Option.{slice_get_past}
use Rattle.std.proofs.lemmas.List.{append-nil, length-append, length-drop, length-take-le, length-set, length_push, get_or_append_left, get_or-append_right, get_or-drop, get_or-take, get_or-set_same, get_or-set_other, take_all, drop_all, take-append-drop, ext_get_or}
use Rattle.page_pool.specs.Page.{Page}
use Rattle.page_nodes.specs.Chains.{AreOfSize}
use Rattle.page_chain.specs.Files.{there}
use Rattle.page_chain.specs.Held.{padded, by_number}

pub length-padded : (n : ℕ) (pages : List Page) → length (padded n pages) ≡ n
length-padded zero pages = refl
length-padded (suc n) [] = ap suc (length-padded n [])
length-padded (suc n) (page ∷ pages) = ap suc (length-padded n pages)

padded_at : (n k : ℕ) (pages : List Page) → k < n → get_or (padded n pages) k None ≡ slice_get pages k
padded_at zero k pages lt = absurd (omega arith)
padded_at (suc n) zero [] lt = refl
padded_at (suc n) (suc k) [] lt = padded_at n k [] (omega arith)
padded_at (suc n) zero (page ∷ pages) lt = refl
padded_at (suc n) (suc k) (page ∷ pages) lt = padded_at n k pages (omega arith)

length-drop_rest : (r : ℕ) (ps : List (Option Page)) → r ≤ length ps → length (drop (length ps - r) ps) ≡ r
length-drop_rest r ps le = let d = length-drop (length ps - r) ps in omega (arith, d, le)

length-by_number : (r : ℕ) (ps : List (Option Page)) → length (by_number r ps) ≡ length ps
length-by_number r ps =
    let m = length ps - r in
    let d = length-drop m ps in
    let t = length-take-le m ps (omega arith) in
    let a = length-append (drop m ps) (take m ps) in
    omega (arith, d, t, a)

pub length-turned : (n r : ℕ) (pages : List Page) → length (by_number r (padded n pages)) ≡ n
length-turned n r pages = length-by_number r (padded n pages) ∙ length-padded n pages

-- where the page of a number stands
record At (n r j : ℕ) : Type 0 where
  pub spot : ℕ
  pub within : spot < n
  pub reads : (pages : List Page) → get_or (by_number r (padded n pages)) j None ≡ slice_get pages spot

at_front : (n r j : ℕ) → r ≤ n → j < r → At n r j
at_front n r j le lt = record {
  spot = n - r + j;
  within = omega arith;
  reads = λ pages.
      let ps = padded n pages in
      let m = length ps - r in
      let l = length-padded n pages in
      let d = length-drop_rest r ps (omega (arith, l)) in
      let spot : m + j ≡ n - r + j = omega (arith, l) in
      get_or_append_left (drop m ps) (take m ps) None j (omega (arith, d, lt))
      ∙ (get_or-drop m ps j None ∙ (ap (λ (k : ℕ). get_or ps k None) spot ∙ padded_at n (n - r + j) pages (omega arith)));
}

at_back : (n r j : ℕ) → r ≤ j → j < n → At n r j
at_back n r j le lt = record {
  spot = j - r;
  within = omega arith;
  reads = λ pages.
      let ps = padded n pages in
      let m = length ps - r in
      let l = length-padded n pages in
      let d = length-drop_rest r ps (omega (arith, l)) in
      get_or-append_right (drop m ps) (take m ps) r j None d le
      ∙ (get_or-take m ps (j - r) None (omega (arith, l, le, lt)) ∙ padded_at n (j - r) pages (omega (arith, lt)));
}

at : (n r j : ℕ) → r ≤ n → j < n → At n r j
at n r j le lt = elim (cases_lt j r) [ inl front ↦ at_front n r j le front | inr back ↦ at_back n r j back lt ]

-- which number the page at a spot has
numbered_at : (n r k : ℕ) → r ≤ n → k < n → (j : ℕ) × (j < n) × ((pages : List Page) → get_or (by_number r (padded n pages)) j None ≡ slice_get pages k)
unfolding at_back at_front
numbered_at n r k le lt = elim (cases_lt k (n - r)) [
  | inl front ↦
      let a = at_back n r (k + r) (omega arith) (omega arith) in
      (k + r, omega arith, λ pages. a.reads pages ∙ ap (slice_get pages) (let same : (k + r) - r ≡ k = omega arith in same))
  | inr back ↦
      let a = at_front n r (k - (n - r)) le (omega (arith, lt, le, back)) in
      (k - (n - r), omega arith, λ pages. a.reads pages ∙ ap (slice_get pages) (let same : (n - r) + (k - (n - r)) ≡ k = omega (arith, back) in same))
]

by_zero : (ps : List (Option Page)) → by_number 0 ps ≡ ps
by_zero ps =
    let all : length ps - 0 ≡ length ps = omega arith in
    ap (λ (m : ℕ). drop m ps ++ take m ps) all
    ∙ (ap (λ (xs : List (Option Page)). xs ++ take (length ps) ps) (drop_all (length ps) ps (omega arith))
    ∙ take_all (length ps) ps (omega arith))

-- a whole pass leaves the pages in their order
pub turned_whole : (n : ℕ) (pages : List Page) → by_number n (padded n pages) ≡ by_number 0 (padded n pages)
turned_whole n pages =
    let ps = padded n pages in
    let l = length-padded n pages in
    let none : length ps - n ≡ 0 = omega (arith, l) in
    ap (λ (m : ℕ). drop m ps ++ take m ps) none ∙ (append-nil ps ∙ sym (by_zero ps))

-- the page at the front is the one whose number is the count of those that have turned
pub front_is : (n r : ℕ) (page : Page) (rest : List Page) → r < n → get_or (by_number r (padded n (page ∷ rest))) r None ≡ Some page
unfolding at_back
front_is n r page rest lt =
    let a = at_back n r r (omega arith) lt in
    a.reads (page ∷ rest) ∙ ap (slice_get (page ∷ rest)) (let same : r - r ≡ 0 = omega arith in same)

pub not_both : (o : Option Page) → o ≡ None → IsSome o → ⊥
not_both None e h = absurd cc
not_both (Some x) e h = absurd cc

pub front_some : (n r : ℕ) (pages : List Page) → r < n → IsSome (get_or (by_number r (padded n pages)) r None) → 0 < length pages
front_some n r [] lt h =
    let a = at_back n r r (omega arith) lt in
    absurd (not_both (get_or (by_number r (padded n [])) r None) (a.reads []) h)
front_some n r (page ∷ pages) lt h = omega arith

-- the front is taken
pub turned_take : (n r : ℕ) (page : Page) (rest : List Page) → r < n → length rest < n
    → by_number (suc r) (padded n rest) ≡ set (by_number r (padded n (page ∷ rest))) r None
unfolding at_front at_back
turned_take n r page rest lt short =
    let old = by_number r (padded n (page ∷ rest)) in
    let new = by_number (suc r) (padded n rest) in
    let ol = length-turned n r (page ∷ rest) in
    let nl = length-turned n (suc r) rest in
    ext_get_or None new (set old r None) (nl ∙ (sym ol ∙ sym (length-set old r None)))
    (λ j jl.
    let within : j < n = omega (arith, nl, jl) in
    elim (cases_lt j r) [
      | inl front ↦
          (at_front n (suc r) j (omega arith) (omega arith)).reads rest
          ∙ (ap (slice_get (page ∷ rest)) (let same : suc (n - suc r + j) ≡ n - r + j = omega (arith, lt) in same)
          ∙ (sym ((at_front n r j (omega arith) front).reads (page ∷ rest)) ∙ sym (get_or-set_other old r j None None (λ e. omega (arith, e, front)))))
      | inr le ↦ elim (cases_eq j r) [
        | inl e ↦
            (at_front n (suc r) j (omega arith) (omega (arith, e))).reads rest
            ∙ (slice_get_past rest (n - suc r + j) (omega (arith, e, lt, short))
            ∙ sym (ap (λ (k : ℕ). get_or (set old r None) k None) e ∙ get_or-set_same old r None None (omega (arith, ol, lt))))
        | inr ne ↦
            (at_back n (suc r) j (omega (arith, le, ne)) within).reads rest
            ∙ (ap (slice_get (page ∷ rest)) (let same : suc (j - suc r) ≡ j - r = omega (arith, le, ne) in same)
            ∙ (sym ((at_back n r j le within).reads (page ∷ rest)) ∙ sym (get_or-set_other old r j None None ne)))
      ]
    ])

slice_front : (xs ys : List Page) (k : ℕ) → k < length xs → slice_get (xs ++ ys) k ≡ slice_get xs k
slice_front [] ys k lt = absurd (omega arith)
slice_front (x ∷ xs) ys zero lt = refl
slice_front (x ∷ xs) ys (suc k) lt = slice_front xs ys k (omega arith)

slice_push : (xs : List Page) (y : Page) → slice_get (xs ++ y ∷ []) (length xs) ≡ Some y
slice_push [] y = refl
slice_push (x ∷ xs) y = slice_push xs y

none_past : (xs : List Page) (k : ℕ) → slice_get xs k ≡ None → length xs ≤ k
none_past [] k e = omega arith
none_past (x ∷ xs) zero e = absurd cc
none_past (x ∷ xs) (suc k) e = let ih = none_past xs k e in omega (arith, ih)

some_within : (xs : List Page) (k : ℕ) → IsSome (slice_get xs k) → k < length xs
some_within [] k h = absurd cc
some_within (x ∷ xs) zero h = omega arith
some_within (x ∷ xs) (suc k) h = let ih = some_within xs k h in omega (arith, ih)

-- the only page that isn't there stands behind all others
gap_is_last : (n r j : ℕ) (pages : List Page) (page : Page) → (a : At n r j) → r ≤ n → get_or (by_number r (padded n pages)) j None ≡ None
    → ((m : ℕ) → m < n → (m ≡ j → ⊥) → IsSome (get_or (by_number r (padded n pages)) m None)) → a.spot ≡ length pages
gap_is_last n r j pages page a le out others =
    let past = none_past pages a.spot (sym (a.reads pages) ∙ out) in
    elim (cases_lt (length pages) a.spot) [
      | inl lt ↦
          let next = numbered_at n r (length pages) le (let w = a.within in omega (arith, w, lt)) in
          let longer = pages ++ page ∷ [] in
          let other : next.0 ≡ j → ⊥ = λ e.
          let some = sym (slice_push pages page) ∙ (sym (next.2 longer) ∙ (ap (λ (k : ℕ). get_or (by_number r (padded n longer)) k None) e ∙ a.reads longer)) in
          let none = slice_get_past longer a.spot (let l = length_push pages page in omega (arith, l, lt)) in
          not_some page (sym none ∙ sym some) in
          absurd (let w = some_within pages (length pages) (subst (λ (o : Option Page). IsSome o) (next.2 pages) (others next.0 next.1 other)) in omega (arith, w))
      | inr ge ↦ omega (arith, past, ge)
    ]
  where
    not_some : (p : Page) → ◌≡◌ {A = Option Page} None (Some p) → ⊥
    not_some p e = absurd cc

-- a file with a gap has room for a page
pub gap_short : (n r j : ℕ) (pages : List Page) (page : Page) → r ≤ n → j < n → get_or (by_number r (padded n pages)) j None ≡ None
    → ((m : ℕ) → m < n → (m ≡ j → ⊥) → IsSome (get_or (by_number r (padded n pages)) m None)) → length pages < n
gap_short n r j pages page le lt out others =
    let a = at n r j le lt in
    let last = gap_is_last n r j pages page a le out others in
    let w = a.within in omega (arith, last, w)

-- then it has one page less than it was given
pub gap_counts : (n r j : ℕ) (pages : List Page) (page : Page) → r ≤ n → j < n → get_or (by_number r (padded n pages)) j None ≡ None
    → ((m : ℕ) → m < n → (m ≡ j → ⊥) → IsSome (get_or (by_number r (padded n pages)) m None)) → suc (length pages) ≡ n
gap_counts n r j pages page le lt out others =
    let a = at n r j le lt in
    let last = gap_is_last n r j pages page a le out others in
    let short = gap_short n r j pages page le lt out others in
    elim (cases_lt (suc (length pages)) n) [
      | inl more ↦
          let next = numbered_at n r (suc (length pages)) le more in
          let longer = pages ++ page ∷ [] in
          let other : next.0 ≡ j → ⊥ = λ e.
          let some = sym (slice_push pages page) ∙ (sym (ap (slice_get longer) last) ∙ (sym (a.reads longer) ∙ (sym (ap (λ (k : ℕ). get_or (by_number r (padded n longer)) k None) e) ∙ next.2 longer))) in
          not_some page (sym (slice_get_past longer (suc (length pages)) (let l = length_push pages page in omega (arith, l))) ∙ sym some) in
          absurd (not_both (get_or (by_number r (padded n pages)) next.0 None) (next.2 pages ∙ slice_get_past pages (suc (length pages)) (omega arith)) (others next.0 next.1 other))
      | inr all ↦ omega (arith, short, all)
    ]
  where
    not_some : (p : Page) → ◌≡◌ {A = Option Page} None (Some p) → ⊥
    not_some p e = absurd cc

slice_some : (xs : List Page) (k : ℕ) → k < length xs → IsSome (slice_get xs k)
slice_some [] k lt = absurd (omega arith)
slice_some (x ∷ xs) zero lt = refl
slice_some (x ∷ xs) (suc k) lt = slice_some xs k (omega arith)

-- a file with one page less than it was given misses the page that turned last
pub last_is_gap : (n r number : ℕ) (pages : List Page) → (r ≡ suc number) ⊎ ((r ≡ 0) × (suc number ≡ n)) → r ≤ n → number < n → suc (length pages) ≡ n
    → (get_or (by_number r (padded n pages)) number None ≡ None)
    × ((m : ℕ) → m < n → (m ≡ number → ⊥) → IsSome (get_or (by_number r (padded n pages)) m None))
unfolding at_front at_back
last_is_gap n r number pages (inl e) le lt l = (
  (at_front n r number le (omega (arith, e))).reads pages ∙ slice_get_past pages (n - r + number) (omega (arith, e, l, le)),
  λ m ml ne. elim (cases_lt m r) [
    | inl front ↦ subst (λ (o : Option Page). IsSome o) (sym ((at_front n r m le front).reads pages)) (slice_some pages (n - r + m) (omega (arith, e, l, le, front, ne)))
    | inr back ↦ subst (λ (o : Option Page). IsSome o) (sym ((at_back n r m back ml).reads pages)) (slice_some pages (m - r) (omega (arith, e, l, le, back, ml)))
  ],
)
last_is_gap n r number pages (inr e) le lt l =
    let z = e.0 in
    let all = e.1 in (
      (at_back n r number (omega (arith, z)) lt).reads pages ∙ slice_get_past pages (number - r) (omega (arith, z, all, l)),
      λ m ml ne. subst (λ (o : Option Page). IsSome o) (sym ((at_back n r m (omega (arith, z)) ml).reads pages)) (slice_some pages (m - r) (omega (arith, z, all, l, ml, ne))),
    )

-- a page that comes back goes to the end
pub turned_back : (n r j : ℕ) (pages : List Page) (page : Page) → r ≤ n → j < n → get_or (by_number r (padded n pages)) j None ≡ None
    → ((m : ℕ) → m < n → (m ≡ j → ⊥) → IsSome (get_or (by_number r (padded n pages)) m None))
    → by_number r (padded n (pages ++ page ∷ [])) ≡ set (by_number r (padded n pages)) j (Some page)
turned_back n r j pages page le lt out others =
    let old = by_number r (padded n pages) in
    let longer = pages ++ page ∷ [] in
    let new = by_number r (padded n longer) in
    let ol = length-turned n r pages in
    let nl = length-turned n r longer in
    ext_get_or None new (set old j (Some page)) (nl ∙ (sym ol ∙ sym (length-set old j (Some page))))
    (λ m ml.
    let within : m < n = omega (arith, nl, ml) in
    let a = at n r m le within in
    elim (cases_eq m j) [
      | inl e ↦
          let b = at n r j le lt in
          let last = gap_is_last n r j pages page b le out others in
          ap (λ (k : ℕ). get_or new k None) e
          ∙ (b.reads longer ∙ (ap (slice_get longer) last ∙ (slice_push pages page
          ∙ sym (ap (λ (k : ℕ). get_or (set old j (Some page)) k None) e ∙ get_or-set_same old j (Some page) None (omega (arith, ol, lt))))))
      | inr ne ↦
          let some = some_within pages a.spot (subst (λ (o : Option Page). IsSome o) (a.reads pages) (others m within ne)) in
          a.reads longer
          ∙ (slice_front pages (page ∷ []) a.spot some ∙ (sym (a.reads pages) ∙ sym (get_or-set_other old j m (Some page) None ne)))
    ])

padded_push : (n : ℕ) (pages : List Page) (page : Page) → length pages ≡ n → padded (suc n) (pages ++ page ∷ []) ≡ padded n pages ++ Some page ∷ []
padded_push zero [] page e = refl
padded_push zero (x ∷ xs) page e = absurd (omega arith)
padded_push (suc n) [] page e = absurd (omega arith)
padded_push (suc n) (x ∷ xs) page e = ap (λ (ps : List (Option Page)). Some x ∷ ps) (padded_push n xs page (omega arith))

-- a file that has all its pages gets one more
pub turned_push : (n m : ℕ) (pages : List Page) (page : Page) → length pages ≡ n → m ≡ suc n → by_number 0 (padded m (pages ++ page ∷ [])) ≡ by_number 0 (padded n pages) ++ Some page ∷ []
turned_push n m pages page e f =
    ap (λ (k : ℕ). by_number 0 (padded k (pages ++ page ∷ []))) f
    ∙ (by_zero (padded (suc n) (pages ++ page ∷ [])) ∙ (padded_push n pages page e ∙ ap (λ (ps : List (Option Page)). ps ++ Some page ∷ []) (sym (by_zero (padded n pages)))))

-- the pages that are there
pub there-append : (a b : List (Option Page)) → there (a ++ b) ≡ there a ++ there b
there-append [] b = refl
there-append (None ∷ a) b = there-append a b
there-append (Some page ∷ a) b = ap (λ (ps : List Page). page ∷ ps) (there-append a b)

there_padded : (n : ℕ) (pages : List Page) → length pages ≤ n → there (padded n pages) ≡ pages
there_padded zero [] le = refl
there_padded zero (x ∷ xs) le = absurd (omega arith)
there_padded (suc n) [] le = there_padded n [] (omega arith)
there_padded (suc n) (x ∷ xs) le = ap (λ (ps : List Page). x ∷ ps) (there_padded n xs (omega arith))

pub sized_both : (size : ℕ) (a b : List Page) → AreOfSize size a → AreOfSize size b → AreOfSize size (a ++ b)
sized_both size [] b h i = i
sized_both size (p ∷ a) b h i = (h.0, sized_both size a b h.1 i)

pub sized_front : (size : ℕ) (a b : List Page) → AreOfSize size (a ++ b) → AreOfSize size a
sized_front size [] b h = tt
sized_front size (p ∷ a) b h = (h.0, sized_front size a b h.1)

pub sized_back : (size : ℕ) (a b : List Page) → AreOfSize size (a ++ b) → AreOfSize size b
sized_back size [] b h = h
sized_back size (p ∷ a) b h = sized_back size a b h.1

pub there_count : (n r : ℕ) (pages : List Page) → length pages ≤ n → length (there (by_number r (padded n pages))) ≡ length pages
there_count n r pages le =
    let ps = padded n pages in
    let m = length ps - r in
    let a = ap length (there-append (drop m ps) (take m ps)) in
    let b = length-append (there (drop m ps)) (there (take m ps)) in
    let c = ap length (sym (there-append (take m ps) (drop m ps)) ∙ (ap there (take-append-drop m ps) ∙ there_padded n pages le)) in
    let d = length-append (there (take m ps)) (there (drop m ps)) in
    omega (arith, a, b, c, d)

pub there_sized : (size n r : ℕ) (pages : List Page) → length pages ≤ n → AreOfSize size (there (by_number r (padded n pages))) → AreOfSize size pages
there_sized size n r pages le h =
    let ps = padded n pages in
    let m = length ps - r in
    let turned = subst (AreOfSize size) (there-append (drop m ps) (take m ps)) h in
    let swapped = sized_both size (there (take m ps)) (there (drop m ps)) (sized_back size (there (drop m ps)) (there (take m ps)) turned) (sized_front size (there (drop m ps)) (there (take m ps)) turned) in
    subst (AreOfSize size) (sym (there-append (take m ps) (drop m ps)) ∙ (ap there (take-append-drop m ps) ∙ there_padded n pages le)) swapped
