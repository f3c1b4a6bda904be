-- The pages of a chain among those of all chains: how many they are, and of which size.
use Rattle.std.proofs.Common.{◌≡◌, ℕ, zero, suc, ◌+◌, ◌*◌, ◌<◌, ◌≤◌, Bool, true, false, cond, Some, List, [], ◌∷◌, ◌++◌, length, take, drop, get_or, replicate, refl, sym, ap, subst, arith}
use Rattle.std.proofs.lemmas.List.{length-append, length-replicate, get_or-replicate, take_more, take-append-drop}
use Rattle.std.proofs.lemmas.List.Sorted.{length_permutation}
use Rattle.page_pool.specs.Page.{Page}
use Rattle.page_nodes.specs.Chains.{Chains, AreOfSize, total}
use Rattle.page_chain.specs.Files.{File, every_page, names_of, there}
use Rattle.page_chain.specs.Changes.{dropped_from, is_among, kept_from, numbers_of, unnamed_pages, with_page}
use Rattle.page_chain.specs.Drained.{dropped_in}
use Rattle.page_chain.specs.Held.{IsFreeRow}
use Rattle.page_chain.specs.Laws.{AreCounted, ReturnsOfThese}
use Rattle.page_chain.proofs.Turning.{sized_both, sized_front, sized_back, there-append}
use Rattle.page_chain.proofs.Dropping.{all_count}
use Rattle.page_chain.proofs.Returning.{stays_or_returns}

total-append : (xs ys : List (List Page)) → total (xs ++ ys) ≡ total xs + total ys
total-append [] ys = omega arith
total-append (x ∷ xs) ys = let ih = total-append xs ys in omega (arith, ih)

total_take_more : (xs : List (List Page)) (k : ℕ) → k < length xs → total (take (k + 1) xs) ≡ total (take k xs) + length (get_or xs k [])
total_take_more xs k lt =
    let a = ap total (take_more xs k [] lt) in
    let b = total-append (take k xs) (get_or xs k [] ∷ []) in
    omega (arith, a, b)

-- the first files of a row have no more pages than all chains up to there
row_counted : (n : Chains) (row m : ℕ) → 52 * row + m ≤ length n.chains → dropped_in n row [] m ≤ total (take (52 * row + m) n.chains)
row_counted n row zero le = omega arith
row_counted n row (suc m) le =
    let ih = row_counted n row m (omega (arith, le)) in
    let more = total_take_more n.chains (52 * row + m) (omega (arith, le)) in
    let next : 52 * row + suc m ≡ (52 * row + m) + 1 = omega arith in
    let e = ap (λ (k : ℕ). total (take k n.chains)) next in
    omega (arith, ih, more, e)

pub are_counted : AreCounted
are_counted c nodes h =
    let few = h.few in
    let row = h.row in
    let k = 52 * c.row + length c.files in
    let a = row_counted nodes c.row (length c.files) (omega (arith, few, row)) in
    let b = all_count c nodes h in
    let s = total-append (take k nodes.chains) (drop k nodes.chains) in
    let t = ap total (take-append-drop k nodes.chains) in
    omega (arith, a, b, s, t)

dropped_of_these : (size k : ℕ) (numbers : List ℕ) (files : List File) → AreOfSize size (every_page files) → AreOfSize size (dropped_from k numbers files)
dropped_of_these size k numbers [] h = tt
dropped_of_these size k numbers (file ∷ files) h =
    let a = there file.pages in
    let rest = dropped_of_these size (suc k) numbers files (sized_back size a (every_page files) h) in
    sized_both size (cond (is_among numbers k) [] a) (dropped_from (suc k) numbers files) (both (is_among numbers k) (sized_front size a (every_page files) h)) rest
  where
    both : (b : Bool) → AreOfSize size (there file.pages) → AreOfSize size (cond b [] (there file.pages))
    both true s = tt
    both false s = s

pub returns_of_these : ReturnsOfThese
returns_of_these files names =
    let kept = every_page (kept_from 0 (numbers_of (names_of files) names) files) in
    let gone = unnamed_pages files names in
    let n = length_permutation (every_page files) (kept ++ gone) (stays_or_returns files names) in
    let l = length-append kept gone in
    (omega (arith, n, l), λ size h. dropped_of_these size 0 (numbers_of (names_of files) names) files h)

-- one page more, and one file more

pub page_of_size : (size : ℕ) (files : List File) (page : Page) → AreOfSize size (every_page files) → page.page_size ≡ size → AreOfSize size (every_page (with_page files page))
page_of_size size [] page h e = tt
page_of_size size (file ∷ []) page h e =
    let a = there file.pages in
    subst (λ (ps : List Page). AreOfSize size (ps ++ [])) (sym (there-append file.pages (Some page ∷ [])))
    (sized_both size (a ++ page ∷ []) [] (sized_both size a (page ∷ []) (sized_front size a [] h) (e, tt)) tt)
page_of_size size (file ∷ next ∷ files) page h e =
    let a = there file.pages in
    sized_both size a (every_page (with_page (next ∷ files) page)) (sized_front size a (every_page (next ∷ files)) h)
    (page_of_size size (next ∷ files) page (sized_back size a (every_page (next ∷ files)) h) e)

pub file_of_size : (size : ℕ) (files : List File) (name : List ℕ) → AreOfSize size (every_page files) → AreOfSize size (every_page (files ++ record { name = name; pages = [] } ∷ []))
file_of_size size [] name h = tt
file_of_size size (file ∷ files) name h =
    let a = there file.pages in
    sized_both size a (every_page (files ++ record { name = name; pages = [] } ∷ [])) (sized_front size a (every_page files) h)
    (file_of_size size files name (sized_back size a (every_page files) h))

kept_files_of_size : (size k : ℕ) (numbers : List ℕ) (files : List File) → AreOfSize size (every_page files) → AreOfSize size (every_page (kept_from k numbers files))
kept_files_of_size size k numbers [] h = tt
kept_files_of_size size k numbers (file ∷ files) h =
    let a = there file.pages in
    sized_both size (there (cond (is_among numbers k) file (record file { pages = [] })).pages) (every_page (kept_from (suc k) numbers files))
    (both (is_among numbers k) (sized_front size a (every_page files) h))
    (kept_files_of_size size (suc k) numbers files (sized_back size a (every_page files) h))
  where
    both : (b : Bool) → AreOfSize size (there file.pages) → AreOfSize size (there (cond b file (record file { pages = [] })).pages)
    both true s = s
    both false s = tt

pub named_of_size : (size : ℕ) (files : List File) (names : List (List ℕ)) → AreOfSize size (every_page files) → AreOfSize size (every_page (kept_from 0 (numbers_of (names_of files) names) files))
named_of_size size files names = kept_files_of_size size 0 (numbers_of (names_of files) names) files

-- new nodes have no page in any row
pub new_row : (rows room row : ℕ) → row < rows → IsFreeRow (record { chains = replicate (52 * rows) []; room = room }) row
new_row rows room row lt =
    let l = length-replicate {A = List Page} (52 * rows) [] in
    record {
      here = omega (arith, l, lt);
      empty = λ i il. get_or-replicate (52 * rows) (52 * row + i) [] [] (omega (arith, lt, il));
    }

pub new_total : (n : ℕ) → total (replicate n []) ≡ 0
new_total zero = refl
new_total (suc n) = let ih = new_total n in omega (arith, ih)
