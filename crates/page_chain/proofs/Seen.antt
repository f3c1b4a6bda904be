-- What is seen of a chain, file by file.
use Rattle.std.proofs.Common.{◌≡◌, ℕ, zero, suc, ◌+◌, ◌<◌, inl, inr, Some, List, [], ◌∷◌, ◌++◌, length, set, get_or, refl, sym, ◌∙◌, ap, arith}
use Rattle.std.proofs.lemmas.Bool.{cases_eq, cases_lt}
use Rattle.std.proofs.lemmas.List.{get_or_past, ext_get_or, length-set, get_or-set_same, get_or-set_other}
use Rattle.page_pool.specs.Page.{Page}
use Rattle.page_nodes.specs.Chains.{Chains}
use Rattle.page_chain.specs.declared.run.Run.{Run}
use Rattle.page_chain.specs.Files.{File, no_file, file_at, names_of}
use Rattle.page_chain.specs.Changes.{with_page}
use Rattle.page_chain.specs.Held.{no_run, run_at, names_in, turned_in, file_shown, pages_in, files_from}
use Rattle.page_chain.proofs.Turning.{length-turned}

pub length-files_from : (nodes : Chains) (row : ℕ) (prints : List ℕ) (turned k : ℕ) (files : List Run) → length (files_from nodes row prints turned k files) ≡ length files
length-files_from nodes row prints turned k [] = refl
length-files_from nodes row prints turned k (run ∷ files) = ap suc (length-files_from nodes row prints turned (suc k) files)

pub names_shown : (nodes : Chains) (row : ℕ) (prints : List ℕ) (turned k : ℕ) (files : List Run) → names_of (files_from nodes row prints turned k files) ≡ names_in files
names_shown nodes row prints turned k [] = refl
names_shown nodes row prints turned k (run ∷ files) = ap (λ (ns : List (List ℕ)). run.name ∷ ns) (names_shown nodes row prints turned (suc k) files)

file_in : (nodes : Chains) (row : ℕ) (prints : List ℕ) (turned k : ℕ) (files : List Run) (i : ℕ) → i < length files
    → get_or (files_from nodes row prints turned k files) i no_file ≡ file_shown (pages_in nodes row (k + i)) (turned_in prints turned (k + i)) (run_at files i)
file_in nodes row prints turned k [] i lt = absurd (omega arith)
file_in nodes row prints turned k (run ∷ files) zero lt =
    let same : k ≡ k + 0 = omega arith in
    ap (λ (j : ℕ). file_shown (pages_in nodes row j) (turned_in prints turned j) run) same
file_in nodes row prints turned k (run ∷ files) (suc i) lt =
    let same : suc k + i ≡ k + suc i = omega arith in
    file_in nodes row prints turned (suc k) files i (omega arith)
    ∙ ap (λ (j : ℕ). file_shown (pages_in nodes row j) (turned_in prints turned j) (run_at files i)) same

pub file_of : (nodes : Chains) (row : ℕ) (prints : List ℕ) (turned : ℕ) (files : List Run) (i : ℕ) → i < length files
    → file_at (files_from nodes row prints turned 0 files) i ≡ file_shown (pages_in nodes row i) (turned_in prints turned i) (run_at files i)
file_of nodes row prints turned files i lt =
    let same : 0 + i ≡ i = omega arith in
    file_in nodes row prints turned 0 files i lt
    ∙ ap (λ (j : ℕ). file_shown (pages_in nodes row j) (turned_in prints turned j) (run_at files i)) same

-- a file shows as many pages as it was given
pub size_of : (nodes : Chains) (row : ℕ) (prints : List ℕ) (turned : ℕ) (files : List Run) (i : ℕ)
    → length (file_at (files_from nodes row prints turned 0 files) i).pages ≡ (run_at files i).pages
size_of nodes row prints turned files i = elim (cases_lt i (length files)) [
  | inl lt ↦
      ap (λ (f : File). length f.pages) (file_of nodes row prints turned files i lt)
      ∙ length-turned (run_at files i).pages (turned_in prints turned i) (pages_in nodes row i)
  | inr le ↦
      let l = length-files_from nodes row prints turned 0 files in
      ap (λ (f : File). length f.pages) (get_or_past (files_from nodes row prints turned 0 files) i no_file (omega (arith, l, le)))
      ∙ sym (ap (λ (r : Run). r.pages) (get_or_past files i no_run le))
]

-- files that are seen alike, one by one
pub seen_by_place : (nodes : Chains) (row : ℕ) (prints : List ℕ) (turned : ℕ) (files : List Run) (fs : List File) → length fs ≡ length files
    → ((i : ℕ) → i < length files → file_shown (pages_in nodes row i) (turned_in prints turned i) (run_at files i) ≡ get_or fs i no_file)
    → files_from nodes row prints turned 0 files ≡ fs
seen_by_place nodes row prints turned files fs l h =
    let n = length-files_from nodes row prints turned 0 files in
    ext_get_or no_file (files_from nodes row prints turned 0 files) fs (n ∙ sym l)
    (λ i lt. let within : i < length files = omega (arith, n, lt) in file_of nodes row prints turned files i within ∙ h i within)

-- after a call on one file
pub seen_after : (old new : Chains) (row : ℕ) (before after : List ℕ) (was is : ℕ) (runs files : List Run) (at : ℕ) (f : File)
    → at < length runs → length files ≡ length runs
    → file_shown (pages_in new row at) (turned_in after is at) (run_at files at) ≡ f
    → ((i : ℕ) → i < length runs → (i ≡ at → ⊥) → file_shown (pages_in new row i) (turned_in after is i) (run_at files i) ≡ file_shown (pages_in old row i) (turned_in before was i) (run_at runs i))
    → files_from new row after is 0 files ≡ set (files_from old row before was 0 runs) at f
seen_after old new row before after was is runs files at f lt l here others =
    let fs = files_from old row before was 0 runs in
    let n = length-files_from old row before was 0 runs in
    seen_by_place new row after is files (set fs at f) (length-set fs at f ∙ (n ∙ sym l))
    (λ i il. elim (cases_eq i at) [
      | inl e ↦
          ap (λ (j : ℕ). file_shown (pages_in new row j) (turned_in after is j) (run_at files j)) e
          ∙ (here ∙ sym (ap (λ (j : ℕ). get_or (set fs at f) j no_file) e ∙ get_or-set_same fs at f no_file (omega (arith, n, lt))))
      | inr ne ↦
          let within : i < length runs = omega (arith, il, l) in
          others i within ne ∙ (sym (file_of old row before was runs i within) ∙ sym (get_or-set_other fs at i f no_file ne))
    ])

-- one page more in the last file
pub with_page_last : (fs : List File) (last : ℕ) (page : Page) → suc last ≡ length fs
    → with_page fs page ≡ set fs last (let f = file_at fs last in record f { pages = f.pages ++ Some page ∷ [] })
with_page_last [] last page e = absurd (omega arith)
with_page_last (f ∷ []) zero page e = refl
with_page_last (f ∷ []) (suc last) page e = absurd (omega arith)
with_page_last (f ∷ g ∷ fs) zero page e = absurd (omega arith)
with_page_last (f ∷ g ∷ fs) (suc last) page e = ap (λ (xs : List File). f ∷ xs) (with_page_last (g ∷ fs) last page (omega arith))

-- one file more
pub files_push : (nodes : Chains) (row : ℕ) (prints : List ℕ) (turned k : ℕ) (files : List Run) (run : Run)
    → files_from nodes row prints turned k (files ++ run ∷ []) ≡ files_from nodes row prints turned k files ++ file_shown (pages_in nodes row (k + length files)) (turned_in prints turned (k + length files)) run ∷ []
files_push nodes row prints turned k [] run =
    let same : k ≡ k + 0 = omega arith in
    ap (λ (j : ℕ). file_shown (pages_in nodes row j) (turned_in prints turned j) run ∷ []) same
files_push nodes row prints turned k (x ∷ files) run =
    let same : suc k + length files ≡ k + suc (length files) = omega arith in
    let front = file_shown (pages_in nodes row k) (turned_in prints turned k) x in
    let rest = files_from nodes row prints turned (suc k) files in
    ap (λ (xs : List File). front ∷ xs) (files_push nodes row prints turned (suc k) files run)
    ∙ ap (λ (j : ℕ). front ∷ (rest ++ file_shown (pages_in nodes row j) (turned_in prints turned j) run ∷ [])) same
