-- Files that have no page any more.
use Rattle.std.proofs.Common.{◌≡◌, ℕ, zero, suc, ◌+◌, ◌<◌, cond, List, [], ◌∷◌, length, get_or, refl, sym, ◌∙◌, ap, arith}
use Rattle.std.proofs.lemmas.List.{ext_get_or}
use Rattle.page_chain.specs.declared.run.Run.{Run}
use Rattle.page_chain.specs.Changes.{is_among}
use Rattle.page_chain.specs.Drained.{runs_kept}
use Rattle.page_chain.specs.Held.{no_run, run_at}

-- the file of a number, which keeps its pages if it is kept
abbrev pub run_kept : List ℕ → ℕ → Run → Run
run_kept kept i run = cond (is_among kept i) run (record run { pages = 0 })

pub length-runs_kept : (k : ℕ) (kept : List ℕ) (files : List Run) → length (runs_kept k kept files) ≡ length files
length-runs_kept k kept [] = refl
length-runs_kept k kept (run ∷ files) = ap suc (length-runs_kept (suc k) kept files)

kept_in : (k : ℕ) (kept : List ℕ) (files : List Run) (i : ℕ) → i < length files → get_or (runs_kept k kept files) i no_run ≡ run_kept kept (k + i) (run_at files i)
kept_in k kept [] i lt = absurd (omega arith)
kept_in k kept (run ∷ files) zero lt = let same : k ≡ k + 0 = omega arith in ap (λ (j : ℕ). run_kept kept j run) same
kept_in k kept (run ∷ files) (suc i) lt =
    let same : suc k + i ≡ k + suc i = omega arith in
    kept_in (suc k) kept files i (omega arith) ∙ ap (λ (j : ℕ). run_kept kept j (run_at files i)) same

pub kept_run : (kept : List ℕ) (files : List Run) (i : ℕ) → i < length files → run_at (runs_kept 0 kept files) i ≡ run_kept kept i (run_at files i)
kept_run kept files i lt =
    let same : 0 + i ≡ i = omega arith in
    kept_in 0 kept files i lt ∙ ap (λ (j : ℕ). run_kept kept j (run_at files i)) same

pub all_kept : (kept : List ℕ) (files after : List Run) → length after ≡ length files
    → ((i : ℕ) → i < length files → run_at after i ≡ run_kept kept i (run_at files i)) → after ≡ runs_kept 0 kept files
all_kept kept files after l h =
    let n = length-runs_kept 0 kept files in
    ext_get_or no_run after (runs_kept 0 kept files) (l ∙ sym n)
    (λ i lt. h i (omega (arith, l, lt)) ∙ sym (kept_run kept files i (omega (arith, l, lt))))
