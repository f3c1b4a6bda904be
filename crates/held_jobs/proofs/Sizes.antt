-- The last file of a job.
use Rattle.std.proofs.Common.{◌≡◌, ℕ, suc, ◌+◌, ◌-◌, ◌<◌, false, List, [], ◌∷◌, length, get_or, set, refl, ◌∙◌, ap, arith}
use Rattle.held_jobs.specs.declared.file.DataFile.{DataFile}
use Rattle.held_jobs.specs.Jobs.{Facts, last_size}
use Rattle.held_jobs.specs.Moves.{filled, put_facts}

pub last_at : (fs : List DataFile) (d : DataFile) → 0 < length fs → get_or fs (length fs - 1) d ≡ last_size fs
last_at [] d lt = absurd (omega arith)
last_at (f ∷ []) d lt = refl
last_at (f ∷ g ∷ fs) d lt =
    let e : length (f ∷ g ∷ fs) - 1 ≡ suc (length (g ∷ fs) - 1) = omega arith in
    rw e (last_at (g ∷ fs) d (omega arith))

pub last_is : (fs : List DataFile) (i m : ℕ) (x : DataFile) → 0 < length fs → m ≡ length fs → i ≡ m - 1 → x ≡ get_or fs i x → x ≡ last_size fs
last_is fs i m x lt em ei ex = (let at : i ≡ length fs - 1 = omega arith in ex ∙ (ap (λ (n : ℕ). get_or fs n x) at ∙ last_at fs x lt))

abbrev pub filled_one : ℕ → DataFile → DataFile
filled_one n f = record f { left = f.left - n; pages = f.pages + 1 }

pub filled_at : (n : ℕ) (fs : List DataFile) → 0 < length fs → set fs (length fs - 1) (filled_one n (last_size fs)) ≡ filled n fs
filled_at n [] lt = absurd (omega arith)
filled_at n (f ∷ []) lt = refl
filled_at n (f ∷ g ∷ fs) lt =
    let e : length (f ∷ g ∷ fs) - 1 ≡ suc (length (g ∷ fs) - 1) = omega arith in
    rw e (ap (λ (l : List DataFile). f ∷ l) (filled_at n (g ∷ fs) (omega arith)))

-- the file at the last place, changed so, is what a page that came makes of the facts
pub put_view : (j : Facts) (n i m : ℕ) (x : DataFile) → 0 < length j.files → m ≡ length j.files → i ≡ m - 1 → x ≡ get_or j.files i x
    → record j { lent = false; files = set j.files i (filled_one n x) } ≡ put_facts n j
put_view j n i m x lt em ei ex =
    let at : i ≡ length j.files - 1 = omega arith in
    let last : x ≡ last_size j.files = ex ∙ (ap (λ (k : ℕ). get_or j.files k x) at ∙ last_at j.files x lt) in
    let fs : set j.files i (filled_one n x) ≡ filled n j.files =
    ap (λ (k : ℕ). set j.files k (filled_one n x)) at
    ∙ (ap (λ (y : DataFile). set j.files (length j.files - 1) (filled_one n y)) last
    ∙ filled_at n j.files lt) in
    ap (λ (l : List DataFile). record j { lent = false; files = l }) fs
