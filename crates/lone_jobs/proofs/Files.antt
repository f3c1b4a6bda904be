-- The files of a job, one after another.
use Rattle.std.proofs.Common.{◌≡◌, ◌+◌, ℕ, Bool, true, false, List, [], ◌∷◌, ◌++◌, length, refl, ap, ◌∙◌, arith}
use Rattle.std.specs.Prelude.{◌||◌, not}
use Rattle.std.proofs.lemmas.Bool.{or_parts}
use Rattle.std.proofs.lemmas.List.{length-append, length-map, map-append}
use Rattle.std.proofs.lemmas.List.Sums.{sum_by-cons}
use Rattle.lpr_client.specs.declared.file.DataFile.{DataFile}
use Rattle.spool_history.specs.Acts.{File, is_open_in, names_in}
use Rattle.spool_laws.proofs.Known.{or_true}
use Rattle.spool_history.specs.Legal.{pages_for}
use Rattle.lone_jobs.specs.Lone.{file_names, pages_of_files}

abbrev Kept : Type 0
Kept = File (List ℕ)

pub names_push : (fs : List Kept) (f : Kept) → names_in (fs ++ f ∷ []) ≡ names_in fs ++ f.name ∷ []
names_push fs f = map-append (λ (g : Kept). g.name) fs (f ∷ [])

-- one open file makes the files open
pub open_last : (fs : List Kept) (f : Kept) → f.ended ≡ false → is_open_in (fs ++ f ∷ []) ≡ true
open_last [] f e = rw e refl
open_last (g ∷ fs) f e = ap (λ (b : Bool). not g.ended || b) (open_last fs f e) ∙ or_true (not g.ended)

-- and one more that has ended leaves them closed
pub closed_last : (fs : List Kept) (f : Kept) → is_open_in fs ≡ false → f.ended ≡ true → is_open_in (fs ++ f ∷ []) ≡ false
closed_last [] f c e = rw e refl
closed_last (g ∷ fs) f c e =
    let both = or_parts (not g.ended) (is_open_in fs) c in
    ap (λ (b : Bool). b || is_open_in (fs ++ f ∷ [])) both.0 ∙ closed_last fs f both.1 e

pub count_files : (done : List Kept) (left files : List DataFile) → names_in done ++ file_names left ≡ file_names files → length done + length left ≡ length files
count_files done left files e =
    let a = ap length e in
    let b = length-append (names_in done) (file_names left) in
    let f = length-map done (λ (g : Kept). g.name) in
    let g = length-map left (λ (g : DataFile). g.name) in
    let h = length-map files (λ (g : DataFile). g.name) in
    omega (arith, a, b, f, g, h)

pub pages_more : (z : ℕ) (file : DataFile) (left : List DataFile) → pages_of_files z (file ∷ left) ≡ pages_for z (length file.octets) + pages_of_files z left
pages_more z file left = sum_by-cons (λ (f : DataFile). pages_for z (length f.octets)) file left
