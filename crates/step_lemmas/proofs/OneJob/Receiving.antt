-- What a job does while it is being received.
use Rattle.std.proofs.Common.{◌≡◌, ℕ, ◌+◌, ◌-◌, ◌*◌, Bool, false, List, [], ◌∷◌, ◌++◌, length, map, refl, sym, ◌∙◌, ap, ap₂, arith}
use Rattle.std.specs.Prelude.{◌||◌, not, Option, Some}
use Rattle.std.proofs.lemmas.List.{length_push, map-append, map_push}
use Rattle.lpd_values.specs.Contents.{Contents}
use Rattle.page_pool.specs.Page.{Page}
use Rattle.page_chain.specs.Files as F
use Rattle.page_chain.specs.Changes.{with_page}
use Rattle.held_jobs.specs.declared.file.DataFile.{DataFile}
use Rattle.held_jobs.specs.declared.phase.Phase.TheVariants.{Receiving}
use Rattle.held_jobs.specs.Jobs.{HeldJob}
use Rattle.held_jobs.specs.Moves.{begun_facts, begun_job, closed_file, controlled_facts, filled, put_facts, put_job, told}
use Rattle.held_jobs.specs.Shown as S
use Rattle.held_jobs.specs.Shown.{see_file, see_page}
use Rattle.config_values.specs.Config.{Config}
use Rattle.spool_history.specs.Events.Act.{Began, Controlled, FileEnded, Put}
use Rattle.spool_history.specs.Acts as A
use Rattle.spool_history.specs.Acts.{at_last, is_open_in, is_whole, names_in, new_file}
use Rattle.spool_history.specs.Now.{Job, is_received}
use Rattle.spool_history.specs.Steps.{acted}
use Rattle.spool_history.specs.Legal.{HasOpen, IsNextPage, IsReceiving}
use Rattle.spool_calls.specs.Kept.{size_of, whole_file}
use Rattle.spool_laws.proofs.Counts.{last_push, with_end, with_page as with_one}
use Rattle.step_lemmas.proofs.HeldJobs.Receiving.{began_receiving, put_receiving}
use Rattle.spool_laws.proofs.Held.{open_push}
use Rattle.step_lemmas.proofs.HeldJobs.Opens.{LastOpen}
use Rattle.step_lemmas.proofs.OneJob.Ties.{Ties, facts_at, fills, ties_filling}
use Rattle.step_lemmas.proofs.OneJob.Shelving.{AreWhole, Whole, are_whole, no_files, one_more, whole_pages}
use Rattle.step_lemmas.proofs.OneJob.Received.{sizes_ended, whole_ended}

-- its control file came, and something is still awaited
pub ties_controlled : {C : Type 0} (f : Page → C) (c : Config) (j : HeldJob) (v : Job C) (control : Contents) → IsReceiving v → is_received (acted (Controlled control false) v) ≡ false → Ties f c j v
    → Ties f c (told (controlled_facts control) j) (acted (Controlled control false) v)
ties_controlled {C} f c j v control r is t =
    let a = fills f c j v r t in
    ties_filling f c (told (controlled_facts control) j) (acted (Controlled control false) v) (r.0, is)
    (record { facts = ap (controlled_facts control) a.facts; files = a.files; is_open = a.is_open; places = a.places; last = a.last })

-- after the end of the last file none is open
pub closed_ended : {C : Type 0} (fs : List (A.File C)) → LastOpen fs → is_open_in (at_last with_end fs) ≡ false
closed_ended [] l = refl
closed_ended (f ∷ []) l = refl
closed_ended (f ∷ g ∷ fs) l = rw l.0 (closed_ended (g ∷ fs) l.1)

-- its open file has ended, and something is still awaited
pub ties_closed : {C : Type 0} (f : Page → C) (c : Config) (j : HeldJob) (v : Job C) (file : ℕ) → IsReceiving v → LastOpen v.files → is_received (acted (FileEnded file false) v) ≡ false → Ties f c j v
    → Ties f c (closed_file j) (acted (FileEnded file false) v)
ties_closed {C} f c j v file r l is t =
    let a = fills f c j v r t in
    ties_filling f c (closed_file j) (acted (FileEnded file false) v) (r.0, is) (record {
      facts = a.facts ∙ ap (λ (z : List DataFile). record (facts_at Receiving c v) { files = z }) (sym (sizes_ended c.page_size v.files));
      files = a.files ∙ sym (whole_ended v.files);
      is_open = sym (closed_ended v.files l);
      places = a.places;
      last = a.last;
    })

-- a file begins
pub ties_begun : {C : Type 0} (f : Page → C) (c : Config) (j : HeldJob) (v : Job C) (name : List ℕ) (count : ℕ) → IsReceiving v → Ties f c j v → Ties f c (begun_job name count j) (acted (Began name count) v)
ties_begun {C} f c j v name count r t =
    let a = fills f c j v r t in
    let v' : Job C = acted (Began name count) v in
    let z = c.page_size in
    let new : A.File C = new_file name count in
    let left : count ≡ count - 0 * z = omega arith in
    let sizes : map {A = A.File C} {B = DataFile} (size_of z) v.files ++ record { name = name; count = count; left = count; pages = 0 } ∷ [] ≡ map {A = A.File C} {B = DataFile} (size_of z) (v.files ++ new ∷ []) =
    ap (λ (n : ℕ). map {A = A.File C} {B = DataFile} (size_of z) v.files ++ record { name = name; count = count; left = n; pages = 0 } ∷ []) left
    ∙ sym (map-append (size_of {C = C} z) v.files (new ∷ [])) in
    let x : F.File = record { name = name; pages = [] } in
    ties_filling f c (begun_job name count j) v' (began_receiving name count v r) (record {
      facts = ap (begun_facts name count) a.facts ∙ ap (λ (l : List DataFile). record (facts_at Receiving c v) { files = l }) sizes;
      files = map-append (see_file f) j.chain.files (x ∷ []) ∙ (ap (λ (l : List (S.File C)). l ++ record { name = name; pages = [] } ∷ []) a.files ∙ sym (map-append (whole_file {C = C}) v.files (new ∷ [])));
      is_open = sym (open_push v.files name count);
      places = a.places;
      last = a.last;
    })

-- a page comes

-- whether a file is open
pub open_put : {C : Type 0} (content : C) (fs : List (A.File C)) → is_open_in (at_last (with_one content) fs) ≡ is_open_in fs
open_put content [] = refl
open_put content (f ∷ []) = refl
open_put content (f ∷ g ∷ fs) = ap (λ (b : Bool). not f.ended || b) (open_put content (g ∷ fs))

-- the chain's files with one page more
whole_put : {C : Type 0} (f : Page → C) (page : Page) (content : C) {xs : List F.File} {ys : List (A.File C)} → AreWhole f xs ys → f page ≡ content
    → Whole f (with_page xs page) (at_last (with_one content) ys)
whole_put f page content no_files e i = []
whole_put {C} f page content (one_more x y first no_files) e i =
    record {
      name = (first i).name;
      pages = (map_push (see_page f) x.pages (Some page)
          ∙ (ap₂ (λ (l : List (Option C)) (p : C). l ++ Some p ∷ []) (whole_pages f x y first) e ∙ sym (map_push (λ (p : C). Some p) y.pages content))) i;
    }
    ∷ []
whole_put f page content (one_more x y first (one_more x' y' second w)) e i = first i ∷ whole_put f page content (one_more x' y' second w) e i

-- its sizes
size_put : {C : Type 0} (z len number : ℕ) (content : C) (f : A.File C) → IsNextPage z number len f → record (size_of z f) { left = (size_of z f).left - len; pages = (size_of z f).pages + 1 } ≡ size_of z (with_one content f)
size_put z len number content f n =
    let p = length_push f.pages content in
    let m : (length f.pages + 1) * z ≡ length f.pages * z + z = omega arith in
    let q : length (f.pages ++ content ∷ []) * z ≡ length f.pages * z + z = ap (λ (k : ℕ). k * z) p ∙ m in
    let s : number * z ≡ length f.pages * z = ap (λ (k : ℕ). k * z) (sym n.0) in
    let left : f.count - length f.pages * z - len ≡ f.count - length (f.pages ++ content ∷ []) * z = omega (arith, n.1, n.2) in
    ap (λ (k : ℕ). record (size_of z f) { left = k; pages = length f.pages + 1 }) left
    ∙ ap (λ (k : ℕ). record (size_of z f) { left = f.count - length (f.pages ++ content ∷ []) * z; pages = k }) (sym p)

-- the sizes of the last file
filled_push : (n : ℕ) (ys : List DataFile) (y : DataFile) → filled n (ys ++ y ∷ []) ≡ ys ++ record y { left = y.left - n; pages = y.pages + 1 } ∷ []
filled_push n [] y = refl
filled_push n (u ∷ []) y = refl
filled_push n (u ∷ w ∷ ys) y = ap (λ (l : List DataFile). u ∷ l) (filled_push n (w ∷ ys) y)

-- the sizes of all files
sizes_put : {C : Type 0} (z len number : ℕ) (content : C) (before : List (A.File C)) (last : A.File C) (fs : List (A.File C)) → fs ≡ before ++ last ∷ [] → IsNextPage z number len last
    → filled len (map {A = A.File C} {B = DataFile} (size_of z) fs) ≡ map {A = A.File C} {B = DataFile} (size_of z) (at_last (with_one content) fs)
sizes_put {C} z len number content before last fs e n =
    let sizes : List (A.File C) → List DataFile = map {A = A.File C} {B = DataFile} (size_of z) in
    ap (λ (l : List (A.File C)). filled len (sizes l)) e
    ∙ (ap (filled len) (map-append (size_of {C = C} z) before (last ∷ []))
    ∙ (filled_push len (sizes before) (size_of z last)
    ∙ (ap (λ (y : DataFile). sizes before ++ y ∷ []) (size_put z len number content last n)
    ∙ (sym (map-append (size_of {C = C} z) before (with_one content last ∷ []))
    ∙ (ap sizes (sym (last_push (with_one content) before last)) ∙ ap (λ (l : List (A.File C)). sizes (at_last (with_one content) l)) (sym e))))))

-- the lent page comes with what is said of it
pub ties_put : {C : Type 0} (f : Page → C) (c : Config) (j : HeldJob) (v : Job C) (file number len : ℕ) (page : Page) (content : C) → IsReceiving v → HasOpen v.files file (IsNextPage c.page_size number len)
    → length page.octets ≡ len → f page ≡ content → Ties f c j v → Ties f c (put_job page j) (acted (Put file number content) v)
ties_put {C} f c j v file number len page content r o el ec t =
    let a = fills f c j v r t in
    ties_filling f c (put_job page j) (acted (Put file number content) v) (put_receiving file number content (IsNextPage c.page_size number len) v r o) (record {
      facts = ap (λ (n : ℕ). put_facts n j.facts) el ∙ (ap (put_facts len) a.facts
          ∙ ap (λ (l : List DataFile). record (facts_at Receiving c v) { lent = false; files = l }) (sizes_put c.page_size len number content o.0 o.1 v.files o.2 o.5));
      files = whole_put f page content (are_whole f j.chain.files v.files a.files) ec;
      is_open = a.is_open ∙ sym (open_put content v.files);
      places = a.places;
      last = a.last;
    })
