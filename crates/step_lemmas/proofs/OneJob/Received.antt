-- A job becomes received.
use Rattle.std.proofs.Common.{◌≡◌, ℕ, true, false, List, [], ◌∷◌, drop, map, refl, sym, ◌∙◌, ap, subst}
use Rattle.std.proofs.lemmas.Bool.{false_from_ne_true}
use Rattle.spool_laws.proofs.Known.{clash}
use Rattle.step_lemmas.proofs.HeldJobs.Receiving.{open_unreceived}
use Rattle.lpd_values.specs.Contents.{Contents}
use Rattle.lpd_values.specs.Told.{prints_in}
use Rattle.page_pool.specs.Page.{Page}
use Rattle.page_chain.specs.declared.place.Place.{Place}
use Rattle.page_chain.specs.Files as F
use Rattle.page_chain.specs.Files.{Files}
use Rattle.page_chain.specs.Changes.{kept_from, numbers_of, placed}
use Rattle.held_jobs.specs.declared.file.DataFile.{DataFile}
use Rattle.held_jobs.specs.declared.phase.Phase.TheVariants.{Received}
use Rattle.held_jobs.specs.Jobs.{Facts, HeldJob}
use Rattle.held_jobs.specs.Books.{prints_of}
use Rattle.held_jobs.specs.Moves.{closed_file, controlled_facts, received_facts, received_job, told}
use Rattle.held_jobs.specs.Shown as S
use Rattle.held_jobs.specs.Shown.{Shelf, see_file, see_files}
use Rattle.config_values.specs.Config.{Config}
use Rattle.spool_history.specs.Events.Act.{Controlled, FileEnded}
use Rattle.spool_history.specs.Acts as A
use Rattle.spool_history.specs.Acts.{at_last, is_open_in, names_in}
use Rattle.spool_history.specs.Now.{Job, is_received}
use Rattle.spool_history.specs.Steps.{acted}
use Rattle.spool_history.specs.Legal.{IsReceiving}
use Rattle.spool_calls.specs.Kept.{is_printed, is_there, last_of, shelf_of, shelved_files, size_of, spots, whole_file}
use Rattle.spool_laws.proofs.Counts.{with_end}
use Rattle.step_lemmas.proofs.HeldJobs.Files.{Differ}
use Rattle.step_lemmas.proofs.OneJob.Ties.{Fills, Ties, facts_at, fills, phase_received, same_shelf, ties_at}
use Rattle.step_lemmas.proofs.OneJob.Passes.{passes}
use Rattle.step_lemmas.proofs.OneJob.Placing.{placed_is}
use Rattle.step_lemmas.proofs.OneJob.Shelving.{Whole, kept_is, len_in, whole_names, whole_sizes}

-- the places of a job whose files a chain has whole
pub spots_placed : {C : Type 0} (f : Page → C) (xs : List F.File) (v : Job C) (names : List (List ℕ)) → Whole f xs v.files → Differ (names_in v.files) → names ≡ prints_in v.control
    → passes (len_in xs) (numbers_of (F.names_of xs) names) ≡ spots v
spots_placed {C} f xs v names w d e =
    ap (λ (l : List (List ℕ)). passes (len_in xs) (numbers_of l names)) (whole_names f xs v.files w)
    ∙ (ap (λ (l : List (List ℕ)). passes (len_in xs) (numbers_of (names_in v.files) l)) e
    ∙ sym (placed_is (len_in xs) (prints_in v.control) v.files d (whole_sizes f xs v.files w)))

-- a chain whose files are placed is what a received job has
pub shelf_placed : {C : Type 0} (f : Page → C) (x : Files) (v : Job C) (names : List (List ℕ)) → Whole f x.files v.files → x.is_open ≡ false → Differ (names_in v.files) → names ≡ prints_in v.control
    → v.handed ≡ 0 → v.back ≡ 0 → see_files f (placed names x) ≡ shelf_of Received v.files v.handed v.back (spots v)
shelf_placed {C} f x v names w closed d e h b =
    let numbers = numbers_of (F.names_of x.files) names in
    let sp = spots_placed f x.files v names w d e in
    let files : map {A = F.File} {B = S.File C} (see_file f) (kept_from 0 numbers x.files) ≡ shelved_files (is_printed (spots v)) (is_there (spots v) v.handed v.back) 0 v.files =
    kept_is f numbers x.files v.files v.handed v.back w h b
    ∙ ap (λ (s : List Place). shelved_files (is_printed s) (is_there s v.handed v.back) 0 v.files) sp in
    same_shelf (see_files f (placed names x)) (shelf_of Received v.files v.handed v.back (spots v)) files closed
    (sp ∙ ap (λ (n : ℕ). drop n (spots v)) (sym h))
    (ap (last_of (spots v)) (sym h))

-- the names that a held job prints are those that the history's job prints
pub prints_same : {C : Type 0} (f : Page → C) (c : Config) (j : HeldJob) (v : Job C) → Fills f c j v → prints_of j ≡ prints_in v.control
prints_same f c j v a = ap (λ (x : Facts). prints_in x.control) a.facts

-- what the end of a file leaves as it was
map_ended : {C D : Type 0} (g : A.File C → D) (fs : List (A.File C)) → ((f : A.File C) → g (with_end f) ≡ g f) → map g (at_last with_end fs) ≡ map g fs
map_ended g [] same = refl
map_ended g (f ∷ []) same = ap (λ x. x ∷ []) (same f)
map_ended g (f ∷ h ∷ fs) same = ap (λ l. g f ∷ l) (map_ended g (h ∷ fs) same)

-- the pages of its files
pub whole_ended : {C : Type 0} (fs : List (A.File C)) → map {A = A.File C} {B = S.File C} whole_file (at_last with_end fs) ≡ map {A = A.File C} {B = S.File C} whole_file fs
whole_ended fs = map_ended whole_file fs (λ f. refl)

-- their sizes
pub sizes_ended : {C : Type 0} (z : ℕ) (fs : List (A.File C)) → map {A = A.File C} {B = DataFile} (size_of z) (at_last with_end fs) ≡ map {A = A.File C} {B = DataFile} (size_of z) fs
sizes_ended z fs = map_ended (size_of z) fs (λ f. refl)

-- and their names
pub names_ended : {C : Type 0} (fs : List (A.File C)) → names_in (at_last with_end fs) ≡ names_in fs
names_ended fs = map_ended (λ f. f.name) fs (λ f. refl)

-- a received job has no open file
pub received_closed : {C : Type 0} (v : Job C) → is_received v ≡ true → is_open_in v.files ≡ false
received_closed v r = false_from_ne_true (is_open_in v.files) (λ o. clash (is_received v) r (open_unreceived v o))

-- the last file that was awaited has ended: the job is received
pub received_by_file : {C : Type 0} (f : Page → C) (c : Config) (j : HeldJob) (v : Job C) (file : ℕ) → IsReceiving v → v.handed ≡ 0 → v.back ≡ 0 → is_received (acted (FileEnded file true) v) ≡ true → Differ (names_in v.files)
    → Ties f c j v → Ties f c (received_job (prints_of j) (closed_file j)) (acted (FileEnded file true) v)
received_by_file {C} f c j v file r h b is d t =
    let a = fills f c j v r t in
    let v' : Job C = acted (FileEnded file true) v in
    ties_at f c Received (received_job (prints_of j) (closed_file j)) v' (phase_received v' r.0 is) (record {
      facts = ap received_facts a.facts ∙ ap (λ (l : List DataFile). record (facts_at Received c v) { files = l }) (sym (sizes_ended c.page_size v.files));
      shelf = shelf_placed f (closed_file j).chain v' (prints_of j) (a.files ∙ sym (whole_ended v.files)) refl (subst Differ (sym (names_ended v.files)) d) (prints_same f c j v a) h b;
    })

-- the control file that was awaited has come: the job is received
pub received_by_control : {C : Type 0} (f : Page → C) (c : Config) (j : HeldJob) (v : Job C) (control : Contents) → IsReceiving v → v.handed ≡ 0 → v.back ≡ 0 → is_received (acted (Controlled control true) v) ≡ true → Differ (names_in v.files)
    → Ties f c j v → Ties f c (received_job control.prints (told (controlled_facts control) j)) (acted (Controlled control true) v)
received_by_control {C} f c j v control r h b is d t =
    let a = fills f c j v r t in
    let v' : Job C = acted (Controlled control true) v in
    ties_at f c Received (received_job control.prints (told (controlled_facts control) j)) v' (phase_received v' r.0 is) (record {
      facts = ap (λ (x : Facts). received_facts (controlled_facts control x)) a.facts;
      shelf = shelf_placed f j.chain v' control.prints a.files (a.is_open ∙ received_closed v' is) d refl h b;
    })
