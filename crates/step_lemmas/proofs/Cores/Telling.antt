-- What a book tells of its jobs is what the history tells of them.
use Rattle.std.proofs.Common.{◌≡◌, ◌==◌, ℕ, suc, ◌+◌, ◌-◌, Bool, true, false, cond, List, [], ◌∷◌, ◌++◌, length, map, filter, take, refl, sym, ◌∙◌, ap, ap₂, subst}
use Rattle.std.specs.Prelude.{Ok, Vec}
use Rattle.std.specs.Global.{Global}
use Rattle.std.specs.List.{flat_map}
use Rattle.std.specs.Str.{bytes_eq}
use Rattle.std.proofs.lemmas.List.{length-append, length-map, take-map}
use Rattle.std.proofs.lemmas.List.Folds.{flat_map-map}
use Rattle.std.proofs.lemmas.Simd.{map-map}
use Rattle.lpd_values.specs.Told.{Told, prints_in}
use Rattle.lpd_values.specs.Choice.{active, chosen, is_active, is_listed, is_picked, is_shown, listed, may_remove, shown}
use Rattle.lpd_values.specs.Texts.{job_lines, listing, or_nothing, queue_line, removal_text, removed_line, state_text}
use Rattle.held_jobs.specs.Jobs.{Facts}
use Rattle.held_jobs.specs.Told as K
use Rattle.held_jobs.specs.Told.{told_in}
use Rattle.held_jobs.specs.Turns.{facts_in}
use Rattle.config_values.specs.Config.{Config, IsQueue, queue_at, queue_named}
use Rattle.spool_history.specs.Base.{Base}
use Rattle.spool_history.specs.Events.{Event}
use Rattle.spool_history.specs.Acts as A
use Rattle.spool_history.specs.Now as N
use Rattle.spool_history.specs.Now.{Job, State, is_received}
use Rattle.spool_history.specs.Told.{told_of}
use Rattle.spool_history.specs.Texts as X
use Rattle.spool_calls.specs.declared.printer.Printer.{Printer}
use Rattle.spool_calls.specs.Looks.{Detail, What}
use Rattle.spool_calls.specs.Calls.{Tells, removed_by}
use Rattle.spool_calls.specs.Telling.{Chooses, serving, stopped_in}
use Rattle.spool_calls.specs.Kept.{Kept, Leaves, facts_of, kept_printer, left_by, size_of}
use Rattle.step_lemmas.proofs.Cores.Leaving.{is_queue_named, takes}
use Rattle.step_lemmas.proofs.Cores.Phases.{goes_is}
use Rattle.step_lemmas.proofs.Cores.Turning.{facts_kept}

-- what is told of one job

-- a file has a place for each page
length_numbered : {C : Type 0} (file n : ℕ) (pages : List C) → length (A.numbered file n pages) ≡ length pages
length_numbered file n [] = refl
length_numbered file n (page ∷ pages) = ap (λ (m : ℕ). suc m) (length_numbered file (n + 1) pages)

length_if : {C : Type 0} (n : ℕ) (pages : List C) (t : Bool) → cond t (length pages) 0 ≡ length (cond t (A.numbered n 0 pages) [])
length_if n pages true = sym (length_numbered n 0 pages)
length_if n pages false = refl

-- the files of a name
pages_counted : {C : Type 0} (z n : ℕ) (name : List ℕ) (fs : List (A.File C)) → K.pages_named name (map (size_of z) fs) ≡ length (A.pages_named name n fs)
pages_counted z n name [] = refl
pages_counted {C} z n name (f ∷ fs) =
    let t = bytes_eq f.name name in
    ap₂ (λ (m k : ℕ). m + k) (length_if n f.pages t) (pages_counted z (n + 1) name fs)
    ∙ sym (length-append (cond t (A.numbered n 0 f.pages) []) (A.pages_named name (n + 1) fs))

-- the files of a print list
places_counted : {C : Type 0} (z : ℕ) (fs : List (A.File C)) (names : List (List ℕ)) → K.places_of names (map (size_of z) fs) ≡ length (flat_map (λ name. A.pages_named name 0 fs) names)
places_counted z fs [] = refl
places_counted z fs (name ∷ names) =
    ap₂ (λ (m k : ℕ). m + k) (pages_counted z 0 name fs) (places_counted z fs names)
    ∙ sym (length-append (A.pages_named name 0 fs) (flat_map (λ name. A.pages_named name 0 fs) names))

module _ {C : Type 0} (c : Config) where
  -- what is told of a job, as it is kept
  abbrev seen : Job C → Told
  seen v = told_in (facts_of c v)

  -- is what the history tells of it: a path from the one view to the other, field by field
  same : seen ≡ told_of
  same i v = record {
    queue = v.queue;
    listed = goes_is v.ended (is_received v) i;
    control = v.control;
    files = map-map K.told_file (size_of c.page_size) v.files i;
    handed = v.handed;
    left = places_counted c.page_size v.files (prints_in v.control) i - v.handed;
  }

-- jobs that are made of others, one of each: what is chosen and told of them is chosen and told of those

-- what passes a test
filter_along : {X Y : Type 0} (g : X → Y) (p : Y → Bool) (xs : List X) → filter p (map g xs) ≡ map g (filter (λ x. p (g x)) xs)
filter_along g p [] = refl
filter_along {X} {Y} g p (x ∷ xs) = ap (λ (l : List Y). cond (p (g x)) (g x ∷ l) l) (filter_along g p xs) ∙ by (p (g x)) (filter (λ x. p (g x)) xs)
  where
    by : (b : Bool) (ys : List X) → cond b (g x ∷ map g ys) (map g ys) ≡ map g (cond b (x ∷ ys) ys)
    by true ys = refl
    by false ys = refl

module _ {X Y : Type 0} (told : Y → Told) (g : X → Y) (q : ℕ) (xs : List X) where
  abbrev told_by : X → Told
  told_by x = told (g x)

  listed_along : listed told q (map g xs) ≡ map g (listed told_by q xs)
  listed_along = filter_along g (λ y. is_listed q (told y)) xs

  active_along : active told q (map g xs) ≡ map g (active told_by q xs)
  active_along =
      ap (take 1) (filter_along g (λ y. is_active q (told y)) xs) ∙ take-map g 1 (filter (λ x. is_active q (told_by x)) xs)

  chosen_along : (agent : List ℕ) (list : List (List ℕ)) → chosen told q agent list (map g xs) ≡ map g (chosen told_by q agent list xs)
  chosen_along agent [] =
      let p : Y → Bool = λ y. may_remove agent (told y) in
      ap (filter p) active_along ∙ filter_along g p (active told_by q xs)
  chosen_along agent (word ∷ words) = filter_along g (λ y. is_picked q agent (word ∷ words) (told y)) xs

  listing_along : (list : List (List ℕ)) (long : Bool) → listing told q list long (map g xs) ≡ listing told_by q list long xs
  listing_along list long =
      let f : Y → List ℕ = λ y. job_lines long (told y) in
      ap (flat_map f) (filter_along g (λ y. is_shown q list (told y)) xs) ∙ flat_map-map f g (shown told_by q list xs)

  nothing_along : (some : List X) → or_nothing told (map g some) ≡ or_nothing told_by some
  nothing_along [] = refl
  nothing_along (x ∷ some) = flat_map-map (λ y. removed_line (told y)) g (x ∷ some)

  removal_along : (agent : List ℕ) (list : List (List ℕ)) → removal_text told q agent list (map g xs) ≡ removal_text told_by q agent list xs
  removal_along agent list = ap (or_nothing told) (chosen_along agent list) ∙ nothing_along (chosen told_by q agent list xs)

  state_along : (name : List ℕ) (printers stopped : ℕ) (list : List (List ℕ)) (long : Bool)
      → state_text told q name printers stopped list long (map g xs) ≡ state_text told_by q name printers stopped list long xs
  state_along name printers stopped list long =
      ap₂ (λ (n : ℕ) (lines : List ℕ). queue_line name n printers stopped ++ lines) (ap length listed_along ∙ length-map (listed told_by q xs) g) (listing_along list long)

-- the printers of a state, as they are kept

-- those that serve a queue
serving_told : (d : Detail) (q : ℕ) (printers : List (N.Printer (What d))) → serving q (map (kept_printer d) printers) ≡ map (kept_printer d) (X.printers_in q printers)
serving_told d q printers = filter_along (kept_printer d) (λ (p : Printer). p.queue == q) printers

-- and those of them that are stopped
stopped_told : (d : Detail) (q : ℕ) (printers : List (N.Printer (What d))) → stopped_in q (map (kept_printer d) printers) ≡ map (kept_printer d) (X.stopped_in q printers)
stopped_told d q printers =
    ap (filter (λ (p : Printer). p.stopped)) (serving_told d q printers)
    ∙ filter_along (kept_printer d) (λ (p : Printer). p.stopped) (X.printers_in q printers)

module _ (d : Detail) (b : Base) (h : List (Event (What d))) (k : Kept) (l : Leaves d b h k) where
  abbrev v : State (What d)
  v = left_by d b h k

  abbrev kept : Job (What d) → Facts
  kept x = facts_of k.config x

  -- the text that answers a removal
  pub removal_left : (q : ℕ) (agent : List ℕ) (list : List (List ℕ)) → removal_text told_in q agent list (facts_in k.book.jobs) ≡ X.removal_text v q agent list
  removal_left q agent list =
      ap (removal_text told_in q agent list) (facts_kept d b h k l)
      ∙ (removal_along told_in kept q v.jobs agent list ∙ ap (λ (told : Job (What d) → Told). removal_text told q agent list v.jobs) (same k.config))

  -- the numbers of the jobs that a removal takes
  pub numbers_left : (q : ℕ) (agent : List ℕ) (list : List (List ℕ)) → map {A = Facts} {B = ℕ} (λ j. j.number) (chosen told_in q agent list (facts_in k.book.jobs)) ≡ removed_by d b h k q agent list
  numbers_left q agent list =
      let numbers = map {A = Facts} {B = ℕ} (λ j. j.number) in
      ap (λ (js : List Facts). numbers (chosen told_in q agent list js)) (facts_kept d b h k l)
      ∙ (ap numbers (chosen_along told_in kept q v.jobs agent list)
      ∙ (map-map (λ (j : Facts). j.number) kept (chosen (seen k.config) q agent list v.jobs)
      ∙ ap (λ (told : Job (What d) → Told). map (λ (x : Job (What d)). x.number) (chosen told q agent list v.jobs)) (same k.config)))

  serving_left : (q : ℕ) → length (serving q k.printers) ≡ length (X.printers_in q v.printers)
  serving_left q =
      ap (λ (ps : List Printer). length (serving q ps)) l.kept.printers
      ∙ (ap length (serving_told d q v.printers) ∙ length-map (X.printers_in q v.printers) (kept_printer d))

  stopped_left : (q : ℕ) → length (stopped_in q k.printers) ≡ length (X.stopped_in q v.printers)
  stopped_left q =
      ap (λ (ps : List Printer). length (stopped_in q ps)) l.kept.printers
      ∙ (ap length (stopped_told d q v.printers) ∙ length-map (X.stopped_in q v.printers) (kept_printer d))

  -- the text that answers a question for the state of a queue
  pub state_left : (q : ℕ) (list : List (List ℕ)) (long : Bool)
      → state_text told_in q (queue_at k.config q).name (length (serving q k.printers)) (length (stopped_in q k.printers)) list long (facts_in k.book.jobs) ≡ X.state_text v q list long
  state_left q list long =
      let name = (queue_at k.config q).name in
      let p = length (X.printers_in q v.printers) in
      let s = length (X.stopped_in q v.printers) in
      ap₂ (λ (p s : ℕ). state_text told_in q name p s list long (facts_in k.book.jobs)) (serving_left q) (stopped_left q)
      ∙ (ap (state_text told_in q name p s list long) (facts_kept d b h k l)
      ∙ (state_along told_in kept q v.jobs name p s list long ∙ ap (λ (told : Job (What d) → Told). state_text told q name p s list long v.jobs) (same k.config)))

  -- what a question for the state of a queue is answered with
  pub tell_text : (name : List ℕ) (list : List (List ℕ)) (long : Bool) (q : ℕ) (text : List ℕ) → queue_named k.config name ≡ q → IsQueue k.config q
      → text ≡ state_text told_in q (queue_at k.config q).name (length (serving q k.printers)) (length (stopped_in q k.printers)) list long (facts_in k.book.jobs)
      → Tells d b h k name list long (Ok text)
  tell_text name list long q text e is same =
      (is_queue_named k.config name q e is, subst (λ (n : ℕ). text ≡ X.state_text v n list long) (sym e) (same ∙ state_left q list long))

  -- and a question for the jobs that a removal would take
  pub choose_numbers : (name agent : List ℕ) (list : List (List ℕ)) (q : ℕ) (numbers : Vec ℕ Global) → k.closed ≡ false → queue_named k.config name ≡ q → IsQueue k.config q
      → numbers.items ≡ map {A = Facts} {B = ℕ} (λ j. j.number) (chosen told_in q agent list (facts_in k.book.jobs))
      → Chooses d b h k name agent list (Ok numbers)
  choose_numbers name agent list q numbers c e is same =
      (takes d b h k l name q c e is, subst (λ (n : ℕ). numbers.items ≡ removed_by d b h k n agent list) (sym e) (same ∙ numbers_left q agent list))
