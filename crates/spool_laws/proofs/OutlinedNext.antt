-- In the outline of a history the printers get the outlines of the same pages.
use Rattle.std.proofs.Common.{◌≡◌, ◌==◌, ℕ, ◌+◌, ◌-◌, Bool, true, false, List, [], ◌∷◌, ◌++◌, drop, length, map, refl, sym, ◌∙◌, ap, ap₂}
use Rattle.std.specs.Prelude.{◌&&◌, ◌||◌, not, cond, find, is_some, option_map, sum_by, Option, Some, None, bytes_eq}
use Rattle.std.specs.List.{list_any, list_all, flat_map}
use Rattle.std.proofs.lemmas.List.{map-append, drop-map, length-map}
use Rattle.lpd_values.specs.Kept.{is_among}
use Rattle.lpd_values.specs.Told.{prints_in}
use Rattle.claims.specs.declared.row.Row.{Row}
use Rattle.counts.specs.Amounts.{amount}
use Rattle.claims.specs.Safety.{HasFinishingOrder}
use Rattle.spool_history.specs.Events.{Sheet}
use Rattle.spool_history.specs.Events.Progress.{Going, Done, Ended}
use Rattle.config_values.specs.Config.{Config, limit_of}
use Rattle.spool_history.specs.Acts.{File, Page, all_pages, is_same_page, is_open_in, names_in, numbered, pages_among, pages_named}
use Rattle.spool_history.specs.Now.{Job, Printer, State, is_received, places, pages_kept, pages_out, printers_held, printers_needed, amounts, row_of, capacity, free_pages, IsSafeNow}
use Rattle.spool_history.specs.Next.{Next, hand_first, hand_of, is_preceded_by, is_ready, first_ready, or_first, turn_of, with_out, next_at, printer_at, next_page}
use Rattle.spool_history.specs.Next.Next.{Hands, Nothing, Stops, Busy, Over}
use Rattle.spool_history.specs.Legal.{progress_of}
use Rattle.spool_laws.specs.Outline.{outline_sheet}
use Rattle.spool_laws.proofs.Outlined.{file_in, job_in, keep_in, printer_in, state_in, printer_at_in}

abbrev page_in : {A B : Type 0} → (A → B) → Page A → Page B
page_in f x = record { file = x.file; number = x.number; page = f x.page }

abbrev pub next_in : {A B : Type 0} → (A → B) → Next A → Next B
next_in f (Hands sheet) = Hands (outline_sheet f sheet)
next_in f Nothing = Nothing
next_in f Stops = Stops
next_in f Busy = Busy
next_in f Over = Over

-- whether a job is received
pub open_files_in : {A B : Type 0} (f : A → B) (fs : List (File A)) → is_open_in (map (file_in f) fs) ≡ is_open_in fs
open_files_in f [] = refl
open_files_in f (x ∷ xs) = ap (λ b. not x.ended || b) (open_files_in f xs)

pub names_in_in : {A B : Type 0} (f : A → B) (fs : List (File A)) → names_in (map (file_in f) fs) ≡ names_in fs
names_in_in f [] = refl
names_in_in f (x ∷ xs) = ap (λ l. x.name ∷ l) (names_in_in f xs)

pub received_in : {A B : Type 0} (f : A → B) (v : Job A) → is_received (job_in f v) ≡ is_received v
received_in f v =
    ap (λ b. is_some v.control && (not b && list_all (λ name. is_among name (names_in (map (file_in f) v.files))) (prints_in v.control))) (open_files_in f v.files)
    ∙ ap (λ ns. is_some v.control && (not (is_open_in v.files) && list_all (λ name. is_among name ns) (prints_in v.control))) (names_in_in f v.files)

-- the places of a job
numbered_in : {A B : Type 0} (f : A → B) (file n : ℕ) (ps : List A) → numbered file n (map f ps) ≡ map (page_in f) (numbered file n ps)
numbered_in f file n [] = refl
numbered_in f file n (p ∷ ps) = ap (λ l. record { file = file; number = n; page = f p } ∷ l) (numbered_in f file (n + 1) ps)

pages_if : {A B : Type 0} (f : A → B) (b : Bool) (xs : List (Page A)) (ys : List (Page B)) → ys ≡ map (page_in f) xs → cond b ys [] ≡ map (page_in f) (cond b xs [])
pages_if f true xs ys e = e
pages_if f false xs ys e = refl

named_in : {A B : Type 0} (f : A → B) (name : List ℕ) (n : ℕ) (fs : List (File A)) → pages_named name n (map (file_in f) fs) ≡ map (page_in f) (pages_named name n fs)
named_in f name n [] = refl
named_in f name n (x ∷ xs) =
    ap₂ (λ k l. k ++ l) (pages_if f (bytes_eq x.name name) (numbered n 0 x.pages) _ (numbered_in f n 0 x.pages)) (named_in f name (n + 1) xs)
    ∙ sym (map-append (page_in f) (cond (bytes_eq x.name name) (numbered n 0 x.pages) []) (pages_named name (n + 1) xs))

printed_in : {A B : Type 0} (f : A → B) (fs : List (File A)) (names : List (List ℕ)) → flat_map (λ name. pages_named name 0 (map (file_in f) fs)) names ≡ map (page_in f) (flat_map (λ name. pages_named name 0 fs) names)
printed_in f fs [] = refl
printed_in f fs (name ∷ names) =
    ap₂ (λ k l. k ++ l) (named_in f name 0 fs) (printed_in f fs names)
    ∙ sym (map-append (page_in f) (pages_named name 0 fs) (flat_map (λ name. pages_named name 0 fs) names))

places_same : {A B : Type 0} (f : A → B) (v : Job A) → places (job_in f v) ≡ map (page_in f) (places v)
places_same f v = printed_in f v.files (prints_in v.control)

place_count : {A B : Type 0} (f : A → B) (v : Job A) → length (places (job_in f v)) ≡ length (places v)
place_count f v = ap length (places_same f v) ∙ length-map (places v) (page_in f)

pub progress_in : {A B : Type 0} (f : A → B) (v : Job A) → progress_of (job_in f v) ≡ progress_of v
progress_in f v = ap (λ (n : ℕ). cond v.ended Ended (cond (v.back + 1 == n) Done Going)) (place_count f v)

-- and the pages that it keeps
all_in : {A B : Type 0} (f : A → B) (n : ℕ) (fs : List (File A)) → all_pages n (map (file_in f) fs) ≡ map (page_in f) (all_pages n fs)
all_in f n [] = refl
all_in f n (x ∷ xs) =
    ap₂ (λ k l. k ++ l) (numbered_in f n 0 x.pages) (all_in f (n + 1) xs)
    ∙ sym (map-append (page_in f) (numbered n 0 x.pages) (all_pages (n + 1) xs))

same_in : {A B : Type 0} (f : A → B) (x : Page A) (ps : List (Page A)) → list_any (is_same_page (page_in f x)) (map (page_in f) ps) ≡ list_any (is_same_page x) ps
same_in f x [] = refl
same_in f x (p ∷ ps) = ap (λ b. is_same_page x p || b) (same_in f x ps)

among_in : {A B : Type 0} (f : A → B) (ps xs : List (Page A)) → pages_among (map (page_in f) ps) (map (page_in f) xs) ≡ map (page_in f) (pages_among ps xs)
among_in f ps [] = refl
among_in {A} {B} f ps (x ∷ xs) =
    ap (λ b. cond b (page_in f x ∷ pages_among (map (page_in f) ps) (map (page_in f) xs)) (pages_among (map (page_in f) ps) (map (page_in f) xs))) (same_in f x ps)
    ∙ keep_in (page_in f) (list_any (is_same_page x) ps) x (pages_among ps xs) _ (among_in f ps xs)

kept_count : {A B : Type 0} (f : A → B) (v : Job A) → length (pages_kept (job_in f v)) ≡ length (pages_kept v)
kept_count f v =
    ap length (ap₂ pages_among (ap (drop v.back) (places_same f v) ∙ drop-map (page_in f) v.back (places v)) (all_in f 0 v.files) ∙ among_in f (drop v.back (places v)) (all_pages 0 v.files))
    ∙ length-map (pages_kept v) (page_in f)

-- what it holds and may still need
row_by : {C : Type 0} → Config → Job C → Bool → ℕ → Row
row_by c v received n = record {
  number = v.number;
  sender = v.sender;
  queue = v.queue;
  held = amounts c (cond v.ended (pages_out v) (cond received n v.granted)) v.queue (printers_held v);
  need = amounts c (cond (v.ended || received) 0 (limit_of c v.queue - v.granted)) v.queue (printers_needed v);
}

row_in : {A B : Type 0} (f : A → B) (c : Config) (v : Job A) → row_of c (job_in f v) ≡ row_of c v
unfolding row_by
row_in f c v = ap₂ (row_by c v) (received_in f v) (kept_count f v)

rows_in : {A B : Type 0} (f : A → B) (c : Config) (vs : List (Job A)) → map (row_of c) (map (job_in f) vs) ≡ map (row_of c) vs
rows_in f c [] = refl
rows_in f c (v ∷ vs) = ap₂ (λ x xs. x ∷ xs) (row_in f c v) (rows_in f c vs)

pub free_in : {A B : Type 0} (f : A → B) (v : State A) → free_pages (state_in f v) ≡ free_pages v
free_in f v = ap (λ (rows : List Row). amount (capacity v.config) 0 - sum_by (λ (row : Row). amount row.held 0) rows) (rows_in f v.config v.jobs)

pub safe_in : {A B : Type 0} (f : A → B) (v : State A) → IsSafeNow (state_in f v) ≡ IsSafeNow v
safe_in f v =
    ap (λ (rows : List Row). HasFinishingOrder (λ kind. amount (capacity v.config) kind - sum_by (λ (row : Row). amount row.held kind) rows) rows) (rows_in f v.config v.jobs)

-- which job a printer gets a page of
before_in : {A B : Type 0} (f : A → B) (w : Job A) (vs : List (Job A)) → list_any (is_preceded_by (job_in f w)) (map (job_in f) vs) ≡ list_any (is_preceded_by w) vs
before_in f w [] = refl
before_in f w (v ∷ vs) = ap (λ b. is_preceded_by w v || b) (before_in f w vs)

ready_in : {A B : Type 0} (f : A → B) (vs : List (Job A)) (w : Job A) → is_ready (map (job_in f) vs) (job_in f w) ≡ is_ready vs w
ready_in f vs w = ap₂ (λ r b. r && (not w.ended && ((w.handed == 0) && not b))) (received_in f w) (before_in f w vs)

some_in : {X Y : Type 0} (g : X → Y) (b : Bool) (x : X) (o : Option X) (o' : Option Y) → o' ≡ option_map g o → cond b (Some (g x)) o' ≡ option_map g (cond b (Some x) o)
some_in g true x o o' e = refl
some_in g false x o o' e = e

find_in : {X Y : Type 0} (g : X → Y) (t : X → Bool) (u : Y → Bool) (xs : List X) → ((x : X) → u (g x) ≡ t x) → find u (map g xs) ≡ option_map g (find t xs)
find_in g t u [] e = refl
find_in g t u (x ∷ xs) e = ap (λ b. cond b (Some (g x)) (find u (map g xs))) (e x) ∙ some_in g (t x) x (find t xs) (find u (map g xs)) (find_in g t u xs e)

first_in : {A B : Type 0} (f : A → B) (vs : List (Job A)) (q : ℕ) → first_ready (map (job_in f) vs) q ≡ option_map (job_in f) (first_ready vs q)
first_in {A} {B} f vs q =
    find_in (job_in f) (λ (w : Job A). (w.queue == q) && is_ready vs w) (λ (w : Job B). (w.queue == q) && is_ready (map (job_in f) vs) w) vs (λ w. ap (λ b. (w.queue == q) && b) (ready_in f vs w))

or_first_in : {A B : Type 0} (f : A → B) (vs : List (Job A)) (q : ℕ) (o : Option (Job A)) → or_first (map (job_in f) vs) q (option_map (job_in f) o) ≡ option_map (job_in f) (or_first vs q o)
or_first_in f vs q None = first_in f vs q
or_first_in f vs q (Some v) = refl

turn_in : {A B : Type 0} (f : A → B) (vs : List (Job A)) (q : ℕ) (o : Option ℕ) → turn_of (map (job_in f) vs) q o ≡ option_map (job_in f) (turn_of vs q o)
turn_in f vs q None = first_in f vs q
turn_in {A} {B} f vs q (Some j) =
    ap (or_first (map (job_in f) vs) q) (find_in (job_in f) (λ (v : Job A). (v.number == j) && not v.ended) (λ (v : Job B). (v.number == j) && not v.ended) vs (λ v. refl))
    ∙ or_first_in f vs q (find (λ (v : Job A). (v.number == j) && not v.ended) vs)

hand_first_in : {A B : Type 0} (f : A → B) (job place : ℕ) (xs : List (Page A)) → hand_first job place (map (page_in f) xs) ≡ next_in f (hand_first job place xs)
hand_first_in f job place [] = refl
hand_first_in f job place (x ∷ xs) = refl

hand_in : {A B : Type 0} (f : A → B) (o : Option (Job A)) → hand_of (option_map (job_in f) o) ≡ next_in f (hand_of o)
hand_in f None = refl
hand_in f (Some v) =
    ap (λ l. hand_first v.number v.handed l) (ap (drop v.handed) (places_same f v) ∙ drop-map (page_in f) v.handed (places v))
    ∙ hand_first_in f v.number v.handed (drop v.handed (places v))

with_out_in : {A B : Type 0} (f : A → B) (vs : List (Job A)) (p : Printer A) (o : Option (Sheet A)) → with_out (map (job_in f) vs) (printer_in f p) (option_map (outline_sheet f) o) ≡ next_in f (with_out vs p o)
with_out_in f vs p (Some sheet) = refl
with_out_in f vs p None = ap hand_of (turn_in f vs p.queue p.began) ∙ hand_in f (turn_of vs p.queue p.began)

unless_in : {A B : Type 0} (f : A → B) (b : Bool) (x y : Next A) (y' : Next B) → y' ≡ next_in f y → cond b (next_in f x) y' ≡ next_in f (cond b x y)
unless_in f true x y y' e = refl
unless_in f false x y y' e = e

next_at_in : {A B : Type 0} (f : A → B) (vs : List (Job A)) (p : Printer A) → next_at (map (job_in f) vs) (printer_in f p) ≡ next_in f (next_at vs p)
next_at_in f vs p = unless_in f p.stopped Stops (with_out vs p p.out) _ (with_out_in f vs p p.out)

pub next_page_in : {A B : Type 0} (f : A → B) (v : State A) (p : ℕ) → next_page (state_in f v) p ≡ next_in f (next_page v p)
next_page_in f v p =
    unless_in f v.closed Over (next_at v.jobs (printer_at v p)) (next_at (map (job_in f) v.jobs) (printer_at (state_in f v) p))
    (ap (next_at (map (job_in f) v.jobs)) (printer_at_in f v p) ∙ next_at_in f v.jobs (printer_at v p))
