-- What each part of a spool's state is in the outline of a history, and that steps carry over to it.
use Rattle.std.proofs.Common.{◌≡◌, ◌==◌, ℕ, zero, suc, ◌+◌, ◌-◌, Bool, true, false, List, [], ◌∷◌, ◌++◌, length, get_or, set, map, refl, sym, ◌∙◌, ap, ap₂}
use Rattle.std.specs.Prelude.{cond, filter, option_map, sum_by}
use Rattle.std.specs.List.{list_any}
use Rattle.std.proofs.lemmas.List.{map-append, map-set, length-map}
use Rattle.spool_history.specs.Events.{Act, Event, Sheet, Turn}
use Rattle.spool_history.specs.Events.Act.{Granted, Began, Put, FileEnded}
use Rattle.spool_history.specs.Events.Progress.{Going}
use Rattle.spool_history.specs.Events.Turn.{Handed, Printed}
use Rattle.spool_history.specs.Events.Event.{Opened, OfJob, AtPrinter, Removed, Started}
use Rattle.config_values.specs.Config.{Config, reserve_of}
use Rattle.spool_history.specs.Acts.{File, at_last}
use Rattle.spool_history.specs.Now.{Job, Printer, State, is_held}
use Rattle.spool_history.specs.Next.{no_printer, printer_at}
use Rattle.spool_history.specs.Steps.{change, acted, turned, accepted_by, printer_turned, printers_after, closed_after, after}
use Rattle.spool_laws.specs.Outline.{outline_act, outline_event, outline_sheet}
use Rattle.spool_laws.proofs.Moves.{all_same}

abbrev pub file_in : {A B : Type 0} → (A → B) → File A → File B
file_in f x = record { name = x.name; count = x.count; pages = map f x.pages; ended = x.ended }

abbrev pub job_in : {A B : Type 0} → (A → B) → Job A → Job B
job_in f v = record {
  number = v.number;
  sender = v.sender;
  queue = v.queue;
  granted = v.granted;
  lent = v.lent;
  files = map (file_in f) v.files;
  control = v.control;
  handed = v.handed;
  back = v.back;
  ended = v.ended;
}

abbrev pub printer_in : {A B : Type 0} → (A → B) → Printer A → Printer B
printer_in f p = record { queue = p.queue; out = option_map (outline_sheet f) p.out; began = p.began; stopped = p.stopped }

abbrev pub state_in : {A B : Type 0} → (A → B) → State A → State B
state_in f v = record {
  config = v.config;
  jobs = map (job_in f) v.jobs;
  accepted = v.accepted;
  reserved = v.reserved;
  printers = map (printer_in f) v.printers;
  closed = v.closed;
}

pub map_both : {X Y U V : Type 0} (g : Y → V) (k : X → Y) (m : U → V) (n : X → U) (xs : List X) → ((x : X) → g (k x) ≡ m (n x)) → map g (map k xs) ≡ map m (map n xs)
map_both g k m n [] e = refl
map_both g k m n (x ∷ xs) e = ap₂ (λ y ys. y ∷ ys) (e x) (map_both g k m n xs e)

pub get_in : {X Y : Type 0} (g : X → Y) (xs : List X) (i : ℕ) (d : X) → get_or (map g xs) i (g d) ≡ g (get_or xs i d)
get_in g [] i d = refl
get_in g (x ∷ xs) zero d = refl
get_in g (x ∷ xs) (suc i) d = get_in g xs i d

last_in : {X Y : Type 0} (g : X → Y) (k : X → X) (m : Y → Y) (xs : List X) → ((x : X) → m (g x) ≡ g (k x)) → at_last m (map g xs) ≡ map g (at_last k xs)
last_in g k m [] e = refl
last_in g k m (x ∷ []) e = ap (λ y. y ∷ []) (e x)
last_in g k m (x ∷ y ∷ ys) e = ap (λ l. g x ∷ l) (last_in g k m (y ∷ ys) e)

-- a job
pub acts_in : {A B : Type 0} (f : A → B) (act : Act A) (v : Job A) → acted (outline_act f act) (job_in f v) ≡ job_in f (acted act v)
acts_in f Granted v = refl
acts_in {A} {B} f (Began name count) v = ap (λ (fs : List (File B)). record (job_in f v) { files = fs }) (sym (map-append (file_in f) v.files _))
acts_in {A} {B} f (Put file number page) v =
    ap (λ (fs : List (File B)). record (job_in f v) { lent = false; files = fs })
    (last_in (file_in f) (λ (x : File A). record x { pages = x.pages ++ page ∷ [] }) (λ (x : File B). record x { pages = x.pages ++ f page ∷ [] }) v.files
    (λ x. ap (λ (ps : List B). record (file_in f x) { pages = ps }) (sym (map-append f x.pages (page ∷ [])))))
acts_in {A} {B} f (FileEnded file whole) v =
    ap (λ (fs : List (File B)). record (job_in f v) { files = fs })
    (last_in (file_in f) (λ (x : File A). record x { ended = true }) (λ (x : File B). record x { ended = true }) v.files (λ x. refl))
acts_in f _ v = refl

turns_in : {A B : Type 0} (f : A → B) (turn : Turn) (v : Job A) → turned turn (job_in f v) ≡ job_in f (turned turn v)
turns_in f (Printed Going) v = refl
turns_in f _ v = refl

if_in : {X Y : Type 0} (g : X → Y) (b : Bool) (x y : X) (x' : Y) → x' ≡ g x → cond b x' (g y) ≡ g (cond b x y)
if_in g true x y x' e = e
if_in g false x y x' e = refl

pub change_in : {A B : Type 0} (f : A → B) (e : Event A) (v : Job A) → change (outline_event f e) (job_in f v) ≡ job_in f (change e v)
change_in f (OfJob k act) v = if_in (job_in f) (k == v.number) (acted act v) v _ (acts_in f act v)
change_in f (AtPrinter p sheet turn) v = if_in (job_in f) (sheet.job == v.number) (turned turn v) v _ (turns_in f turn v)
change_in f (Removed q jobs) v = if_in (job_in f) (list_any (λ k. k == v.number) jobs) (record v { ended = true }) v _ refl
change_in f _ v = refl

pub keep_in : {X Y : Type 0} (g : X → Y) (b : Bool) (x : X) (xs : List X) (ys : List Y) → ys ≡ map g xs → cond b (g x ∷ ys) ys ≡ map g (cond b (x ∷ xs) xs)
keep_in g true x xs ys e = ap (λ l. g x ∷ l) e
keep_in g false x xs ys e = e

held_in : {A B : Type 0} (f : A → B) (vs : List (Job A)) → filter is_held (map (job_in f) vs) ≡ map (job_in f) (filter is_held vs)
held_in f [] = refl
held_in f (v ∷ vs) = keep_in (job_in f) (is_held v) v (filter is_held vs) _ (held_in f vs)

accepted_in : {A B : Type 0} (f : A → B) (e : Event A) → accepted_by (outline_event f e) ≡ map (job_in f) (accepted_by e)
accepted_in f (Opened k s q) = refl
accepted_in f _ = refl

accepted_count : {A B : Type 0} (f : A → B) (e : Event A) → length (accepted_by (outline_event f e)) ≡ length (accepted_by e)
accepted_count f e = ap length (accepted_in f e) ∙ length-map (accepted_by e) (job_in f)

accepted_reserve : {A B : Type 0} (f : A → B) (c : Config) (e : Event A) → sum_by (λ (j : Job B). reserve_of c j.queue) (accepted_by (outline_event f e)) ≡ sum_by (λ (j : Job A). reserve_of c j.queue) (accepted_by e)
accepted_reserve f c (Opened k s q) = refl
accepted_reserve f c _ = refl

-- the printers
pub printer_at_in : {A B : Type 0} (f : A → B) (v : State A) (p : ℕ) → printer_at (state_in f v) p ≡ printer_in f (printer_at v p)
printer_at_in f v p = get_in (printer_in f) (no_printer ∷ v.printers) p no_printer

printer_turned_in : {A B : Type 0} (f : A → B) (sheet : Sheet A) (turn : Turn) (p : Printer A) → printer_turned (outline_sheet f sheet) turn (printer_in f p) ≡ printer_in f (printer_turned sheet turn p)
printer_turned_in f sheet Handed p = refl
printer_turned_in f sheet _ p = refl

printers_in : {A B : Type 0} (f : A → B) (e : Event A) (v : State A) → printers_after (outline_event f e) (state_in f v) ≡ map (printer_in f) (printers_after e v)
printers_in {A} {B} f (AtPrinter p sheet turn) v =
    ap (λ (x : Printer B). set (map (printer_in f) v.printers) (p - 1) (printer_turned (outline_sheet f sheet) turn x)) (printer_at_in f v p)
    ∙ (ap (λ (x : Printer B). set (map (printer_in f) v.printers) (p - 1) x) (printer_turned_in f sheet turn (printer_at v p))
    ∙ sym (map-set (printer_in f) v.printers (p - 1) (printer_turned sheet turn (printer_at v p))))
printers_in f (Started q) v = map_both _ (printer_in f) (printer_in f) _ v.printers (λ p. if_in (printer_in f) (p.queue == q) (record p { stopped = false }) p _ refl)
printers_in f _ v = refl

closed_in : {A B : Type 0} (f : A → B) (e : Event A) (b : Bool) → closed_after (outline_event f e) b ≡ closed_after e b
closed_in f (Opened k s q) b = refl
closed_in f _ b = refl

jobs_in : {A B : Type 0} (f : A → B) (e : Event A) (v : State A) → filter is_held (map (change (outline_event f e)) (map (job_in f) v.jobs)) ++ accepted_by (outline_event f e) ≡ map (job_in f) (filter is_held (map (change e) v.jobs) ++ accepted_by e)
jobs_in f e v =
    ap₂ (λ xs ys. xs ++ ys) (ap (filter is_held) (map_both (change (outline_event f e)) (job_in f) (job_in f) (change e) v.jobs (change_in f e)) ∙ held_in f (map (change e) v.jobs)) (accepted_in f e)
    ∙ sym (map-append (job_in f) (filter is_held (map (change e) v.jobs)) (accepted_by e))

-- the step of an event
pub after_in : {A B : Type 0} (f : A → B) (e : Event A) (v : State A) → after (outline_event f e) (state_in f v) ≡ state_in f (after e v)
after_in f e v =
    all_same v.config _ _ _ _ _ _ _ _ _ _ (jobs_in f e v) (ap (λ n. v.accepted + n) (accepted_count f e)) (ap (λ n. v.reserved + n) (accepted_reserve f v.config e))
    (printers_in f e v) (closed_in f e v.closed)
