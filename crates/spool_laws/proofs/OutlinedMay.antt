-- The conditions of an event carry over to the outline of a history, so that this is legal.
use Rattle.std.proofs.Common.{inl, inr, ◌≡◌, ℕ, ◌+◌, ◌<◌, List, [], ◌∷◌, map, refl, sym, ◌∙◌, ap, subst}
use Rattle.std.specs.Prelude.{Contains, Some, option_map}
use Rattle.std.specs.List.{AllByRecursion}
use Rattle.std.proofs.lemmas.List.{map-append, length-map}
use Rattle.lpd_values.specs.Kept.{is_among}
use Rattle.spool_history.specs.Base.{Base}
use Rattle.spool_history.specs.Events.{Act, Event, Sheet, Turn}
use Rattle.spool_history.specs.Events.Act.{Granted, Began, Put, FileEnded, Controlled, Aborted}
use Rattle.spool_history.specs.Events.Turn.{Handed, Printed, Failed}
use Rattle.spool_history.specs.Events.Event.{Opened, OfJob, AtPrinter, Removed, Started, Closed}
use Rattle.config_values.specs.Config.{Config, printer_count}
use Rattle.spool_history.specs.Acts.{File}
use Rattle.spool_history.specs.Now.{Job, Printer, State, now, is_received, printer_of, up_to, IsSafeNow}
use Rattle.spool_history.specs.Next.{printer_at}
use Rattle.spool_history.specs.Steps.{after, acted}
use Rattle.spool_history.specs.Legal.{HasJob, IsReceiving, HasOpen, JobMay, MayGrant, ActMay, MayAct, MayTurn, MayBeRemoved, May, IsLegal}
use Rattle.spool_laws.specs.Outline.{outline, outline_act, outline_event, outline_sheet}
use Rattle.spool_laws.proofs.Moves.{moved}
use Rattle.spool_laws.proofs.Outlined.{file_in, job_in, printer_in, state_in, get_in, acts_in, printer_at_in, after_in}
use Rattle.spool_laws.proofs.OutlinedNext.{next_in, open_files_in, names_in_in, received_in, progress_in, free_in, safe_in, next_page_in}

contains_in : {X Y : Type 0} (g : X → Y) (xs : List X) (x : X) → Contains xs x → Contains (map g xs) (g x)
contains_in g xs x c = (c.0, subst (λ n. c.0 < n) (sym (length-map xs g)) c.1, get_in g xs c.0 x ∙ ap g c.2)

has_in : {A B : Type 0} (f : A → B) (vs : List (Job A)) (j : ℕ) (P : Job A → Type 0) (Q : Job B → Type 0) → ((x : Job A) → P x → Q (job_in f x)) → HasJob vs j P → HasJob (map (job_in f) vs) j Q
has_in f vs j P Q k m = record { job = job_in f m.job; there = contains_in (job_in f) vs m.job m.there; number = m.number; is = k m.job m.is }

receiving_in : {A B : Type 0} (f : A → B) (v : Job A) → IsReceiving v → IsReceiving (job_in f v)
receiving_in f v r = (r.0, received_in f v ∙ r.1)

open_in : {A B : Type 0} (f : A → B) (files : List (File A)) (number : ℕ) (P : File A → Type 0) (Q : File B → Type 0) → ((x : File A) → P x → Q (file_in f x)) → HasOpen files number P → HasOpen (map (file_in f) files) number Q
open_in f files number P Q k m = (
  map (file_in f) m.0,
  file_in f m.1,
  ap (map (file_in f)) m.2 ∙ map-append (file_in f) m.0 (m.1 ∷ []),
  length-map m.0 (file_in f) ∙ m.3,
  m.4,
  k m.1 m.5,
)

acted_in : {A B : Type 0} (f : A → B) (act : Act A) (v : Job A) → is_received (acted (outline_act f act) (job_in f v)) ≡ is_received (acted act v)
acted_in f act v = ap is_received (acts_in f act v) ∙ received_in f (acted act v)

-- what an act asks of its job
job_in_may : {A B : Type 0} (f : A → B) (size : A → ℕ) (short : B → ℕ) → ((page : A) → short (f page) ≡ size page) → (c : Config) (act : Act A) (x : Job A) → JobMay size c act x → JobMay short c (outline_act f act) (job_in f x)
job_in_may f size short same c Granted x p = ((receiving_in f x p.0.0, open_files_in f x.files ∙ p.0.1, p.0.2), p.1)
job_in_may f size short same c (Began name count) x p = (
  receiving_in f x p.0,
  open_files_in f x.files ∙ p.1,
  ap (is_among name) (names_in_in f x.files) ∙ p.2,
  subst (λ n. n < 52) (sym (length-map x.files (file_in f))) p.3,
  p.4,
)
job_in_may f size short same c (Put file number page) x p = (
  receiving_in f x p.0,
  p.1,
  open_in f x.files file _ _ (λ y o. (length-map y.pages f ∙ o.0, o.1, same page ∙ o.2)) p.2,
)
job_in_may f size short same c (FileEnded file whole) x p = (
  receiving_in f x p.0,
  p.1,
  open_in f x.files file _ _ (λ y o. length-map y.pages f ∙ o) p.2,
  p.3 ∙ sym (acted_in f (FileEnded file whole) x),
)
job_in_may f size short same c (Controlled control whole) x p = (
  receiving_in f x p.0,
  p.1,
  p.2 ∙ sym (acted_in f (Controlled control whole) x),
)
job_in_may f size short same c Aborted x p = elim p [ inl r ↦ inl (receiving_in f x r) | inr e ↦ inr e ]

grant_in : {A B : Type 0} (f : A → B) (v : State A) (j : ℕ) → MayGrant v j → MayGrant (state_in f v) j
grant_in {A} {B} f v j m = (
  subst (λ n. 0 < n) (sym (free_in f v)) m.0,
  subst (λ (w : State B). IsSafeNow w) (sym (after_in f (OfJob j Granted) v)) (subst (λ (T : Type 0). T) (sym (safe_in f (after (OfJob j Granted) v))) m.1),
)

-- and what it asks beside that
act_may_in : {A B : Type 0} (f : A → B) (v : State A) (j : ℕ) (act : Act A) → ActMay v j act → ActMay (state_in f v) j (outline_act f act)
act_may_in f v j Granted m = grant_in f v j m
act_may_in f v j (Began name count) m = m
act_may_in f v j (Controlled control whole) m = m
act_may_in f v j _ m = tt

act_in : {A B : Type 0} (f : A → B) (size : A → ℕ) (short : B → ℕ) → ((page : A) → short (f page) ≡ size page) → (v : State A) (j : ℕ) (act : Act A) → MayAct size v j act → MayAct short (state_in f v) j (outline_act f act)
act_in f size short same v j act m = (has_in f v.jobs j _ _ (job_in_may f size short same v.config act) m.0, act_may_in f v j act m.1)

out_in : {A B : Type 0} (f : A → B) (v : State A) (p : ℕ) (sheet : Sheet A) → (printer_at v p).out ≡ Some sheet → (printer_at (state_in f v) p).out ≡ Some (outline_sheet f sheet)
out_in {A} {B} f v p sheet e = ap (λ (x : Printer B). x.out) (printer_at_in f v p) ∙ ap (option_map (outline_sheet f)) e

turn_in : {A B : Type 0} (f : A → B) (v : State A) (p : ℕ) (sheet : Sheet A) (turn : Turn) → MayTurn v p sheet turn → MayTurn (state_in f v) p (outline_sheet f sheet) turn
turn_in f v p sheet Handed m = next_page_in f v p ∙ ap (next_in f) m
turn_in f v p sheet (Printed progress) m = (out_in f v p sheet m.0, has_in f v.jobs sheet.job _ _ (λ x e. e ∙ sym (progress_in f x)) m.1)
turn_in f v p sheet Failed m = out_in f v p sheet m

removed_in : {A B : Type 0} (f : A → B) (v : State A) (q : ℕ) (jobs : List ℕ)
    → AllByRecursion (λ j. HasJob v.jobs j (MayBeRemoved q)) jobs
    → AllByRecursion (λ j. HasJob (map (job_in f) v.jobs) j (MayBeRemoved q)) jobs
removed_in f v q [] m = tt
removed_in f v q (j ∷ js) m = (has_in f v.jobs j _ _ (λ x p. (p.0, received_in f x ∙ p.1, p.2)) m.0, removed_in f v q js m.1)

may_in : {A B : Type 0} (f : A → B) (size : A → ℕ) (short : B → ℕ) → ((page : A) → short (f page) ≡ size page) → (v : State A) (e : Event A) → May size v e → May short (state_in f v) (outline_event f e)
may_in f size short same v (Opened j s q) m = (m.0, m.1, subst (λ n. n < v.config.max_jobs) (sym (length-map v.jobs (job_in f))) m.2, m.3, m.4, m.5)
may_in f size short same v (OfJob j act) m = act_in f size short same v j act m
may_in f size short same v (AtPrinter p sheet turn) m = (m.0, turn_in f v p sheet turn m.1)
may_in f size short same v (Removed q jobs) m = (m.0, m.1, m.2, m.3, removed_in f v q jobs m.4)
may_in {A} {B} f size short same v (Started q) m = (
  m.0,
  m.1,
  m.2,
  m.3,
  (ap (λ (x : Printer B). x.queue) (printer_at_in f v m.2) ∙ m.4.0, ap (λ (x : Printer B). x.stopped) (printer_at_in f v m.2) ∙ m.4.1),
)
may_in f size short same v Closed m = m

-- before the first event
starts_in : {A B : Type 0} (f : A → B) (c : Config) (base : Base) (ps : List ℕ) → map (printer_of c base []) ps ≡ map (printer_in f) (map (printer_of c base []) ps)
starts_in f c base [] = refl
starts_in f c base (p ∷ ps) = ap (λ l. printer_of c base [] p ∷ l) (starts_in f c base ps)

start_in : {A B : Type 0} (f : A → B) (c : Config) (base : Base) → now c base [] ≡ state_in f (now c base [])
start_in {A} {B} f c base =
    ap (λ (ps : List (Printer B)). record { config = c; jobs = []; accepted = base.accepted + 0; reserved = base.reserved + 0; printers = ps; closed = base.closed })
    (starts_in f c base (up_to (printer_count c)))

record Outlined {A B : Type 0} (f : A → B) (short : B → ℕ) (c : Config) (base : Base) (h : List (Event A)) : Type 0 where
  legal : IsLegal short c base (outline f h)
  here : now c base (outline f h) ≡ state_in f (now c base h)

outlined : {A B : Type 0} (f : A → B) (size : A → ℕ) (short : B → ℕ) → ((page : A) → short (f page) ≡ size page) → (c : Config) (base : Base) (h : List (Event A)) → IsLegal size c base h → Outlined f short c base h
outlined f size short same c base [] l = record { legal = tt; here = start_in f c base }
outlined {A} {B} f size short same c base (e ∷ h) l =
    let o = outlined f size short same c base h l.1 in
    let may : May short (now c base (outline f h)) (outline_event f e) = subst (λ (v : State B). May short v (outline_event f e)) (sym o.here) (may_in f size short same (now c base h) e l.0) in
    record {
      legal = (may, o.legal);
      here = moved short c base (outline f h) (outline_event f e) o.legal may ∙ (ap (after (outline_event f e)) o.here ∙ (after_in f e (now c base h) ∙ sym (ap (state_in f) (moved size c base h e l.1 l.0))));
    }

pub outline_legal : {A B : Type 0} (f : A → B) (size : A → ℕ) (short : B → ℕ) → ((page : A) → short (f page) ≡ size page) → (c : Config) (base : Base) (h : List (Event A)) → IsLegal size c base h → IsLegal short c base (outline f h)
outline_legal f size short same c base h l = (outlined f size short same c base h l).legal
