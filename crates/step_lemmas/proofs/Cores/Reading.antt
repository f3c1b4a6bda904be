-- What the readers of a core say.
use Rattle.std.proofs.Common.{◌≡◌, ◌≢◌, ◌==◌, ℕ, ◌-◌, ◌<◌, ◌≤◌, Bool, true, false, cond, List, length, filter, map, refl, sym, ◌∙◌, ap, arith}
use Rattle.std.specs.Prelude.{◌&&◌, All, Option, None, Some, count_by, is_some}
use Rattle.std.proofs.lemmas.List.{length_push}
use Rattle.std.proofs.lemmas.List.Sums.{count_by-le-length, length-filter}
use Rattle.lpd_values.specs.declared.refusal.Refusal.TheVariants.{ControlTwice, NotOpen}
use Rattle.page_pool.specs.Page.{Pages}
use Rattle.held_jobs.specs.declared.file.DataFile.{DataFile}
use Rattle.held_jobs.specs.declared.phase.Phase.TheVariants.{Receiving}
use Rattle.held_jobs.specs.Jobs.{HeldJob, Facts, last_size}
use Rattle.held_jobs.specs.Shown.{ShownJob, see_job}
use Rattle.config_values.specs.Config.{Config, printer_count}
use Rattle.config_values.specs.Ranges.{IsConfig}
use Rattle.config_values.proofs.Printers.{few_printers}
use Rattle.spool_history.specs.Base.{Base}
use Rattle.spool_history.specs.Events.{Event, Sheet}
use Rattle.spool_history.specs.Acts.{is_open_in}
use Rattle.spool_history.specs.Now as N
use Rattle.spool_history.specs.Now.{Job, State, free_pages}
use Rattle.spool_history.specs.Legal.{HasOpen, IsReceiving}
use Rattle.spool_history.specs.Refusals.{MayControl, RefusesControl}
use Rattle.spool_laws.specs.Sums.{at_printers}
use Rattle.spool_laws.proofs.Known.{clash}
use Rattle.spool_laws.proofs.Adding.{sum_filter, sum_map, sum_same}
use Rattle.spool_laws.proofs.Apart.{each_has_a_place}
use Rattle.step_lemmas.proofs.HeldJobs.Standing.{has_here, has_job}
use Rattle.spool_calls.specs.declared.printer.Printer.{Printer}
use Rattle.spool_calls.specs.Looks.{Detail, What, size}
use Rattle.spool_calls.specs.Kept.{Kept, Leaves, left_by, look, shown_job, kept_out, kept_printer}
use Rattle.spool_calls.specs.Printers.{out_among}
use Rattle.spool_calls.specs.Stocks.{lent_among}
use Rattle.spool_calls.specs.Readers.{ArePlaced, HasOpenFile, IsOpenFile, placed, stopped_for}
use Rattle.spool_calls.specs.Telling.{stopped_in}
use Rattle.step_lemmas.proofs.Cores.Leaving.{Found, none_has, sees, look_at}
use Rattle.step_lemmas.proofs.Cores.Phases.{open_tie}
use Rattle.step_lemmas.proofs.Cores.Filing.{files_many, is_receiving, last_is, left_of, not_receiving, open_last}
use Rattle.step_lemmas.proofs.Cores.Printers.{printers_len}
use Rattle.step_lemmas.proofs.Cores.Starting.{is_stopped_for}

count_map : {X Y : Type 0} (p : Y → Bool) (f : X → Y) (xs : List X) → count_by p (map f xs) ≡ count_by (λ x. p (f x)) xs
count_map p f xs = sum_map (λ y. cond (p y) 1 0) f xs

out_kept : (d : Detail) (p : N.Printer (What d)) → is_some (kept_printer d p).out ≡ is_some p.out
out_kept d p = by p.out
  where
    by : (o : Option (Sheet (What d))) → is_some (kept_out d o) ≡ is_some o
    by None = refl
    by (Some s) = refl

-- the elements that pass both of two tests, one test after the other
two_tests : {X : Type 0} (p q : X → Bool) (xs : List X) → length (filter p (filter q xs)) ≡ count_by (λ x. q x && p x) xs
two_tests p q xs =
    length-filter p (filter q xs)
    ∙ (sum_filter (λ y. cond (p y) 1 0) q xs ∙ sum_same (λ y. cond (q y) (cond (p y) 1 0) 0) (λ y. cond (q y && p y) 1 0) xs (λ y. by (q y) (p y)))
  where
    one : Bool → ℕ
    one t = cond t 1 0

    by : (a b : Bool) → cond a (one b) 0 ≡ one (a && b)
    by true b = refl
    by false b = refl

lents : (d : Detail) (c : Config) (js : List HeldJob) (xs : List (Job (What d))) → map (see_job (look d)) js ≡ map (shown_job c) xs → lent_among js ≡ count_by (λ (x : Job (What d)). x.lent) xs
lents d c js xs e =
    sym (count_map (λ (s : ShownJob (What d)). s.facts.lent) (see_job (look d)) js)
    ∙ (ap (count_by (λ (s : ShownJob (What d)). s.facts.lent)) e ∙ count_map (λ (s : ShownJob (What d)). s.facts.lent) (shown_job c) xs)

stopped_counted : (q : ℕ) (printers : List Printer) → length (stopped_in q printers) ≡ count_by (is_stopped_for q) printers
stopped_counted q printers = two_tests (λ (p : Printer). p.stopped) (λ (p : Printer). p.queue == q) printers

module _ (d : Detail) (b : Base) (h : List (Event (What d))) (k : Kept) (l : Leaves d b h k) where
  abbrev v : State (What d)
  v = left_by d b h k

  pub reads_free : k.pool.free ≡ free_pages v
  reads_free = ap (λ (p : Pages). p.free) l.kept.pool

  pub reads_stopped : (q : ℕ) → length (stopped_in q k.printers) ≡ stopped_for d b h k q
  reads_stopped q =
      stopped_counted q k.printers ∙ (ap (count_by (is_stopped_for q)) l.kept.printers ∙ count_map (is_stopped_for q) (kept_printer d) v.printers)

  reads_out : out_among k.printers ≡ at_printers v
  reads_out =
      ap out_among l.kept.printers
      ∙ (count_map (λ (p : Printer). is_some p.out) (kept_printer d) v.printers ∙ ap (λ (p : N.Printer (What d) → Bool). count_by p v.printers) (λ i p. out_kept d p i))

  pub places_read : (free chain session printer : ℕ) → free ≡ k.pool.free → chain ≡ k.book.stored → session ≡ lent_among k.book.jobs → printer ≡ out_among k.printers → ArePlaced d b h k (placed free chain session printer)
  places_read free chain session printer ef ec es ep =
      let f = ef ∙ reads_free in
      let c = ec ∙ l.kept.book.stored in
      let s = es ∙ lents d k.config k.book.jobs v.jobs l.kept.book.jobs in
      let p = ep ∙ reads_out in
      let all = each_has_a_place (size d) k.config b h l.legal in
      record { free_is = f; chain_is = c; session_is = s; printer_is = p; all = omega (arith, f, c, s, p, all) }

  pub refuses_none : (job : ℕ) → All (λ (j : HeldJob). j.facts.number ≢ job) k.book.jobs → RefusesControl (left_by d b h k) job NotOpen
  refuses_none job none m = none_has d b h k job IsReceiving l none m

  pub no_file_of : (job : ℕ) → All (λ (j : HeldJob). j.facts.number ≢ job) k.book.jobs → HasOpenFile d b h k job → ⊥
  no_file_of job none m = none_has d b h k job (λ x. IsReceiving x × (is_open_in x.files ≡ true)) l none m

module _ (d : Detail) (b : Base) (h : List (Event (What d))) (k : Kept) (l : Leaves d b h k) (job i : ℕ) (f : Found k job i) where
  open look_at d b h k i use {v as w, x, j}
  open sees d b h k job i l f use {stands as s, ties, facts as ft}

  pub may_control : j.facts.phase ≡ Receiving → j.facts.control ≡ None → MayControl (left_by d b h k) job
  may_control p n =
      has_job w i job (λ y. IsReceiving y × (y.control ≡ None)) s (is_receiving d b h k l job i f p, sym (ap (λ (g : Facts). g.control) ft) ∙ n)

  pub refuses_unreceived : (j.facts.phase ≡ Receiving → ⊥) → RefusesControl (left_by d b h k) job NotOpen
  refuses_unreceived never m = not_receiving d b h k l job i f never (has_here (size d) k.config b h i job IsReceiving l.legal s m)

  pub refuses_twice : j.facts.phase ≡ Receiving → (j.facts.control ≡ None → ⊥) → RefusesControl (left_by d b h k) job ControlTwice
  refuses_twice p some =
      has_job w i job (λ y. IsReceiving y × (y.control ≡ None → ⊥)) s (is_receiving d b h k l job i f p, λ n. some (ap (λ (g : Facts). g.control) ft ∙ n))

  here : HasOpenFile d b h k job → IsReceiving x × (is_open_in x.files ≡ true)
  here m = has_here (size d) k.config b h i job (λ y. IsReceiving y × (is_open_in y.files ≡ true)) l.legal s m

  pub no_file_unreceived : (j.facts.phase ≡ Receiving → ⊥) → HasOpenFile d b h k job → ⊥
  no_file_unreceived never m = not_receiving d b h k l job i f never (here m).0

  pub no_file_open : j.chain.is_open ≡ false → HasOpenFile d b h k job → ⊥
  no_file_open e m =
      let r = here m in
      clash j.chain.is_open (open_tie (look d) k.config j x ties r.0 ∙ r.1) e

  -- the open file of a job, with which its data files end
  pub record LastFile : Type 0 where
    pub some : 0 < length j.facts.files
    pub is : IsOpenFile d b h k job (length j.facts.files - 1) (last_size j.facts.files).pages

  pub last_file : j.facts.phase ≡ Receiving → j.chain.is_open ≡ true → LastFile
  last_file p o =
      let g = open_last d b h k l job i f p o in
      let m = files_many d b h k l job i f in
      let n = ap length g.is ∙ length_push g.before g.last in
      let pages : length g.last.pages ≡ (last_size j.facts.files).pages = sym (ap (λ (y : DataFile). y.pages) (left_of d b h k l job i f g.before g.last g.is)) in
      record {
        some = omega (arith, m, n);
        is = has_job w i job (λ y. IsReceiving y × HasOpen y.files (length j.facts.files - 1) (λ e. length e.pages ≡ (last_size j.facts.files).pages)) s
            (is_receiving d b h k l job i f p, (g.before, g.last, g.is, sym (last_is d b h k l job i f g.before g.last g.is), g.open', pages));
      }

-- there aren't many printers
pub few_stopped : (d : Detail) (b : Base) (h : List (Event (What d))) (k : Kept) → Leaves d b h k → IsConfig k.config → (q : ℕ) → length (stopped_in q k.printers) ≤ 1024
few_stopped d b h k l ranges q =
    let m = few_printers k.config.pages k.config.queues k.config.queues (printer_count k.config) ranges.queues ranges.few_queues refl refl in
    omega (arith, printers_len d b h k l, m, stopped_counted q k.printers, count_by-le-length (is_stopped_for q) k.printers)
