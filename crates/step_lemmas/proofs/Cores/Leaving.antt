-- Where one more event leaves a core.
use Rattle.std.proofs.Common.{true, false, ◌≡◌, ◌≢◌, ℕ, ◌+◌, ◌<◌, ◌≤◌, Bool, List, [], ◌∷◌, ◌++◌, length, get_or, set, map, refl, sym, ◌∙◌, ap, subst, arith}
use Rattle.std.specs.Prelude.{All, filter, remove, sum_by}
use Rattle.std.proofs.lemmas.List.{append-nil, get_or_default}
use Rattle.counts.specs.Amounts.{amount}
use Rattle.claims.specs.Claims.{Claims}
use Rattle.page_pool.specs.Page.{Pages}
use Rattle.held_jobs.specs.Jobs.{HeldJob}
use Rattle.held_jobs.specs.Jobs as J
use Rattle.held_jobs.specs.Books.{job_at, with_job}
use Rattle.held_jobs.specs.Shown.{ShownJob, see_job}
use Rattle.config_values.specs.Config.{Config, IsQueue, queue_named, reserve_of}
use Rattle.spool_history.specs.Base.{Base}
use Rattle.spool_history.specs.Events.{Act, Event}
use Rattle.spool_history.specs.Events.Event.{OfJob}
use Rattle.spool_history.specs.Now.{Job, State, is_held, row_of, pages_held}
use Rattle.spool_history.specs.Steps.{acted, change, after, accepted_by, printers_after, closed_after}
use Rattle.spool_history.specs.Refusals.{TakesJobs}
use Rattle.spool_history.specs.Legal.{HasJob, May}
use Rattle.spool_laws.specs.Sums.{chained_of}
use Rattle.spool_laws.proofs.Known.{Has}
use Rattle.spool_laws.proofs.Moves.{moved}
use Rattle.step_lemmas.specs.Standing.{no_job}
use Rattle.page_chain.specs.Files.{every_page}
use Rattle.step_lemmas.proofs.HeldJobs.Standing.{Stands, has_get}
use Rattle.step_lemmas.proofs.HeldJobs.Moving.{act_set}
use Rattle.claims.specs.Changes.{closed}
use Rattle.step_lemmas.proofs.Rows.Tables.{Here, WithRow, WithoutRow, closed_drops, same_leaves}
use Rattle.step_lemmas.proofs.Rows.Handing
use Rattle.spool_calls.specs.Stocks.{IsStockOf, Stock, stock, with_jobs}
use Rattle.step_lemmas.proofs.Cores.Stocks.{chain, even, len_of, may_end, one_gone, one_set, stock_of_other, tie_at, within}
use Rattle.spool_calls.specs.declared.printer.Printer.{Printer}
use Rattle.spool_calls.specs.Looks.{Detail, What, size}
use Rattle.spool_calls.specs.Kept.{Kept, IsKeptOf, Leaves, facts_of, left_by, look, shown_job, kept_printer}

-- what is kept of a core has such a stock
abbrev pub stock_of : Kept → Stock
stock_of k = stock k.book k.pool k.table

pub stock_left : (d : Detail) (b : Base) (h : List (Event (What d))) (k : Kept) → Leaves d b h k → IsStockOf d (left_by d b h k) (stock_of k)
stock_left d b h k l = record { book = l.kept.book; table = l.kept.table; pool = l.kept.pool }

-- what is free of the pool is what is free in the table
pub pool_even : (d : Detail) (b : Base) (h : List (Event (What d))) (k : Kept) → Leaves d b h k → k.pool.free ≡ amount k.table.free 0
pool_even d b h k l = even d (left_by d b h k) (stock_of k) (stock_left d b h k l)

-- one more legal event leaves a core with what is kept of its step
pub leaves_with : (d : Detail) (b : Base) (h : List (Event (What d))) (k : Kept) (e : Event (What d)) (s : Stock) (accepted reserved : ℕ) (printers : List Printer) (closed : Bool)
    → Leaves d b h k → May (size d) (left_by d b h k) e
    → IsStockOf d (after e (left_by d b h k)) s
    → accepted ≡ (after e (left_by d b h k)).accepted → reserved ≡ (after e (left_by d b h k)).reserved
    → printers ≡ map (kept_printer d) (printers_after e (left_by d b h k)) → closed ≡ closed_after e (left_by d b h k).closed
    → Leaves d b (e ∷ h) (record { config = k.config; pool = s.pool; book = s.book; table = s.table; accepted = accepted; reserved = reserved; printers = printers; closed = closed })
leaves_with d b h k e s accepted reserved printers closed l may is es rs prs cs =
    let k' : Kept = record { config = k.config; pool = s.pool; book = s.book; table = s.table; accepted = accepted; reserved = reserved; printers = printers; closed = closed } in
    let kept : IsKeptOf d (after e (left_by d b h k)) k' = record { book = is.book; table = is.table; pool = is.pool; accepted = es; reserved = rs; printers = prs; closed = cs } in
    record { legal = (may, l.legal); kept = subst (λ (u : State (What d)). IsKeptOf d u k') (sym (moved (size d) k.config b h e l.legal may)) kept }

-- a job that hasn't ended is held
pub held_unended : {C : Type 0} (x : Job C) → x.ended ≡ false → is_held x ≡ true
held_unended x e = rw e refl

-- the jobs after an event by which none is accepted
pub jobs_left : {C : Type 0} (v : State C) (e : Event C) (jobs : List (Job C)) → filter is_held (map (change e) v.jobs) ≡ jobs → accepted_by e ≡ [] → (after e v).jobs ≡ jobs
jobs_left {C} v e jobs is none =
    ap (λ (l : List (Job C)). filter is_held (map (change e) v.jobs) ++ l) none ∙ (append-nil (filter is_held (map (change e) v.jobs)) ∙ is)

-- a stock that is kept of the jobs after an event is kept of the state after it
pub stock_moved : (d : Detail) (v : State (What d)) (e : Event (What d)) (jobs : List (Job (What d))) (s : Stock) → (after e v).jobs ≡ jobs → IsStockOf d (with_jobs v jobs) s
    → IsStockOf d (after e v) s
stock_moved d v e jobs s is of =
    subst (λ (js : List (Job (What d))). IsStockOf d (record (after e v) { jobs = js }) s) (sym is) (stock_of_other d (with_jobs v jobs) (after e v) s of)

-- an event by which no job is accepted leaves the core with such a stock
pub leaves_stock : (d : Detail) (b : Base) (h : List (Event (What d))) (k : Kept) (e : Event (What d)) (jobs : List (Job (What d))) (s : Stock) (printers : List Printer) (closed : Bool)
    → Leaves d b h k → May (size d) (left_by d b h k) e
    → filter is_held (map (change e) (left_by d b h k).jobs) ≡ jobs → accepted_by e ≡ [] → IsStockOf d (with_jobs (left_by d b h k) jobs) s
    → printers ≡ map (kept_printer d) (printers_after e (left_by d b h k)) → closed ≡ closed_after e (left_by d b h k).closed
    → Leaves d b (e ∷ h) (record k { pool = s.pool; book = s.book; table = s.table; printers = printers; closed = closed })
leaves_stock d b h k e jobs s printers closed l may is none of prs cs =
    let v = left_by d b h k in
    let n : length (accepted_by e) ≡ 0 = ap length none in
    let r : sum_by (λ (j : Job (What d)). reserve_of v.config j.queue) (accepted_by e) ≡ 0 = ap (sum_by (λ (j : Job (What d)). reserve_of v.config j.queue)) none in
    let ka = l.kept.accepted in
    let kr = l.kept.reserved in
    leaves_with d b h k e s k.accepted k.reserved printers closed l may (stock_moved d v e jobs s (jobs_left v e jobs is none) of) (omega (arith, n, ka)) (omega (arith, r, kr)) prs cs

-- as many jobs in the book as are held
pub jobs_len : (d : Detail) (b : Base) (h : List (Event (What d))) (k : Kept) → Leaves d b h k → length k.book.jobs ≡ length (left_by d b h k).jobs
jobs_len d b h k l = len_of d (left_by d b h k) (stock_of k) (stock_left d b h k l)

-- the job at a place of the book, by its number
pub record Found (k : Kept) (job i : ℕ) : Type 0 where
  pub there : i < length k.book.jobs
  pub number' : (job_at k.book i).facts.number ≡ job

-- the job of the history at this place
abbrev pub job_of : (d : Detail) → Base → List (Event (What d)) → Kept → ℕ → Job (What d)
job_of d b h k i = get_or (left_by d b h k).jobs i no_job

-- the state that a history leaves, and the job at a place of it and of the book
pub record Looked (d : Detail) : Type 0 where
  pub v : State (What d)
  pub x : Job (What d)
  pub j : HeldJob

abbrev pub look_at : (d : Detail) → Base → List (Event (What d)) → Kept → ℕ → Looked d
look_at d b h k i = record { v = left_by d b h k; x = get_or (left_by d b h k).jobs i no_job; j = job_at k.book i }

-- what the book has of the job at a place is what the history says of it
pub tie : (d : Detail) (b : Base) (h : List (Event (What d))) (k : Kept) (i : ℕ) → Leaves d b h k → i < length k.book.jobs → see_job (look d) (job_at k.book i) ≡ shown_job k.config (job_of d b h k i)
tie d b h k i l lt = tie_at d (left_by d b h k) (stock_of k) (stock_left d b h k l) i (let n = jobs_len d b h k l in omega (arith, n, lt))

-- the job of this number at a place of the book, as the history has it
pub record Sees (d : Detail) (b : Base) (h : List (Event (What d))) (k : Kept) (job i : ℕ) : Type 0 where
  pub stands : Stands (left_by d b h k).jobs i job
  pub has : Has (job_of d b h k i) (left_by d b h k).jobs
  pub ties : see_job (look d) (job_at k.book i) ≡ shown_job k.config (job_of d b h k i)
  pub facts : (job_at k.book i).facts ≡ facts_of k.config (job_of d b h k i)

pub sees : (d : Detail) (b : Base) (h : List (Event (What d))) (k : Kept) (job i : ℕ) → Leaves d b h k → Found k job i → Sees d b h k job i
sees d b h k job i l f =
    let t = tie d b h k i l f.there in
    let there : i < length (left_by d b h k).jobs = (let n = jobs_len d b h k l in let lt = f.there in omega (arith, n, lt)) in
    record {
      stands = record { there = there; number' = sym (ap (λ (j : ShownJob (What d)). j.facts.number) t) ∙ f.number' };
      has = has_get (left_by d b h k).jobs i no_job there;
      ties = t;
      facts = ap (λ (s : ShownJob (What d)). s.facts) t;
    }

-- where none of the book has this number, nothing holds of a held job of that number
pub none_has : (d : Detail) (b : Base) (h : List (Event (What d))) (k : Kept) (number : ℕ) (P : Job (What d) → Type 0) → Leaves d b h k → All (λ (j : HeldJob). j.facts.number ≢ number) k.book.jobs → HasJob (left_by d b h k).jobs number P → ⊥
none_has d b h k number P l a m =
    let jobs = (left_by d b h k).jobs in
    let i = m.there.0 in
    let there : i < length jobs = m.there.1 in
    let lt : i < length k.book.jobs = omega (arith, jobs_len d b h k l, there) in
    let at : get_or jobs i no_job ≡ m.job = get_or_default jobs i no_job m.job there ∙ m.there.2 in
    a i J.no_job lt (ap (λ (j : ShownJob (What d)). j.facts.number) (tie d b h k i l lt) ∙ (ap (λ (x : Job (What d)). x.number) at ∙ m.number))

-- the row of the job at a place
pub row_stands : (d : Detail) (b : Base) (h : List (Event (What d))) (k : Kept) (i : ℕ) → Leaves d b h k → i < length (left_by d b h k).jobs → Here k.table i (row_of k.config (job_of d b h k i))
row_stands d b h k i l lt = Rattle.step_lemmas.proofs.Rows.Handing.row_stands k.table (left_by d b h k) i l.kept.table lt

-- an event that changes one job and its row
pub leaves_row : (d : Detail) (b : Base) (h : List (Event (What d))) (k : Kept) (e : Event (What d)) (i n pages : ℕ) (x : Job (What d)) (j : HeldJob) (t : Claims) (printers : List Printer)
    → Leaves d b h k → May (size d) (left_by d b h k) e
    → filter is_held (map (change e) (left_by d b h k).jobs) ≡ set (left_by d b h k).jobs i x → i < length (left_by d b h k).jobs → accepted_by e ≡ []
    → closed_after e (left_by d b h k).closed ≡ (left_by d b h k).closed
    → see_job (look d) j ≡ shown_job k.config x → n + chained_of (job_of d b h k i) ≡ k.book.stored + chained_of x
    → WithRow k.table t i (row_of k.config x) pages
    → printers ≡ map (kept_printer d) (printers_after e (left_by d b h k))
    → Leaves d b (e ∷ h) (record k { pool = record k.pool { free = pages }; book = record (with_job k.book i j) { stored = n }; table = t; printers = printers })
leaves_row d b h k e i n pages x j t printers l may jobs lt none closed tie many w prs =
    let v = left_by d b h k in
    leaves_stock d b h k e (set v.jobs i x) (stock (record (with_job k.book i j) { stored = n }) (record k.pool { free = pages }) t) printers k.closed l may jobs none
    (one_set d v (stock_of k) (stock_left d b h k l) i lt x j n pages t tie many w) prs (l.kept.closed ∙ sym closed)

-- an act of one job, which goes on, that changes neither its row nor the pool
pub leaves_act : (d : Detail) (b : Base) (h : List (Event (What d))) (k : Kept) (job i n : ℕ) (act : Act (What d)) (j : HeldJob)
    → Leaves d b h k → Stands (left_by d b h k).jobs i job → May (size d) (left_by d b h k) (OfJob job act) → (acted act (job_of d b h k i)).ended ≡ false
    → see_job (look d) j ≡ shown_job k.config (acted act (job_of d b h k i)) → n + chained_of (job_of d b h k i) ≡ k.book.stored + chained_of (acted act (job_of d b h k i))
    → row_of k.config (acted act (job_of d b h k i)) ≡ row_of k.config (job_of d b h k i)
    → Leaves d b (OfJob job act ∷ h) (record k { book = record (with_job k.book i j) { stored = n } })
leaves_act d b h k job i n act j l s may goes tie many row =
    let x = job_of d b h k i in
    let w = same_leaves k.table i (row_of k.config x) (row_of k.config (acted act x)) (row_stands d b h k i l s.there) row in
    leaves_row d b h k (OfJob job act) i n k.pool.free (acted act x) j k.table k.printers l may
    (act_set (size d) k.config b h i job act l.legal s (held_unended (acted act x) goes)) s.there refl refl tie many
    (subst (λ (m : ℕ). WithRow k.table k.table i (row_of k.config (acted act x)) m) (sym (pool_even d b h k l)) w) l.kept.printers

-- an event by which one job goes with its row
pub leaves_out : (d : Detail) (b : Base) (h : List (Event (What d))) (k : Kept) (e : Event (What d)) (i n pages : ℕ) (t : Claims) (printers : List Printer)
    → Leaves d b h k → May (size d) (left_by d b h k) e
    → filter is_held (map (change e) (left_by d b h k).jobs) ≡ remove (left_by d b h k).jobs i → i < length (left_by d b h k).jobs → accepted_by e ≡ []
    → closed_after e (left_by d b h k).closed ≡ (left_by d b h k).closed
    → n + chained_of (job_of d b h k i) ≡ k.book.stored
    → WithoutRow k.table t i pages
    → printers ≡ map (kept_printer d) (printers_after e (left_by d b h k))
    → Leaves d b (e ∷ h) (record k { pool = record k.pool { free = pages }; book = record k.book { jobs = remove k.book.jobs i; stored = n }; table = t; printers = printers })
leaves_out d b h k e i n pages t printers l may jobs lt none closed many w prs =
    let v = left_by d b h k in
    leaves_stock d b h k e (remove v.jobs i) (stock (record k.book { jobs = remove k.book.jobs i; stored = n }) (record k.pool { free = pages }) t) printers k.closed l may jobs none
    (one_gone d v (stock_of k) (stock_left d b h k l) i lt n pages t many w) prs (l.kept.closed ∙ sym closed)

-- the row of the job at a place closed: the pages that the job held are free
pub closed_free : (d : Detail) (b : Base) (h : List (Event (What d))) (k : Kept) (i : ℕ) → Leaves d b h k → i < length (left_by d b h k).jobs → WithoutRow k.table (closed k.table i) i (k.pool.free + pages_held (job_of d b h k i))
closed_free d b h k i l lt =
    let x = job_of d b h k i in
    subst (λ (n : ℕ). WithoutRow k.table (closed k.table i) i (n + pages_held x)) (sym (pool_even d b h k l)) (closed_drops k.table i (row_of k.config x) (row_stands d b h k i l lt))

-- the pages of one job are among those that are stored
pub one_stored : (d : Detail) (b : Base) (h : List (Event (What d))) (k : Kept) (i : ℕ) → Leaves d b h k → i < length (left_by d b h k).jobs → chained_of (job_of d b h k i) ≤ k.book.stored
one_stored d b h k i l lt = within d (left_by d b h k) (stock_of k) (stock_left d b h k l) i lt

-- the pages of a job in the book are as many as the history says that it has in its chain
pub every_counted : (d : Detail) (b : Base) (h : List (Event (What d))) (k : Kept) (i : ℕ) → Leaves d b h k → i < length k.book.jobs → length (every_page (job_at k.book i).chain.files) ≡ chained_of (job_of d b h k i)
every_counted d b h k i l lt =
    let v = left_by d b h k in
    let there : i < length v.jobs = (let n = jobs_len d b h k l in omega (arith, n, lt)) in
    chain d v (stock_of k) (stock_left d b h k l) i there (may_end (size d) k.config b h (job_of d b h k i) l.legal (has_get v.jobs i no_job there))

-- what a job holds has room in the pool beside what is free
pub held_room : (d : Detail) (b : Base) (h : List (Event (What d))) (k : Kept) (i : ℕ) → Leaves d b h k → i < length (left_by d b h k).jobs → k.pool.free + pages_held (job_of d b h k i) ≤ k.pool.pages
held_room d b h k i l lt =
    let w = closed_free d b h k i l lt in
    omega (arith, w.table.adds_up 0, w.free, ap (λ (m : List ℕ). amount m 0) (w.capacity ∙ l.kept.table.capacity), ap (λ (p : Pages). p.pages) l.kept.pool)

-- the queue that a call names
pub is_queue_named : (c : Config) (name : List ℕ) (q : ℕ) → queue_named c name ≡ q → IsQueue c q → IsQueue c (queue_named c name)
is_queue_named c name q e is = subst (λ (n : ℕ). IsQueue c n) (sym e) is

module _ (d : Detail) (b : Base) (h : List (Event (What d))) (k : Kept) (l : Leaves d b h k) where
  pub is_open : k.closed ≡ false → (left_by d b h k).closed ≡ false
  is_open c = sym l.kept.closed ∙ c

  pub takes : (name : List ℕ) (q : ℕ) → k.closed ≡ false → queue_named k.config name ≡ q → IsQueue k.config q → TakesJobs (left_by d b h k) (queue_named k.config name)
  takes name q c e is = (is_open c, is_queue_named k.config name q e is)
