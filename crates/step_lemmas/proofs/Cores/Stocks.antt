-- A job ends in the book, the pool and the table of a core.
use Rattle.std.proofs.Common.{◌≡◌, ◌==◌, ℕ, zero, suc, [], ◌∷◌, ◌+◌, ◌-◌, ◌<◌, ◌≤◌, Bool, true, false, List, length, get_or, set, map, refl, sym, ◌∙◌, ap, subst, arith}
use Rattle.std.specs.Prelude.{not, cond, remove, sum_by}
use Rattle.std.proofs.lemmas.Bool.{or_parts}
use Rattle.std.proofs.lemmas.List.{map-set, get_or-map, length-map, set-get_or}
use Rattle.std.proofs.lemmas.List.Sums.{sum_by-set, sum_by-remove, get_or-le-sum_by}
use Rattle.std.proofs.lemmas.Bool.Decides.{nat_tests}
use Rattle.counts.specs.Amounts.{amount}
use Rattle.claims.specs.declared.row.Row.{Row}
use Rattle.claims.specs.Claims.{Claims, IsTable}
use Rattle.claims.specs.Changes.{closed, given_back, need_ended}
use Rattle.page_pool.specs.Page.{Pages}
use Rattle.held_jobs.specs.Jobs.{HeldJob, Facts}
use Rattle.held_jobs.specs.Jobs as J
use Rattle.held_jobs.specs.Books.{job_at, with_job}
use Rattle.held_jobs.specs.Moves.{drained_job}
use Rattle.held_jobs.specs.Shown.{ShownJob, see_job}
use Rattle.held_jobs.specs.Turns.{is_ended}
use Rattle.config_values.specs.Config.{Config}
use Rattle.spool_history.specs.Base.{Base}
use Rattle.spool_history.specs.Events.{Event}
use Rattle.spool_history.specs.Now.{Job, State, now, is_held, is_received, has_page_out, pages_held, pages_out, row_of}
use Rattle.spool_history.specs.Legal.{IsLegal}
use Rattle.spool_laws.specs.Sums.{chained_of}
use Rattle.spool_laws.proofs.Known.{Has}
use Rattle.step_lemmas.specs.Standing.{no_job}
use Rattle.spool_history.specs.Claimed.{IsTableOf}
use Rattle.step_lemmas.proofs.HeldJobs.Standing.{all_held}
use Rattle.step_lemmas.proofs.HeldJobs.Holding.{back_within, handed_within, held_counts, one_is_out}
use Rattle.step_lemmas.proofs.HeldJobs.Claimed.{table_free, rows_len}
use Rattle.step_lemmas.proofs.HeldJobs.Queued.{job_queued}
use Rattle.step_lemmas.proofs.OneJob.Ties.{ties_ended}
use Rattle.step_lemmas.proofs.OneJob.Stored.{stored}
use Rattle.step_lemmas.proofs.Rows.Tables.{Here, WithRow, WithoutRow, closed_drops, here_held, room_for}
use Rattle.step_lemmas.proofs.Rows.Amounts.{queue_kind}
use Rattle.step_lemmas.proofs.Rows.Handing.{row_stands}
use Rattle.step_lemmas.proofs.Rows.Receiving.{held_in_row}
use Rattle.spool_calls.specs.Stocks.{CanEnd, is_out, IsStockOf, MayEnd, pages_at, Stock, stock, stock_after, stock_ended, stock_gone, with_jobs}
use Rattle.step_lemmas.proofs.Rows.Ending.{ended_leaves, ended_same}
use Rattle.spool_calls.specs.Looks.{Detail, What}
use Rattle.spool_calls.specs.Kept.{look, shown_job}
use Rattle.step_lemmas.proofs.Cores.Phases.{ended_is, facts_tie, phase_tie}

-- a job that has ended
abbrev pub ended_job : {C : Type 0} → Job C → Job C
ended_job x = record x { ended = true }

pub may_end : {C : Type 0} (size : C → ℕ) (c : Config) (b : Base) (h : List (Event C)) (x : Job C) → IsLegal size c b h → Has x (now c b h).jobs → MayEnd c x
may_end size c b h x l has = record {
  held = all_held c b h x has;
  adds_up = held_counts size c b h x l has;
  queued = job_queued size c b h x l has;
  back = back_within size c b h x l has;
  out = one_is_out size c b h x l has;
  within = handed_within size c b h x l has;
}

-- what the job becomes among these
abbrev pub end_place : {C : Type 0} → List (Job C) → ℕ → List (Job C)
end_place jobs i =
    cond (is_held (ended_job (get_or jobs i no_job))) (set jobs i (ended_job (get_or jobs i no_job))) (remove jobs i)

none_out : {C : Type 0} (x : Job C) → has_page_out x ≡ false → pages_out x ≡ 0
none_out x e =
    let p = or_parts x.lent (not (x.handed == x.back)) e in
    let same : x.handed ≡ x.back = (let q = p.1 in grind (arith, nat_tests)) in
    rw p.0 (omega arith)

map_remove : {X Y : Type 0} (f : X → Y) (xs : List X) (i : ℕ) → map f (remove xs i) ≡ remove (map f xs) i
map_remove f [] zero = refl
map_remove f [] (suc i) = refl
map_remove f (x ∷ xs) zero = refl
map_remove {X} {Y} f (x ∷ xs) (suc i) = ap (λ (l : List Y). f x ∷ l) (map_remove f xs i)

-- a stock is kept of each state with the same configuration and jobs
pub stock_of_other : (d : Detail) (v w : State (What d)) (s : Stock) → IsStockOf d v s → IsStockOf d (record w { config = v.config; jobs = v.jobs }) s
stock_of_other d v w s is = record {
  book = record { jobs = is.book.jobs; stored = is.book.stored; max_jobs = is.book.max_jobs; pages = is.book.pages; page_size = is.book.page_size };
  table = record { table = is.table.table; rows = is.table.rows; capacity = is.table.capacity; room = is.table.room };
  pool = is.pool;
}

module _ (d : Detail) (v : State (What d)) (s : Stock) (is : IsStockOf d v s) where
  -- as many jobs in the book as in the state
  pub len_of : length s.book.jobs ≡ length v.jobs
  len_of = sym (length-map s.book.jobs (see_job (look d))) ∙ (ap length is.book.jobs ∙ length-map v.jobs (shown_job v.config))

  -- what is free of the pool is what is free in the table
  pub even : s.pool.free ≡ amount s.table.free 0
  even = ap (λ (p : Pages). p.free) is.pool ∙ sym (table_free s.table v is.table 0)

  -- the same stock with other jobs, with their rows and the pages in their chains
  pub becomes : (js : List (Job (What d))) (hs : List HeldJob) (m pages : ℕ) (u : Claims) → map (see_job (look d)) hs ≡ map (shown_job v.config) js → m ≡ sum_by (λ (z : Job (What d)). chained_of z) js
      → IsTable u → u.rows ≡ map (row_of v.config) js → u.capacity ≡ s.table.capacity → u.room ≡ s.table.room → amount u.free 0 ≡ pages
      → IsStockOf d (with_jobs v js) (stock (record s.book { jobs = hs; stored = m }) (record s.pool { free = pages }) u)
  becomes js hs m pages u jobs many t rows capacity room free =
      let table : IsTableOf u (with_jobs v js) = record { table = t; rows = rows; capacity = capacity ∙ is.table.capacity; room = room ∙ is.table.room } in
      record {
        book = record { jobs = jobs; stored = many; max_jobs = is.book.max_jobs; pages = is.book.pages; page_size = is.book.page_size };
        table = table;
        pool = ap (λ (p : Pages). record p { free = pages }) is.pool
            ∙ ap (λ (f : ℕ). record { page_size = v.config.page_size; pages = v.config.pages; free = f }) (sym free ∙ table_free u (with_jobs v js) table 0);
      }

module _ (d : Detail) (v : State (What d)) (s : Stock) (is : IsStockOf d v s) (i : ℕ) (lt : i < length v.jobs) where
  abbrev x : Job (What d)
  x = get_or v.jobs i no_job

  abbrev j : HeldJob
  j = job_at s.book i

  abbrev n : ℕ
  n = pages_at s.book i

  there : i < length s.book.jobs
  there = (let e = len_of d v s is in omega (arith, e, lt))

  pub tie_at : see_job (look d) j ≡ shown_job v.config x
  tie_at =
      let dummy = see_job (look d) J.no_job in
      sym (get_or-map (see_job (look d)) s.book.jobs i J.no_job dummy there)
      ∙ (ap (λ (m : List (ShownJob (What d))). get_or m i dummy) is.book.jobs
      ∙ get_or-map (shown_job v.config) v.jobs i no_job dummy lt)

  row : Here s.table i (row_of v.config x)
  row = row_stands s.table v i is.table lt

  same : s.pool.free ≡ amount s.table.free 0
  same = even d v s is

  -- so many pages are in its chain
  pub chain : MayEnd v.config x → n ≡ chained_of x
  chain m = stored (look d) v.config j x m.back m.out m.within tie_at

  -- they are among those that are stored
  pub within : chained_of x ≤ s.book.stored
  within = omega (arith, is.book.stored, get_or-le-sum_by (λ (q : Job (What d)). chained_of q) v.jobs i no_job lt)

  pub can_end : MayEnd v.config x → CanEnd s i
  can_end m =
      let c = v.config in
      let held = here_held s.table i (row_of c x) 0 row in
      let fits : n ≤ amount (row_of c x).held 0 = omega (arith, chain m, m.adds_up, held_in_row c x) in
      let room = room_for s.table i (row_of c x) 0 n row fits in
      let all : amount s.table.capacity 0 ≡ c.pages = ap (λ (l : List ℕ). amount l 0) is.table.capacity in
      let small = is.table.table.small 0 in
      record {
        here = there;
        size = ap (λ (p : Pages). p.page_size) is.pool ∙ sym is.book.page_size;
        room = omega (arith, room, same, all, ap (λ (p : Pages). p.pages) is.pool);
        row = omega (arith, rows_len s.table v is.table, lt);
        kind = row.pages;
        queue = omega (arith, ap length is.table.capacity, queue_kind c x.queue m.queued, ap (λ (g : Facts). g.queue) (facts_tie (look d) c j x tie_at));
        held = omega (arith, fits, held);
        small = omega (arith, room, small);
      }

  -- one job changes with its row
  pub one_set : (y : Job (What d)) (k : HeldJob) (m pages : ℕ) (u : Claims) → see_job (look d) k ≡ shown_job v.config y → m + chained_of x ≡ s.book.stored + chained_of y
      → WithRow s.table u i (row_of v.config y) pages
      → IsStockOf d (with_jobs v (set v.jobs i y)) (stock (record (with_job s.book i k) { stored = m }) (record s.pool { free = pages }) u)
  one_set y k m pages u tie many w =
      let c = v.config in
      let sums = sum_by-set (λ (z : Job (What d)). chained_of z) v.jobs i y no_job lt in
      let e = is.book.stored in
      becomes d v s is (set v.jobs i y) (set s.book.jobs i k) m pages u
      (map-set (see_job (look d)) s.book.jobs i k
      ∙ (ap (λ (l : List (ShownJob (What d))). set l i (see_job (look d) k)) is.book.jobs
      ∙ (ap (set (map (shown_job c) v.jobs) i) tie ∙ sym (map-set (shown_job c) v.jobs i y))))
      (omega (arith, sums, e, many)) w.table (w.rows ∙ (ap (λ (l : List Row). set l i (row_of c y)) is.table.rows ∙ sym (map-set (row_of c) v.jobs i y))) w.capacity w.room w.free

  -- one job goes with its row
  pub one_gone : (m pages : ℕ) (u : Claims) → m + chained_of x ≡ s.book.stored → WithoutRow s.table u i pages
      → IsStockOf d (with_jobs v (remove v.jobs i)) (stock (record s.book { jobs = remove s.book.jobs i; stored = m }) (record s.pool { free = pages }) u)
  one_gone m pages u many w =
      let c = v.config in
      let sums = sum_by-remove (λ (z : Job (What d)). chained_of z) v.jobs i no_job lt in
      let e = is.book.stored in
      becomes d v s is (remove v.jobs i) (remove s.book.jobs i) m pages u
      (map_remove (see_job (look d)) s.book.jobs i ∙ (ap (λ (l : List (ShownJob (What d))). remove l i) is.book.jobs ∙ sym (map_remove (shown_job c) v.jobs i)))
      (omega (arith, sums, e, many)) w.table (w.rows ∙ (ap (λ (l : List Row). remove l i) is.table.rows ∙ sym (map_remove (row_of c) v.jobs i))) w.capacity w.room w.free

  ends_out : MayEnd v.config x → IsStockOf d (with_jobs v (set v.jobs i (ended_job x))) (stock_ended s i)
  ends_out m =
      let c = v.config in
      let e = chain m in
      let q : j.facts.queue ≡ x.queue = ap (λ (g : Facts). g.queue) (facts_tie (look d) c j x tie_at) in
      let w : WithRow s.table (given_back (need_ended (need_ended s.table i 0) i j.facts.queue) i 0 n) i (row_of c (ended_job x)) (s.pool.free + n) =
      rw (q, e, same) (ended_leaves c s.table i x row is.table.capacity m.queued m.adds_up) in
      let z : chained_of (ended_job x) ≡ 0 = refl in
      let many : (s.book.stored - n) + chained_of x ≡ s.book.stored + chained_of (ended_job x) = omega (arith, e, within, z) in
      one_set (ended_job x) (drained_job j) (s.book.stored - n) (s.pool.free + n) (given_back (need_ended (need_ended s.table i 0) i j.facts.queue) i 0 n) (ties_ended (look d) c j x tie_at) many w

  goes : MayEnd v.config x → has_page_out x ≡ false → IsStockOf d (with_jobs v (remove v.jobs i)) (stock_gone s i)
  goes m o =
      let c = v.config in
      let e = chain m in
      let free : amount s.table.free 0 + pages_held x ≡ s.pool.free + n = omega (arith, e, none_out x o, m.adds_up, same) in
      let le = within in
      one_gone (s.book.stored - n) (s.pool.free + n) (closed s.table i) (omega (arith, e, le))
      (subst (λ (a : ℕ). WithoutRow s.table (closed s.table i) i a) free (closed_drops s.table i (row_of c x) row))

  -- a job that has ended stays
  stays : MayEnd v.config x → x.ended ≡ true → IsStockOf d (with_jobs v (end_place v.jobs i)) s
  stays m e =
      subst (λ (y : Job (What d)). IsStockOf d (with_jobs v (cond (is_held y) (set v.jobs i y) (remove v.jobs i))) s) (sym (ended_same x e))
      (rw (m.held, set-get_or v.jobs i no_job) is)

  pub one_ends : MayEnd v.config x → IsStockOf d (with_jobs v (end_place v.jobs i)) (stock_after s i)
  one_ends m = by x.ended (has_page_out x) refl refl
    where
      phase : is_ended j.facts.phase ≡ x.ended
      phase = ap is_ended (phase_tie (look d) v.config j x tie_at) ∙ ended_is x.ended (is_received x)

      outs : is_out j.facts ≡ has_page_out x
      outs = ap is_out (facts_tie (look d) v.config j x tie_at)

      by : (e o : Bool) → x.ended ≡ e → has_page_out x ≡ o → IsStockOf d (with_jobs v (end_place v.jobs i)) (stock_after s i)
      by true o ee oo = rw (phase ∙ ee) (stays m ee)
      by false true ee oo = rw (phase ∙ ee, outs ∙ oo, oo) (ends_out m)
      by false false ee oo = rw (phase ∙ ee, outs ∙ oo, oo) (goes m oo)
