-- A page is lent to a job.
use Rattle.std.proofs.Common.{◌≡◌, ◌≢◌, ℕ, ◌-◌, ◌<◌, ◌≤◌, List, [], ◌∷◌, length, set, map, refl, sym, ◌∙◌, ap, subst, arith}
use Rattle.std.specs.Prelude.{All, Ok, Err, filter}
use Rattle.counts.specs.Amounts.{amount}
use Rattle.claims.specs.declared.row.Row.{Row}
use Rattle.claims.specs.Claims.{row_at}
use Rattle.claims.specs.Changes.{granted, granted_row}
use Rattle.claims.specs.Safety.{IsSafe}
use Rattle.claims.proofs.Tables.{granted_table}
use Rattle.page_pool.specs.Page.{Page, Pages}
use Rattle.held_jobs.specs.Jobs.{HeldJob, Facts}
use Rattle.held_jobs.specs.Moves.{MayAsk, lent_facts, told}
use Rattle.held_jobs.specs.Books.{job_at, with_job}
use Rattle.held_jobs.specs.Shown.{ShownJob, see_job}
use Rattle.config_values.specs.Config.{limit_of}
use Rattle.spool_history.specs.Base.{Base}
use Rattle.spool_history.specs.Events.{Event}
use Rattle.spool_history.specs.Events.Act.{Granted}
use Rattle.spool_history.specs.Events.Event.{OfJob}
use Rattle.spool_history.specs.Now.{is_held, row_of}
use Rattle.spool_history.specs.Steps.{acted, after, change}
use Rattle.spool_history.specs.Legal.{HasJob, IsReceiving, IsBelowLimit, CanAsk, JobMay, MayGrant}
use Rattle.spool_history.specs.Claimed.{IsTableOf}
use Rattle.step_lemmas.proofs.HeldJobs.Standing.{has_here, has_job}
use Rattle.step_lemmas.proofs.HeldJobs.Moving.{act_set}
use Rattle.step_lemmas.proofs.HeldJobs.Claimed.{table_free, table_safe, safe_table, row_here, row_granted, need_here, rows_len}
use Rattle.spool_calls.specs.declared.answers.Asked.TheVariants.{Page as Page', Later}
use Rattle.lpd_values.specs.declared.refusal.Refusal.TheVariants.{NotOpen, OverClaim}
use Rattle.spool_calls.specs.Looks.{Detail, What, size}
use Rattle.spool_calls.specs.Kept.{Kept, Leaves, look, shown_job}
use Rattle.spool_calls.specs.Calls.{Asks}
use Rattle.std.proofs.lemmas.List.{get_or-set_same}
use Rattle.step_lemmas.proofs.Rows.Tables.{WithRow}
use Rattle.spool_calls.specs.Stocks.{stock}
use Rattle.step_lemmas.proofs.Cores.Stocks.{one_set}
use Rattle.step_lemmas.proofs.Cores.Leaving.{Found, held_unended, jobs_left, leaves_row, none_has, pool_even, look_at, sees, stock_left, stock_moved, stock_of}
use Rattle.step_lemmas.proofs.Cores.Phases.{can_ask, ask_can}

-- what is kept once a page is lent to the job at a place
abbrev pub lent_core : Kept → ℕ → Kept
lent_core k i = record k {
  pool = record k.pool { free = k.pool.free - 1 };
  book = with_job k.book i (told lent_facts (job_at k.book i));
  table = granted k.table i 0;
}

-- no job of this number may ask
pub ask_none : (d : Detail) (b : Base) (h : List (Event (What d))) (k : Kept) (job : ℕ) → Leaves d b h k → All (λ (j : HeldJob). j.facts.number ≢ job) k.book.jobs → Asks d b h k job k (Err NotOpen)
ask_none d b h k job l none = ((λ m. none_has d b h k job CanAsk l none m), refl)

module _ (d : Detail) (b : Base) (h : List (Event (What d))) (k : Kept) (l : Leaves d b h k) (job i : ℕ) (f : Found k job i) where
  open look_at d b h k i use {v, x, j}
  open sees d b h k job i l f use {stands as s, ties as t, facts as ft}

  limited : (j.facts.granted < limit_of k.config j.facts.queue) → IsBelowLimit k.config x
  limited lt = subst (λ (y : Facts). y.granted < limit_of k.config y.queue) ft lt

  pub ask_not_open : (MayAsk j → ⊥) → Asks d b h k job k (Err NotOpen)
  ask_not_open never = ((λ m. never (ask_can (look d) k.config j x t (has_here (size d) k.config b h i job CanAsk l.legal s m))), refl)

  pub ask_over : MayAsk j → limit_of k.config j.facts.queue ≤ j.facts.granted → Asks d b h k job k (Err OverClaim)
  ask_over m le = (
    has_job v i job (λ y. CanAsk y × (IsBelowLimit k.config y → ⊥)) s (
      can_ask (look d) k.config j x t m,
      λ lt. omega (arith, le, subst (λ (y : Facts). y.granted < limit_of k.config y.queue) (sym ft) lt),
    ),
    refl,
  )

  module _ (m : MayAsk j) where
    r : IsReceiving x
    r = (can_ask (look d) k.config j x t m).0

    module _ (lt : j.facts.granted < limit_of k.config j.facts.queue) where
      may : HasJob v.jobs job (JobMay (size d) k.config Granted)
      may = has_job v i job (JobMay (size d) k.config Granted) s (can_ask (look d) k.config j x t m, limited lt)

      -- the row of the job needs a page
      pub row_needs : 0 < amount (row_at k.table.rows i).need 0
      row_needs = omega (arith, need_here k.config x r, ap (λ (row : Row). amount row.need 0) (row_here k.table v i l.kept.table s.there), limited lt)

  kind : 0 < length k.table.capacity
  kind = (let e = ap length l.kept.table.capacity in omega (arith, e))

  -- the table with the page granted
  with_row : IsReceiving x → 0 < amount k.table.free 0 → WithRow k.table (granted k.table i 0) i (row_of k.config (acted Granted x)) (k.pool.free - 1)
  with_row r free =
      let n = rows_len k.table v l.kept.table in
      let some : 0 < length k.table.free = (let e = l.kept.table.table.same_kinds in let n = kind in omega (arith, e, n)) in
      record {
        table = granted_table k.table i 0 l.kept.table.table (omega (arith, n, s.there)) kind free;
        rows = ap (λ (row : Row). set k.table.rows i (granted_row 0 row)) (row_here k.table v i l.kept.table s.there) ∙ ap (set k.table.rows i) (row_granted k.config x r);
        capacity = refl;
        room = refl;
        free = get_or-set_same k.table.free 0 (amount k.table.free 0 - 1) 0 some ∙ ap (λ (n : ℕ). n - 1) (sym (pool_even d b h k l));
      }

  jobs : IsReceiving x → filter is_held (map (change (OfJob job Granted)) v.jobs) ≡ set v.jobs i (acted Granted x)
  jobs r = act_set (size d) k.config b h i job Granted l.legal s (held_unended (acted Granted x) r.0)

  lent : see_job (look d) (told lent_facts j) ≡ shown_job k.config (acted Granted x)
  lent = ap (λ (y : ShownJob (What d)). record y { facts = lent_facts y.facts }) t

  -- the table with the page is that of the state with it
  of : IsReceiving x → 0 < amount k.table.free 0 → IsTableOf (granted k.table i 0) (after (OfJob job Granted) v)
  of r free =
      let u = stock (with_job k.book i (told lent_facts j)) (record k.pool { free = k.pool.free - 1 }) (granted k.table i 0) in
      (stock_moved d v (OfJob job Granted) (set v.jobs i (acted Granted x)) u (jobs_left v (OfJob job Granted) (set v.jobs i (acted Granted x)) (jobs r) refl)
      (one_set d v (stock_of k) (stock_left d b h k l) i s.there (acted Granted x) (told lent_facts j) k.book.stored (k.pool.free - 1) (granted k.table i 0) lent refl (with_row r free))).table

  grants : IsReceiving x → 0 < amount k.table.free 0 → IsSafe (granted k.table i 0) → MayGrant v job
  grants r free safe =
      (omega (arith, table_free k.table v l.kept.table 0, free), table_safe (granted k.table i 0) (after (OfJob job Granted) v) (of r free) safe)

  leaves : MayAsk j → j.facts.granted < limit_of k.config j.facts.queue → 0 < amount k.table.free 0 → IsSafe (granted k.table i 0) → Leaves d b (OfJob job Granted ∷ h) (lent_core k i)
  leaves m lt free safe =
      leaves_row d b h k (OfJob job Granted) i k.book.stored (k.pool.free - 1) (acted Granted x) (told lent_facts j) (granted k.table i 0) k.printers l (may m lt, grants (r m) free safe)
      (jobs (r m)) s.there refl refl lent refl (with_row (r m) free) l.kept.printers

  pub ask_none_free : MayAsk j → j.facts.granted < limit_of k.config j.facts.queue → amount k.table.free 0 ≡ 0 → Asks d b h k job k (Ok Later)
  ask_none_free m lt none = (may m lt, (λ g. let e = table_free k.table v l.kept.table 0 in let n = g.0 in omega (arith, e, n, none)), refl)

  pub ask_not_safe : MayAsk j → j.facts.granted < limit_of k.config j.facts.queue → 0 < amount k.table.free 0 → (IsSafe (granted k.table i 0) → ⊥) → Asks d b h k job k (Ok Later)
  ask_not_safe m lt free never = (may m lt, (λ g. never (safe_table (granted k.table i 0) (after (OfJob job Granted) v) (of (r m) free) g.1)), refl)

  pub ask_page : (ticket : Page) → MayAsk j → j.facts.granted < limit_of k.config j.facts.queue → 0 < amount k.table.free 0 → IsSafe (granted k.table i 0) → ticket ≡ record { octets = []; page_size = k.pool.page_size }
      → Asks d b h k job (lent_core k i) (Ok (Page' ticket))
  ask_page ticket m lt free safe is = (
    may m lt,
    grants (r m) free safe,
    leaves m lt free safe,
    ap (λ (p : Page). p.octets) is,
    ap (λ (p : Page). p.page_size) is ∙ ap (λ (p : Pages). p.page_size) l.kept.pool,
  )
