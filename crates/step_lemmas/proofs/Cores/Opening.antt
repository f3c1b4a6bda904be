-- A job is accepted.
use Rattle.std.proofs.Common.{inl, inr, ◌≡◌, ◌==◌, ◌≢◌, ℕ, zero, suc, ◌+◌, ◌-◌, ◌<◌, ◌≤◌, ◌^◌, Bool, true, false, List, [], ◌∷◌, ◌++◌, length, get_or, map, replicate, refl, sym, ◌∙◌, ap, subst, arith}
use Rattle.std.specs.Prelude.{All, Ok, cond, sum_by}
use Rattle.std.proofs.lemmas.Bool.{cases_lt}
use Rattle.std.proofs.lemmas.List.{length-map, length-replicate, map_push, get_or-map, get_or_default, get_or_past}
use Rattle.std.proofs.lemmas.List.Sums.{sum_by-cons, sum_by_push}
use Rattle.counts.specs.Amounts.{amount, Fits}
use Rattle.claims.specs.declared.row.Row.{Row}
use Rattle.claims.specs.Changes.{opened, new_row_of, HasPlace}
use Rattle.claims.proofs.Tables.{open_table}
use Rattle.held_jobs.specs.Jobs.{HeldJob, new_job as new_held}
use Rattle.held_jobs.specs.Jobs as J
use Rattle.held_jobs.specs.Books.{job_at}
use Rattle.held_jobs.specs.Shown.{ShownJob, see_job}
use Rattle.config_values.specs.Config.{Config, Queue, IsQueue, limit_of, no_queue, reserve_of}
use Rattle.config_values.specs.Ranges.{IsConfig}
use Rattle.spool_history.specs.Base.{Base}
use Rattle.spool_history.specs.Events.{Event}
use Rattle.spool_history.specs.Events.Event.{Opened}
use Rattle.spool_history.specs.Now.{Job, now, row_of, amounts, capacity, up_to}
use Rattle.spool_history.specs.Steps.{after, change, new_job}
use Rattle.spool_history.specs.Legal.{IsLegal, MayOpen}
use Rattle.spool_laws.specs.Sums.{chained_of}
use Rattle.spool_laws.proofs.Known.{Has, known, test}
use Rattle.spool_laws.proofs.Facts.{facts}
use Rattle.spool_laws.proofs.Adding.{length_up_to}
use Rattle.spool_laws.proofs.Printers.{get_up_to}
use Rattle.step_lemmas.specs.Standing.{no_job}
use Rattle.step_lemmas.proofs.HeldJobs.Standing.{all_held, has_get, none_changed}
use Rattle.step_lemmas.proofs.HeldJobs.Claimed.{rows_len}
use Rattle.spool_calls.specs.Looks.{Detail, What, size}
use Rattle.spool_calls.specs.Kept.{Kept, Leaves, left_by, look, shown_job}
use Rattle.spool_calls.specs.Calls.{OpensFor}
use Rattle.step_lemmas.proofs.Cores.Leaving.{jobs_len, leaves_with, pool_even, stock_left, stock_moved, stock_of, tie}
use Rattle.spool_calls.specs.Stocks.{stock}
use Rattle.step_lemmas.proofs.Cores.Stocks.{becomes}
use Rattle.step_lemmas.proofs.Cores.Ranges.{limit_pages}

-- the new job's number is above all others
pub numbers : {C : Type 0} (size : C → ℕ) (c : Config) (b : Base) (h : List (Event C)) (x : Job C) → IsLegal size c b h → Has x (now c b h).jobs → x.number ≤ (now c b h).accepted
numbers {C} size c b h x l has =
    let k = known c b h x has in
    let n = (facts size c b h l).numbers k.opening k.there in
    subst (λ (v : Job C). v.number ≤ (now c b h).accepted) (sym k.is) n.1

amounts_len : (c : Config) (p q n : ℕ) → length (amounts c p q n) ≡ suc (length c.queues)
amounts_len c p q n = omega (arith, length_up_to (λ (r : ℕ). cond (r == q) n 0) (length c.queues))

-- a row that holds nothing

zeros_up : (q : ℕ) (rs : List ℕ) → map {A = ℕ} {B = ℕ} (λ (r : ℕ). cond (r == q) 0 0) rs ≡ replicate (length rs) 0
zeros_up q [] = refl
zeros_up q (r ∷ rs) = elim (test r q) [ inl s ↦ rw s.1 (ap (λ (l : List ℕ). 0 ∷ l) (zeros_up q rs)) | inr s ↦ rw s.1 (ap (λ (l : List ℕ). 0 ∷ l) (zeros_up q rs)) ]

zeros : (c : Config) (q p n : ℕ) → replicate (length (amounts c p q n)) 0 ≡ amounts c 0 q 0
zeros c q p n =
    let u = length-map (up_to (length c.queues)) (λ (r : ℕ). cond (r == q) n 0) in
    let e : length (amounts c p q n) ≡ suc (length (up_to (length c.queues))) = omega (arith, u) in
    ap (λ (i : ℕ). replicate i 0) e ∙ ap (λ (l : List ℕ). 0 ∷ l) (sym (zeros_up q (up_to (length c.queues))))

new_row : (C : Type 0) (c : Config) (number sender queue : ℕ) (need : List ℕ) → need ≡ amounts c (limit_of c queue) queue 1 → new_row_of number sender queue need ≡ row_of c (new_job {C = C} number sender queue)
new_row C c number sender queue need e i =
    let less : limit_of c queue ≡ limit_of c queue - 0 = omega arith in
    record {
      number = number;
      sender = sender;
      queue = queue;
      held = (ap (λ (l : List ℕ). replicate (length l) 0) e ∙ zeros c queue (limit_of c queue) 1) i;
      need = (e ∙ ap (λ (n : ℕ). amounts c n queue 1) less) i;
    }

none_held : (n k : ℕ) → amount (replicate n 0) k ≡ 0
none_held zero k = refl
none_held (suc n) zero = refl
none_held (suc n) (suc k) = none_held n k

-- what is kept once the job is accepted
abbrev pub opened_core : Kept → (number sender queue : ℕ) → List ℕ → Kept
opened_core k number sender queue need = record k {
  book = record k.book { jobs = k.book.jobs ++ new_held number sender queue ∷ [] };
  table = opened k.table number sender queue need;
  accepted = number;
  reserved = k.reserved + reserve_of k.config queue;
}

module _ (d : Detail) (b : Base) (h : List (Event (What d))) (k : Kept) (l : Leaves d b h k) where
  -- all rows have lower numbers
  pub greater : All (λ (r : Row). r.number < k.accepted + 1) k.table.rows
  greater i d' lt =
      let v = left_by d b h k in
      let there : i < length v.jobs = omega (arith, rows_len k.table v l.kept.table, lt) in
      let is : get_or k.table.rows i d' ≡ row_of k.config (get_or v.jobs i no_job) = ap (λ (r : List Row). get_or r i d') l.kept.table.rows ∙ get_or-map (row_of k.config) v.jobs i no_job d' there in
      let e : (get_or k.table.rows i d').number ≡ (get_or v.jobs i no_job).number = ap (λ (r : Row). r.number) is in
      omega (arith, numbers (size d) k.config b h (get_or v.jobs i no_job) l.legal (has_get v.jobs i no_job there), l.kept.accepted, e)

  -- a claim has as many kinds as the table
  pub kinds : (queue : ℕ) (need : List ℕ) → need ≡ amounts k.config (limit_of k.config queue) queue 1 → length need ≡ length k.table.capacity
  kinds queue need e =
      let a = ap length e ∙ amounts_len k.config (limit_of k.config queue) queue 1 in
      omega (arith, a, ap length l.kept.table.capacity, length-map k.config.queues (λ (q : Queue). q.printers))

  opened_leaves : (number sender queue : ℕ) (need : List ℕ) → MayOpen (left_by d b h k) number queue → HasPlace k.table need → need ≡ amounts k.config (limit_of k.config queue) queue 1
      → Leaves d b (Opened number sender queue ∷ h) (opened_core k number sender queue need)
  opened_leaves number sender queue need may place e =
      let c = k.config in
      let v = left_by d b h k in
      let ev : Event (What d) = Opened number sender queue in
      let new : Job (What d) = new_job number sender queue in
      let t0 = l.kept.table in
      let js : List (Job (What d)) = v.jobs ++ new ∷ [] in
      let held = new_held number sender queue in
      let jobs : (after ev v).jobs ≡ js = ap (λ (js : List (Job (What d))). js ++ new ∷ []) (none_changed (change ev) v.jobs (λ z has. refl) (all_held c b h)) in
      let row = new_row (What d) c number sender queue need e in
      let t = opened k.table number sender queue need in
      let len = kinds queue need e in
      let lr : length (replicate (length need) 0) ≡ length k.table.capacity = length-replicate (length need) 0 ∙ len in
      let a : number ≡ v.accepted + 1 = may.4 in
      let up : All (λ (r : Row). r.number < number) k.table.rows = (λ i d' lt. (let g = greater i d' lt in omega (arith, g, a, l.kept.accepted))) in
      let stored : k.book.stored ≡ sum_by (λ (y : Job (What d)). chained_of y) js =
      (let s = sum_by_push (λ (y : Job (What d)). chained_of y) v.jobs new in let none : chained_of new ≡ 0 = refl in let w = l.kept.book.stored in omega (arith, s, none, w)) in
      let of =
      becomes d v (stock_of k) (stock_left d b h k l) js (k.book.jobs ++ held ∷ []) k.book.stored k.pool.free t
      (map_push (see_job (look d)) k.book.jobs held ∙ (ap (λ (js : List (ShownJob (What d))). js ++ shown_job c new ∷ []) l.kept.book.jobs ∙ sym (map_push (shown_job c) v.jobs new)))
      stored (open_table k.table (new_row_of number sender queue need) t0.table place.1 up (none_held (length need)) lr len)
      (ap (λ (rs : List Row). rs ++ new_row_of number sender queue need ∷ []) t0.rows ∙ (ap (λ (r : Row). map (row_of c) v.jobs ++ r ∷ []) row ∙ sym (map_push (row_of c) v.jobs new)))
      refl refl (sym (pool_even d b h k l)) in
      let s = sum_by-cons (λ (j : Job (What d)). reserve_of c j.queue) new [] in
      let q = l.kept.reserved in
      let r : k.reserved + reserve_of c queue ≡ v.reserved + sum_by (λ (j : Job (What d)). reserve_of c j.queue) (new ∷ []) = omega (arith, s, q) in
      leaves_with d b h k ev (stock (record k.book { jobs = k.book.jobs ++ held ∷ [] }) k.pool t) number (k.reserved + reserve_of c queue) k.printers k.closed l may
      (stock_moved d v ev js (stock (record k.book { jobs = k.book.jobs ++ held ∷ [] }) k.pool t) jobs of) a r l.kept.printers l.kept.closed

  -- the account has room, as it is kept
  abbrev pub Room : ℕ → Type 0
  Room q = (k.reserved + reserve_of k.config q + 1 ≤ k.config.account) × (k.accepted + 1 < 2 ^ 64)

  pub may_open : (q : ℕ) → k.closed ≡ false → IsQueue k.config q → length k.book.jobs < k.config.max_jobs → Room q → MayOpen (left_by d b h k) (k.accepted + 1) q
  may_open q c is few room =
      (sym l.kept.closed ∙ c, is, omega (arith, jobs_len d b h k l, few), omega (arith, l.kept.reserved, room.0), omega (arith, l.kept.accepted), room.1)

  pub open_done : (q : ℕ) → k.closed ≡ false → IsQueue k.config q → (sender : ℕ) (need : List ℕ) → length k.book.jobs < k.config.max_jobs → Room q → HasPlace k.table need
      → need ≡ amounts k.config (limit_of k.config q) q 1 → OpensFor d b h k sender q (opened_core k (k.accepted + 1) sender q need) (Ok (k.accepted + 1))
  open_done q c is sender need few room place n =
      let may = may_open q c is few room in
      (may, opened_leaves (k.accepted + 1) sender q need may place n)

-- a job's claim is within what there is

claim_at : (c : Config) (q : ℕ) → IsConfig c → (n : ℕ) → (b : Bool) → (n < length c.queues) → (suc n == q) ≡ b → cond b 1 0 ≤ (get_or c.queues n no_queue).printers
claim_at c q ranges n true lt e = (ranges.queues n no_queue lt).printers_low
claim_at c q ranges n false lt e = omega arith

pub claim_fits : (c : Config) (q : ℕ) → IsConfig c → Fits (amounts c (limit_of c q) q 1) (amount (capacity c))
claim_fits c q ranges zero = limit_pages c q ranges
claim_fits c q ranges (suc n) = elim (cases_lt n (length c.queues)) [
  | inl lt ↦
      let a = get_up_to {P = ℕ} (λ (r : ℕ). cond (r == q) 1 0) (length c.queues) n 0 lt in
      omega (arith, a, claim_at c q ranges n (suc n == q) lt refl, get_or-map (λ (q : Queue). q.printers) c.queues n no_queue 0 lt)
  | inr ge ↦
      let m = length_up_to {P = ℕ} (λ (r : ℕ). cond (r == q) 1 0) (length c.queues) in
      omega (arith, get_or_past (map {A = ℕ} {B = ℕ} (λ (r : ℕ). cond (r == q) 1 0) (up_to (length c.queues))) n 0 (omega (arith, m, ge)))
]

module _ (d : Detail) (b : Base) (h : List (Event (What d))) (k : Kept) (l : Leaves d b h k) where
  -- no job of the book has the next number
  pub unused : All (λ (j : HeldJob). j.facts.number ≢ k.accepted + 1) k.book.jobs
  unused i d' lt e =
      let v = left_by d b h k in
      let same : get_or k.book.jobs i d' ≡ job_at k.book i = get_or_default k.book.jobs i d' J.no_job lt in
      let t = ap (λ (s : ShownJob (What d)). s.facts.number) (tie d b h k i l lt) in
      let m = numbers (size d) k.config b h (get_or v.jobs i no_job) l.legal (has_get v.jobs i no_job (omega (arith, jobs_len d b h k l, lt))) in
      omega (arith, t, m, l.kept.accepted, ap (λ (j : HeldJob). j.facts.number) same, e)

  -- there is a row for one more job, where there is room for a job
  pub row_room : length k.book.jobs < k.config.max_jobs → length k.table.rows < k.table.room
  row_room few = omega (arith, few, jobs_len d b h k l, rows_len k.table (left_by d b h k) l.kept.table, l.kept.table.room)
