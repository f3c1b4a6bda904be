-- The table of claims says what the jobs say.
use Rattle.std.proofs.Common.{◌≡◌, ℕ, ◌+◌, ◌-◌, ◌<◌, List, length, get_or, map, refl, sym, ◌∙◌, ap, subst, arith}
use Rattle.std.proofs.lemmas.List.{get_or-map, length-map}
use Rattle.counts.specs.Amounts.{amount}
use Rattle.claims.specs.declared.row.Row.{Row}
use Rattle.claims.specs.Claims.{Claims, held_of, row_at, no_row}
use Rattle.claims.specs.Changes.{granted_row}
use Rattle.claims.specs.Safety.{HasFinishingOrder, IsSafe}
use Rattle.claims.proofs.Orders.{safe_more}
use Rattle.config_values.specs.Config.{Config, limit_of}
use Rattle.spool_history.specs.Events.Act.{Granted}
use Rattle.spool_history.specs.Now.{Job, State, row_of, capacity, free_amount, IsSafeNow}
use Rattle.spool_history.specs.Steps.{acted}
use Rattle.spool_history.specs.Legal.{IsReceiving}
use Rattle.step_lemmas.specs.Standing.{no_job}
use Rattle.spool_history.specs.Claimed.{IsTableOf}

-- so what is free in it is what the jobs leave free
pub table_free : {C : Type 0} (t : Claims) (v : State C) → IsTableOf t v → (k : ℕ) → amount t.free k ≡ free_amount v k
table_free t v b k =
    let a = b.table.adds_up k in
    let r : held_of k t.rows ≡ held_of k (map (row_of v.config) v.jobs) = ap (held_of k) b.rows in
    let c : amount t.capacity k ≡ amount (capacity v.config) k = ap (λ (l : List ℕ). amount l k) b.capacity in
    omega (arith, a, r, c)

-- where the table is safe the state is
pub table_safe : {C : Type 0} (t : Claims) (v : State C) → IsTableOf t v → IsSafe t → IsSafeNow v
table_safe t v b s = subst (λ (r : List Row). HasFinishingOrder (free_amount v) r) b.rows (safe_more (amount t.free) (free_amount v) t.rows (λ k. let e = table_free t v b k in omega arith) s)

-- and where the state is safe the table is
pub safe_table : {C : Type 0} (t : Claims) (v : State C) → IsTableOf t v → IsSafeNow v → IsSafe t
safe_table t v b s = safe_more (free_amount v) (amount t.free) t.rows (λ k. let e = table_free t v b k in omega arith) (subst (λ (r : List Row). HasFinishingOrder (free_amount v) r) (sym b.rows) s)

-- the row of a job stands at the job's place
pub row_here : {C : Type 0} (t : Claims) (v : State C) (i : ℕ) → IsTableOf t v → i < length v.jobs → row_at t.rows i ≡ row_of v.config (get_or v.jobs i no_job)
row_here t v i b lt = ap (λ (r : List Row). row_at r i) b.rows ∙ get_or-map (row_of v.config) v.jobs i no_job no_row lt

-- as many rows as held jobs
pub rows_len : {C : Type 0} (t : Claims) (v : State C) → IsTableOf t v → length t.rows ≡ length v.jobs
rows_len t v b = ap length b.rows ∙ length-map v.jobs (row_of v.config)

-- a page granted: its row holds one page more and needs one less
pub row_granted : {C : Type 0} (c : Config) (x : Job C) → IsReceiving x → granted_row 0 (row_of c x) ≡ row_of c (acted Granted x)
row_granted {C} c x r =
    let n : (limit_of c x.queue - x.granted) - 1 ≡ limit_of c x.queue - (x.granted + 1) = omega arith in
    let e = r.0 in
    let i = r.1 in
    rw (e, i, n) refl

-- what a job that is being received may still need: its queue's limit less what was lent to it
pub need_here : {C : Type 0} (c : Config) (x : Job C) → IsReceiving x → amount (row_of c x).need 0 ≡ limit_of c x.queue - x.granted
need_here c x r = (let e = r.0 in let i = r.1 in rw (e, i) refl)
