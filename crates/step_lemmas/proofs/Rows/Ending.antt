-- A job ends while a page of it is out, or is held no more.
use Rattle.std.proofs.Common.{◌≡◌, ◌==◌, ℕ, ◌+◌, ◌-◌, Bool, true, false, not, inl, inr, length, refl, sym, ◌∙◌, ap, arith}
use Rattle.counts.specs.Amounts.{amount}
use Rattle.claims.specs.declared.row.Row.{Row}
use Rattle.claims.specs.Claims.{Claims}
use Rattle.claims.specs.Changes.{given_back, need_ended}
use Rattle.config_values.specs.Config.{Config, IsQueue}
use Rattle.spool_history.specs.Now.{Job, is_held, pages_held, pages_out, printers_held, printers_needed, row_of, capacity}
use Rattle.spool_calls.specs.Stocks.{HeldAddsUp}
use Rattle.spool_laws.specs.Sums.{chained_of}
use Rattle.spool_laws.proofs.Known.{test}
use Rattle.step_lemmas.proofs.Rows.Tables.{Here, WithRow, given_row, ended_row, given_leaves, ended_here, after_ended}
use Rattle.step_lemmas.proofs.Rows.Amounts.{row_with_amounts, row_is, queue_kind, ended_printers}

-- the row of an ended job
row_ended : {C : Type 0} (c : Config) (x : Job C) → row_of c (record x { ended = true }) ≡ row_with_amounts c x (pages_out x) (printers_held x) 0 0
row_ended {C} c x = row_is c (record x { ended = true }) (pages_out x) (printers_held x) 0 0 refl refl refl refl

-- a job that has ended already stays as it is
pub ended_same : {C : Type 0} (x : Job C) → x.ended ≡ true → record x { ended = true } ≡ x
ended_same {C} x e = sym (ap (λ (b : Bool). record x { ended = b }) e)

-- the row that needs no more pages and no printer, and gave back what is in the chain, is that of the ended job
ended_row_is : {C : Type 0} (c : Config) (x : Job C) → IsQueue c x.queue → HeldAddsUp x
    → given_row 0 (chained_of x) (ended_row x.queue (ended_row 0 (row_of c x))) ≡ row_of c (record x { ended = true })
ended_row_is c x is a =
    let left : pages_held x - chained_of x ≡ pages_out x = omega arith in
    ap (given_row 0 (chained_of x)) (ended_printers c x (pages_held x) (printers_held x) 0 (printers_needed x) is)
    ∙ (ap (λ (n : ℕ). row_with_amounts c x n (printers_held x) 0 0) left ∙ sym (row_ended c x))

-- the row once both needs ended
needs_ended_here : {C : Type 0} (c : Config) (t : Claims) (i : ℕ) (x : Job C) → Here t i (row_of c x) → t.capacity ≡ capacity c → IsQueue c x.queue
    → Here (need_ended (need_ended t i 0) i x.queue) i (ended_row x.queue (ended_row 0 (row_of c x)))
needs_ended_here c t i x h cap is =
    let k = queue_kind c x.queue is in
    ended_here (need_ended t i 0) i x.queue (ended_row 0 (row_of c x)) (ended_here t i 0 (row_of c x) h h.pages) (omega (arith, ap length cap))

-- the table after a job ended of which a page is out
pub ended_leaves : {C : Type 0} (c : Config) (t : Claims) (i : ℕ) (x : Job C) → Here t i (row_of c x) → t.capacity ≡ capacity c → IsQueue c x.queue → HeldAddsUp x
    → WithRow t (given_back (need_ended (need_ended t i 0) i x.queue) i 0 (chained_of x)) i (row_of c (record x { ended = true })) (amount t.free 0 + chained_of x)
ended_leaves c t i x h cap is a =
    let n = chained_of x in
    let u : Claims = need_ended (need_ended t i 0) i x.queue in
    let row : Row = ended_row x.queue (ended_row 0 (row_of c x)) in
    let y : Row = row_of c (record x { ended = true }) in
    let all : WithRow u (given_back u i 0 n) i y (amount t.free 0 + n) = given_leaves u i n row y (needs_ended_here c t i x h cap is) (omega arith) (ended_row_is c x is a) in
    after_ended t (given_back u i 0 n) i 0 (amount t.free 0 + n) y (after_ended (need_ended t i 0) (given_back u i 0 n) i x.queue (amount t.free 0 + n) y all)

-- which jobs are held no more

-- equal numbers are not told apart
even_by : (n m : ℕ) → n ≡ m → not (n == m) ≡ false
even_by n m e = elim (test n m) [ inl s ↦ rw s.1 refl | inr s ↦ absurd (s.0 e) ]

-- one of which the last page that was out came back and ended it
pub back_gone : {C : Type 0} (x : Job C) → x.lent ≡ false → x.handed ≡ x.back + 1 → is_held (record x { back = x.back + 1; ended = true }) ≡ false
back_gone x u e = (let n = even_by x.handed (x.back + 1) e in rw (u, n) refl)

-- one that had ended before that
pub back_ended_gone : {C : Type 0} (x : Job C) → x.ended ≡ true → x.lent ≡ false → x.handed ≡ x.back + 1 → is_held (record x { back = x.back + 1 }) ≡ false
back_ended_gone x d u e = (let n = even_by x.handed (x.back + 1) e in rw (d, u, n) refl)
