-- Bounds on what a core counts.
use Rattle.std.proofs.Common.{inl, inr, ap, ◌≡◌, ℕ, zero, suc, ◌<◌, ◌≤◌, Bool, true, List, length, get_or, arith}
use Rattle.std.specs.Prelude.{cond, count_by}
use Rattle.std.proofs.lemmas.Bool.{cases_lt}
use Rattle.std.proofs.lemmas.List.{get_or_past}
use Rattle.std.proofs.lemmas.List.Sums.{get_or-le-sum_by}
use Rattle.config_values.specs.Config.{Config, Queue, limit_of, no_queue}
use Rattle.config_values.specs.Ranges.{IsConfig}
use Rattle.spool_history.specs.Base.{Base}
use Rattle.spool_history.specs.Events.{Event}
use Rattle.spool_history.specs.Now.{Job}
use Rattle.spool_laws.proofs.Apart.{each_has_a_place}
use Rattle.step_lemmas.specs.Standing.{no_job}
use Rattle.spool_calls.specs.Looks.{Detail, What, size}
use Rattle.spool_calls.specs.Kept.{Kept, Leaves, left_by}
use Rattle.step_lemmas.proofs.Cores.Leaving.{job_of, jobs_len}

pub limit_pages : (c : Config) (q : ℕ) → IsConfig c → limit_of c q ≤ c.pages
limit_pages c zero ranges = omega arith
limit_pages c (suc n) ranges = elim (cases_lt n (length c.queues)) [
  | inl lt ↦ (ranges.queues n no_queue lt).limit_high
  | inr ge ↦ let e = ap (λ (q : Queue). q.limit) (get_or_past c.queues n no_queue ge) in omega (arith, e)
]

-- no queue's limit passes the pages, and these aren't many
pub limit_within : (c : Config) (q : ℕ) → IsConfig c → limit_of c q ≤ 65536
limit_within c q ranges = (let l = limit_pages c q ranges in let m = ranges.pages_high in omega (arith, l, m))

-- one of a list that passes a test is counted
pub some_counted : {X : Type 0} (p : X → Bool) (xs : List X) (i : ℕ) (d : X) → i < length xs → p (get_or xs i d) ≡ true → 0 < count_by p xs
some_counted {X} p xs i d lt e =
    let one : Bool → ℕ = λ b. cond b 1 0 in
    let n : one (p (get_or xs i d)) ≡ 1 = ap one e in
    omega (arith, n, get_or-le-sum_by (λ (x : X). one (p x)) xs i d lt)

-- where a page is lent there is room for it among those that are stored
pub stored_room : (d : Detail) (b : Base) (h : List (Event (What d))) (k : Kept) → Leaves d b h k → (i : ℕ) → i < length k.book.jobs → (job_of d b h k i).lent ≡ true → k.book.stored < k.book.pages
stored_room d b h k l i lt e =
    let v = left_by d b h k in
    let one = some_counted (λ (x : Job (What d)). x.lent) v.jobs i no_job (omega (arith, lt, jobs_len d b h k l)) e in
    omega (arith, one, each_has_a_place (size d) k.config b h l.legal, l.kept.book.stored, l.kept.book.pages)
