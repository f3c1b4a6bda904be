use Rattle.std.proofs.Common.{◌≡◌, ℕ, ◌+◌, ◌≤◌, ◌<◌, false, true, List, [], ◌∷◌, refl, arith, lit≤}
use Rattle.claims.specs.declared.row.Row.{Row}
use Rattle.counts.specs.Amounts.{amount}
use Rattle.claims.specs.Safety.{AreFinishing}
use Rattle.spool_history.specs.Base.{first_base}
use Rattle.spool_history.specs.Events.{Event}
use Rattle.worked_histories.specs.Rows.{small}
use Rattle.spool_history.specs.Now.{now, free_amount}
use Rattle.worked_histories.specs.Claims.{last_page, second_page}
use Rattle.claims.proofs.TwoRows.{not_safe, not_first, second_then_first}
use Rattle.worked_histories.proofs.Legal.{fits, row}
use Rattle.worked_histories.proofs.rows.claims_meet.Goals as goal

-- the rows of the two jobs: of the first, which holds one page, and of the second
abbrev first : ℕ → Row
first s = row 1 s 1 2

abbrev second : (sender held need : ℕ) → Row
second t held need = row 2 t held need

abbrev free : List (Event (List ℕ)) → ℕ → ℕ
free h = free_amount (now small first_base h)

apart : (s t n m : ℕ) → (false ≡ true → n < m)
apart s t n m h = absurd cc

abbrev late : AreFinishing (free (last_page 2 1)) (first 2 ∷ second 1 3 0 ∷ []) (2 ∷ 1 ∷ [])
late = second_then_first (free (last_page 2 1)) (first 2) (second 1 3 0) (apart 1 2 2 1)
    (fits (free (last_page 2 1)) 0 1 (lit≤ tt) (lit≤ tt))
    (fits (λ kind. free (last_page 2 1) kind + amount (3 ∷ 0 ∷ []) kind) 2 1 (lit≤ tt) (lit≤ tt))

abbrev early : AreFinishing (free (second_page 1 2)) (first 1 ∷ second 2 2 1 ∷ []) (2 ∷ 1 ∷ [])
early = second_then_first (free (second_page 1 2)) (first 1) (second 2 2 1) (apart 2 1 2 1)
    (fits (free (second_page 1 2)) 1 1 (lit≤ tt) (lit≤ tt))
    (fits (λ kind. free (second_page 1 2) kind + amount (2 ∷ 0 ∷ []) kind) 2 1 (lit≤ tt) (lit≤ tt))

pub returns : goal.returns
returns c = record {
  none_free = refl;
  second_first = late;
  not_first = λ rest. not_first (free (last_page 2 1)) (first 2) (second 1 3 0) rest (λ h. let e : 2 ≤ 0 = h 0 in omega arith) (λ h. let e : ◌≡◌ {A = ℕ} 2 1 = h in omega arith);
  one_sender = not_safe (free (last_page 1 1)) (first 1) (second 1 3 0) (λ h. let e : 2 ≤ 0 = h 0 in omega arith) (λ h. let e : 2 < 1 = h refl in omega arith);
  two_senders = (early.0, early.1);
  one_sender_early = not_safe (free (second_page 1 1)) (first 1) (second 1 2 1) (λ h. let e : 2 ≤ 1 = h 0 in omega arith) (λ h. let e : 2 < 1 = h refl in omega arith);
}
