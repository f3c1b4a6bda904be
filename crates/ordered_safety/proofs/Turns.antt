-- One turn after the other: what is known of the rows that are left, and what a check of an order and a scan have found so far.
use Rattle.std.proofs.Common.{◌≡◌, ℕ, suc, ◌+◌, ◌<◌, ◌^◌, ◌↔◌, List, [], ◌∷◌, ◌++◌, length, get_or, take, drop, inl, inr, refl, subst, ap, ap₂, sym, ◌∙◌, append-nil, append_assoc, arith}
use Rattle.std.proofs.Math.Path.{fun_ext}
use Rattle.std.specs.Prelude.{slice_index, All, remove}
use Rattle.std.proofs.lemmas.List.{get_or_default, get_or-map, same_lists, length-map}
use Rattle.std.proofs.lemmas.List.Elements.{All-get_or, All-append, All-map, All-take, All-drop}
use Rattle.std.proofs.lemmas.List.Sums.{sum_by-remove}
use Rattle.counts.specs.Amounts.{amount, sum_of, Fits}
use Rattle.counts.proofs.Sums.{amount-sum_of, length-sum_of}
use Rattle.claims.specs.declared.row.Row.{Row}
use Rattle.claims.specs.Claims.{HaveKinds, IsLower, Pairwise, held_of, row_at, no_row}
use Rattle.claims.specs.Safety.{freed, AreFinishing, HasFinishingOrder, IsFinishingOrder}
use Rattle.claims.proofs.Orders.{none_ordered}
use Rattle.ordered_safety.specs.Scan.{rows_at, StaysSmall}
use Rattle.ordered_safety.specs.Compared.{compared, GoesNext, NoneCanGo, ScanTakes, IsNext, NoneIsNext, CheckTakes}
use Rattle.ordered_safety.proofs.Picks.{same_remove, rising_without, order_before, safe_after, numbers_from, none_safe, some_next}

-- the rows that are left at these places, and what is free
pub record Leaving (rows : List Row) (left start free : List ℕ) : Type 0 where
  pub rising : Pairwise IsLower (rows_at rows left)
  pub there : All (λ j. j < length rows) left
  pub small : StaysSmall free (rows_at rows left)
  pub kinds : length free ≡ length start

-- all places give all rows
module _ (rows : List Row) (left : List ℕ) (len : length left ≡ length rows) (each : (j : ℕ) → j < length rows → slice_index left j ≡ j) where
  pub all_rows : rows_at rows left ≡ rows
  all_rows = same_lists (rows_at rows left) rows (length-map left (row_at rows) ∙ len) (λ k d lt.
      let below : k < length rows = omega (arith, length-map left (row_at rows)) in
      get_or-map (row_at rows) left k 0 d (omega arith) ∙ (ap (row_at rows) (each k below) ∙ get_or_default rows k no_row d below))

  pub leaving_all : (free : List ℕ) → Pairwise IsLower rows → StaysSmall free rows → Leaving rows left free free
  leaving_all free rising small = record {
    rising = subst (Pairwise IsLower) (sym all_rows) rising;
    there = λ k d lt. (let e = each k (omega arith) in let f = get_or_default left k d 0 lt in omega arith);
    small = subst (StaysSmall free) (sym all_rows) small;
    kinds = refl;
  }

-- rows that are put in an order have an amount of each kind
pub kinds_at : (kinds : ℕ) (rows : List Row) (places : List ℕ) → HaveKinds kinds rows → All (λ j. j < length rows) places → HaveKinds kinds (rows_at rows places)
kinds_at kinds rows places have there =
    let P : Row → Type 0 = λ row. (length row.held ≡ kinds) × (length row.need ≡ kinds) in
    All-map P (row_at rows) places (λ k d lt. All-get_or P rows (get_or places k d) no_row (there k d lt) have)

-- what is free once the row at a place gave back what it holds
pub given : (rows : List Row) (start free more : List ℕ) (row : Row) (at : ℕ) → HaveKinds (length start) rows → at < length rows → row ≡ row_at rows at → length free ≡ length start
    → more ≡ sum_of free row.held → amount more ≡ freed (amount free) (row_at rows at)
given rows start free more row at have there is same sum =
    let here = All-get_or (λ (r : Row). (length r.held ≡ length start) × (length r.need ≡ length start)) rows at no_row there have in
    let held : length row.held ≡ length free = ap (λ (r : Row). length r.held) is ∙ (here.0 ∙ sym same) in
    ap amount sum ∙ (fun_ext (λ kind. amount-sum_of free row.held kind held) ∙ ap (freed (amount free)) is)

-- the row that goes
module _ {rows : List Row} {left start free : List ℕ} {row : Row} (l : Leaving rows left start free) (at : ℕ) (there : at < length (rows_at rows left)) (is : row ≡ row_at (rows_at rows left) at) where
  held_after : (kind : ℕ) → held_of kind (remove (rows_at rows left) at) + amount (row_at (rows_at rows left) at).held kind ≡ held_of kind (rows_at rows left)
  held_after kind = sum_by-remove (λ (r : Row). amount r.held kind) (rows_at rows left) at no_row there

  -- what is free and what it gives back are amounts
  pub room_back : (kind : ℕ) → amount free kind + amount row.held kind < 2 ^ 32
  room_back kind = rw is (omega (arith, held_after kind, l.small kind))

  -- what is free then, and the others
  pub given_back : (more : List ℕ) → HaveKinds (length start) rows → more ≡ sum_of free row.held → amount more ≡ freed (amount free) (row_at (rows_at rows left) at)
  given_back more have sum = given (rows_at rows left) start free more row at (kinds_at (length start) rows left have l.there) there is l.kinds sum

  pub leaving_others : (more now : List ℕ) → HaveKinds (length start) rows → more ≡ sum_of free row.held → now ≡ remove left at → Leaving rows now start more
  leaving_others more now have sum e = subst (λ (places : List ℕ). Leaving rows places start more) (sym e) (record {
    rising = rw (same_remove rows left at) (rising_without (rows_at rows left) at there l.rising);
    there = All-append (λ j. j < length rows) (take at left) (drop (suc at) left) (All-take (λ j. j < length rows) at left l.there) (All-drop (λ j. j < length rows) (suc at) left l.there);
    small = λ kind. rw (same_remove rows left at) (omega (arith, ap (λ (f : ℕ → ℕ). f kind) (given_back more have sum), held_after kind, l.small kind));
    kinds = ap length sum ∙ (length-sum_of free row.held ∙ l.kinds);
  })

-- numbers are followed up to here: the rest decides on the rows that are left, and so many comparisons were made
pub record Followed (start : ℕ → ℕ) (rows : List Row) (numbers : List ℕ) (free : ℕ → ℕ) (left : List Row) (rest : List ℕ) (tests : ℕ) : Type 0 where
  pub exact : AreFinishing free left rest ↔ AreFinishing start rows numbers
  pub taken : (n m : ℕ) → tests + n ≡ m → CheckTakes free left rest n → CheckTakes start rows numbers m

-- the next number
module _ {start free : ℕ → ℕ} {rows left : List Row} {numbers rest : List ℕ} {number tests : ℕ} (s : Followed start rows numbers free left (number ∷ rest) tests) (low : Pairwise IsLower left) where
  pub followed_none : NoneIsNext left number → ¬ (AreFinishing start rows numbers) × CheckTakes start rows numbers tests
  followed_none none = (
    λ h. (let w = some_next free left number rest low (s.exact.1 h) in none w.0 w.1),
    s.taken 0 tests (omega arith) (inl (none, refl)),
  )

  pub followed_over : (at : ℕ) → IsNext left number at → ¬ (Fits (row_at left at).need free) → ¬ (AreFinishing start rows numbers) × CheckTakes start rows numbers (tests + 1)
  followed_over at next over = (
    λ h. over ((numbers_from left at next.there low free number rest next).0 (s.exact.1 h)).0,
    s.taken 1 (tests + 1) refl (inr (at, next, inl (over, refl))),
  )

  pub followed_more : (at : ℕ) → IsNext left number at → Fits (row_at left at).need free → Followed start rows numbers (freed free (row_at left at)) (remove left at) rest (tests + 1)
  followed_more at next fits =
      let f = numbers_from left at next.there low free number rest next in
      record {
        exact = (λ h. s.exact.0 (f.1 (fits, h)), λ h. (f.0 (s.exact.1 h)).1);
        taken = λ n m e h. s.taken (n + 1) m (omega arith) (inr (at, next, inr (fits, n, refl, h)));
      }

-- no number is left
pub followed_all : {start free : ℕ → ℕ} {rows left : List Row} {numbers : List ℕ} {tests : ℕ} → Followed start rows numbers free left [] tests
    → ((left ≡ []) ↔ AreFinishing start rows numbers) × CheckTakes start rows numbers tests
followed_all {free = free} {left = left} {tests = tests} s = (
  (λ e. s.exact.0 ([], record { each_once = e; in_line = tt; fits = tt }, refl), λ h. none_ordered free left (s.exact.1 h)),
  s.taken 0 tests (omega arith) refl,
)

-- a scan up to here: these rows went, the others decide, and so many comparisons were made
pub record Scanned (start : ℕ → ℕ) (rows : List Row) (free : ℕ → ℕ) (left gone : List Row) (tests : ℕ) : Type 0 where
  pub only : (order : List Row) → IsFinishingOrder free left order → IsFinishingOrder start rows (gone ++ order)
  pub still : HasFinishingOrder start rows → HasFinishingOrder free left
  pub taken : (n m : ℕ) → tests + n ≡ m → ScanTakes free left n → ScanTakes start rows m

module _ {start free : ℕ → ℕ} {rows left gone : List Row} {tests : ℕ} (s : Scanned start rows free left gone tests) where
  -- one more row goes
  pub scanned_more : (at t : ℕ) → Pairwise IsLower left → GoesNext free left at → t ≡ compared left (at + 1)
      → Scanned start rows (freed free (row_at left at)) (remove left at) (gone ++ row_at left at ∷ []) (tests + t)
  scanned_more at t low goes e = record {
    only = λ order h. subst (IsFinishingOrder start rows) (sym (append_assoc gone (row_at left at ∷ []) order))
        (s.only (row_at left at ∷ order) (order_before left at goes.0.there low free order goes.0.fits goes.0.in_line h));
    still = λ h. safe_after left at goes.0.there low free (s.still h);
    taken = λ n m f h. s.taken (t + n) m (omega arith) (at ∷ h.0, (goes, h.1), ap₂ (λ (a b : ℕ). a + b) e h.2);
  }

  -- none may go
  pub scanned_stuck : (t : ℕ) → 0 < length left → Pairwise IsLower left → NoneCanGo free left → t ≡ compared left (length left) → ¬ (HasFinishingOrder start rows) × ScanTakes start rows (tests + t)
  scanned_stuck t some low none e = (λ h. none_safe free left some low none (s.still h), s.taken t (tests + t) refl ([], none, e))

  -- none is left
  pub scanned_all : left ≡ [] → IsFinishingOrder start rows gone × ScanTakes start rows tests
  scanned_all e =
      let all : Scanned start rows free [] gone tests = subst (λ (l : List Row). Scanned start rows free l gone tests) e s in (
        subst (IsFinishingOrder start rows) (append-nil gone) (all.only [] (record { each_once = refl; in_line = tt; fits = tt })),
        all.taken 0 tests (omega arith) ([], λ at m. absurd (omega (arith, m.there)), refl),
      )
