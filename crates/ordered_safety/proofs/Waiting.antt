-- How many earlier rows of its line each row waits for, how that changes when a row goes, and whose needs are compared.
use Rattle.std.proofs.Common.{◌≡◌, inl, inr, ℕ, zero, suc, ◌+◌, ◌<◌, ◌≤◌, ◌↔◌, Bool, true, false, cond, List, [], ◌∷◌, ◌++◌, length, length-take, get_or, set, take, drop, refl, ap, ap₂, sym, ◌∙◌, add-one, arith, below_more}
use Rattle.std.specs.Prelude.{slice_index, remove, All}
use Rattle.std.specs.List.{count_by, list_any, sum_by}
use Rattle.std.proofs.lemmas.List.{get_or_append_left, get_or_push, get_or-take, get_or-set_same, get_or-set_other, length-set, length-take-le, take-map, take-take, take-append-le}
use Rattle.std.proofs.lemmas.List.Edits.{length-remove, get_or-remove_below, get_or-remove_above}
use Rattle.std.proofs.lemmas.List.Elements.{All-from_get_or}
use Rattle.std.proofs.lemmas.List.Folds.{list_any_none, list_any_at}
use Rattle.std.proofs.lemmas.List.Sums.{get_or-le-sum_by, sum_by-le, sum_by-remove}
use Rattle.std.proofs.lemmas.Bool.{cases_lt, cases_Bool, false_from_ne_true}
use Rattle.claims.specs.declared.row.Row.{Row}
use Rattle.claims.specs.Claims.{row_at, no_row}
use Rattle.claims.specs.Safety.{same_line}
use Rattle.ordered_safety.specs.Scan.{rows_at, row_of, ahead_of, CountsAhead}
use Rattle.ordered_safety.specs.Compared.{HasNoEarlier, compared}
use Rattle.ordered_safety.proofs.Picks.{row_there}

-- one more count
pub counts_more : (f : ℕ → ℕ) (counts pushed : List ℕ) (n at : ℕ) → pushed ≡ counts ++ n ∷ [] → length counts ≡ at → ((j : ℕ) → j < at → get_or counts j 0 ≡ f j) → n ≡ f at → (j : ℕ) → j < at + 1 → get_or pushed j 0 ≡ f j
counts_more f counts pushed n at e len each last = below_more _ _
    (λ j lt. ap (λ (l : List ℕ). get_or l j 0) e ∙ (get_or_append_left counts (n ∷ []) 0 j (omega arith) ∙ each j lt))
    (ap (λ (l : List ℕ). get_or l at 0) e ∙ (get_or_push counts n 0 at len ∙ last))

-- the count at the places is that of the rows there
pub ahead_there : (rows : List Row) (left : List ℕ) (at : ℕ) → at < length left → count_by (same_line (row_of rows left at)) (rows_at rows (take at left)) ≡ ahead_of (rows_at rows left) at
ahead_there rows left at lt =
    ap₂ (λ (x : Row) (xs : List Row). count_by (same_line x) xs) (sym (row_there rows left at lt)) (sym (take-map (row_at rows) at left))

-- where an earlier row is of its line, a row waits
pub waits : (xs : List Row) (gone at : ℕ) → gone < at → at < length xs → same_line (row_at xs at) (row_at xs gone) ≡ true → 0 < ahead_of xs at
waits xs gone at lt le e =
    let f : Row → ℕ = λ x. cond (same_line (row_at xs at) x) 1 0 in
    let most = get_or-le-sum_by f (take at xs) gone no_row (omega (arith, length-take-le at xs)) in
    let here : f (get_or (take at xs) gone no_row) ≡ 1 = ap f (get_or-take at xs gone no_row lt) ∙ ap (λ (b : Bool). cond b 1 0) e in
    omega arith

-- where none is, none is among the rows before it
none_taken : (xs : List Row) (at : ℕ) → HasNoEarlier xs at → All (λ y. same_line (row_at xs at) y ≡ false) (take at xs)
none_taken xs at none = All-from_get_or (λ y. same_line (row_at xs at) y ≡ false) (take at xs) no_row (λ j lt.
    let below : j < at = omega (arith, length-take at xs) in ap (same_line (row_at xs at)) (get_or-take at xs j no_row below) ∙ none j below)

-- the counts tell of which rows none before them is of their line
pub head_where : (xs : List Row) (counts : List ℕ) (at : ℕ) → CountsAhead xs counts → at < length xs → (slice_index counts at ≡ 0) ↔ HasNoEarlier xs at
head_where xs counts at h lt = (
  λ zero j below. false_from_ne_true (same_line (row_at xs at) (row_at xs j)) (λ same. omega (arith, waits xs j at below lt same, h.each at lt)),
  λ none.
      let most = sum_by-le (λ x. cond (same_line (row_at xs at) x) 1 0) 0 (take at xs) (λ k d there. rw (none_taken xs at none k d there) (omega arith)) in
      omega (arith, h.each at lt),
)

-- the need of such a row is compared
pub compared_head : (xs : List Row) (at : ℕ) → HasNoEarlier xs at → compared xs (at + 1) ≡ compared xs at + 1
compared_head xs at none = rw (add-one at, list_any_none (same_line (row_at xs at)) (take at xs) (none_taken xs at none)) refl

-- and that of another isn't
pub compared_other : (xs : List Row) (at : ℕ) → at < length xs → (HasNoEarlier xs at → ⊥) → compared xs (at + 1) ≡ compared xs at
compared_other xs at lt some = elim (cases_Bool (list_any (same_line (row_at xs at)) (take at xs))) [
  | inl any ↦ rw (add-one at, any) (omega arith)
  | inr none ↦ absurd (some (λ j below. false_from_ne_true (same_line (row_at xs at) (row_at xs j)) (λ same.
      let any = list_any_at (same_line (row_at xs at)) (take at xs) j no_row (omega (arith, length-take at xs)) (ap (same_line (row_at xs at)) (get_or-take at xs j no_row below) ∙ same) in
      cc)))
]

-- each later row up to `at` of the line of the row that goes counts one less
pub record Less (xs : List Row) (counts : List ℕ) (gone at : ℕ) : Type 0 where
  pub len : length counts ≡ length xs
  pub front : (j : ℕ) → j < gone + 1 → slice_index counts j ≡ ahead_of xs j
  pub done : (j : ℕ) → j < at → gone < j → slice_index counts j + cond (same_line (row_at xs j) (row_at xs gone)) 1 0 ≡ ahead_of xs j
  pub rest : (j : ℕ) → at ≤ j → j < length xs → slice_index counts j ≡ ahead_of xs j

pub less_first : (xs : List Row) (counts : List ℕ) (gone : ℕ) → gone < length xs → CountsAhead xs counts → Less xs counts gone (gone + 1)
less_first xs counts gone lt h = record {
  len = h.all;
  front = λ j below. h.each j (omega arith);
  done = λ j below above. absurd (omega arith);
  rest = λ j le there. h.each j there;
}

pub less_kept : (xs : List Row) (counts : List ℕ) (gone at : ℕ) → at < length xs → same_line (row_at xs at) (row_at xs gone) ≡ false → Less xs counts gone at → Less xs counts gone (at + 1)
less_kept xs counts gone at lt other h = record {
  len = h.len;
  front = h.front;
  done = below_more _ _ h.done (λ above.
      let none : cond {A = ℕ} (same_line (row_at xs at) (row_at xs gone)) 1 0 ≡ 0 = ap (λ (b : Bool). cond b 1 0) other in
      omega (arith, h.rest at (omega arith) lt));
  rest = λ j le there. h.rest j (omega arith) there;
}

pub less_taken : (xs : List Row) (counts : List ℕ) (gone at n : ℕ) → gone < at → at < length xs → n + 1 ≡ slice_index counts at → same_line (row_at xs at) (row_at xs gone) ≡ true → Less xs counts gone at → Less xs (set counts at n) gone (at + 1)
less_taken xs counts gone at n above_gone lt less same h =
    let len = h.len in record {
      len = length-set counts at n ∙ h.len;
      front = λ j below. get_or-set_other counts at j n 0 (omega arith) ∙ h.front j below;
      done = below_more _ _ (λ j below above. rw (get_or-set_other counts at j n 0 (omega arith)) (h.done j below above)) (λ above.
          let one : cond {A = ℕ} (same_line (row_at xs at) (row_at xs gone)) 1 0 ≡ 1 = ap (λ (b : Bool). cond b 1 0) same in
          omega (arith, get_or-set_same counts at n 0 (omega arith), h.rest at (omega arith) lt));
      rest = λ j le there. get_or-set_other counts at j n 0 (omega arith) ∙ h.rest j (omega arith) there;
    }

take_nil : (k : ℕ) → take {A = Row} k [] ≡ []
take_nil zero = refl
take_nil (suc k) = refl

take_removed : (xs : List Row) (k gone : ℕ) → gone ≤ k → take k (remove xs gone) ≡ remove (take (suc k) xs) gone
take_removed [] k zero le = take_nil k
take_removed [] k (suc gone) le = take_nil k
take_removed (x ∷ xs) k zero le = refl
take_removed (x ∷ xs) zero (suc gone) le = absurd (omega arith)
take_removed (x ∷ xs) (suc k) (suc gone) le = ap (λ (r : List Row). x ∷ r) (take_removed xs k gone (omega arith))

ahead_below : (xs : List Row) (gone k : ℕ) → k < gone → gone < length xs → ahead_of (remove xs gone) k ≡ ahead_of xs k
ahead_below xs gone k lt le =
    let front : take k (remove xs gone) ≡ take k xs =
    take-append-le k (take gone xs) (drop (suc gone) xs) (let len = length-take-le gone xs (omega arith) in omega arith) ∙ take-take k gone xs (omega arith) in
    ap₂ (λ (x : Row) (r : List Row). count_by (same_line x) r) (get_or-remove_below xs gone no_row k lt le) front

ahead_above : (xs : List Row) (gone k : ℕ) → gone ≤ k → k + 1 < length xs → ahead_of (remove xs gone) k + cond (same_line (row_at xs (k + 1)) (row_at xs gone)) 1 0 ≡ ahead_of xs (k + 1)
ahead_above xs gone k le lt =
    let x = row_at xs (k + 1) in
    let f : Row → ℕ = λ y. cond (same_line x y) 1 0 in
    let s : suc k ≡ k + 1 = omega arith in
    let len : length (take (k + 1) xs) ≡ k + 1 = length-take-le (k + 1) xs (omega arith) in
    let sum = sum_by-remove f (take (k + 1) xs) gone no_row (omega arith) in
    let here : f (get_or (take (k + 1) xs) gone no_row) ≡ f (row_at xs gone) = ap f (get_or-take (k + 1) xs gone no_row (omega arith)) in
    let front : take k (remove xs gone) ≡ remove (take (k + 1) xs) gone = take_removed xs k gone le ∙ ap (λ (i : ℕ). remove (take i xs) gone) s in
    let count : ahead_of (remove xs gone) k ≡ sum_by f (remove (take (k + 1) xs) gone) =
    ap₂ (λ (y : Row) (r : List Row). count_by (same_line y) r) (get_or-remove_above xs gone no_row k le (omega arith)) front in
    omega arith

pub less_removed : (xs : List Row) (counts : List ℕ) (gone at : ℕ) → gone < length xs → length xs ≤ at → Less xs counts gone at → CountsAhead (remove xs gone) (remove counts gone)
less_removed xs counts gone at lt end h =
    let len = h.len in
    let a = length-remove xs gone lt in
    let b = length-remove counts gone (omega arith) in
    record {
      all = omega arith;
      each = λ k there. elim (cases_lt k gone) [
        | inl below ↦ get_or-remove_below counts gone 0 k below (omega arith) ∙ (h.front k (omega arith) ∙ sym (ahead_below xs gone k below lt))
        | inr above ↦
            let s : slice_index (remove counts gone) k ≡ slice_index counts (k + 1) = get_or-remove_above counts gone 0 k above (omega arith) in
            let d = h.done (k + 1) (omega arith) (omega arith) in
            let e = ahead_above xs gone k above (omega arith) in
            omega arith
      ];
    }
