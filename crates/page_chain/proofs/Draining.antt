-- The files of a row go back to the pool, one after the other.
use Rattle.std.proofs.Common.{◌≡◌, ℕ, zero, suc, ◌+◌, ◌*◌, ◌<◌, ◌≤◌, inl, inr, true, false, not, ◌&&◌, nat_lt, List, [], length, sym, ◌∙◌, ap, subst, arith}
use Rattle.std.proofs.lemmas.Bool.{cases_eq, cases_lt, cases_Bool, lt-ltb, le-ltb, cond-true, cond-false, and_left, and_right, and_from, not_from_true, not_from_false}
use Rattle.page_pool.specs.Page.{Pages}
use Rattle.page_nodes.specs.Chains.{Chains, with_chain, total}
use Rattle.page_chain.specs.Changes.{is_among}
use Rattle.page_chain.specs.Drained.{dropped_in, left_in}
use Rattle.page_chain.specs.Held.{HasRow, OnlyRow, pages_in}
use Rattle.page_chain.proofs.Rows.{in_same, in_other, only_row, only_none, only_both, row_stays, total_with}

-- what of a row is left where the first `files` files went, but for the kept
pub left_kept : (n : Chains) (row : ℕ) (kept : List ℕ) (files i : ℕ) → is_among kept i ≡ true → left_in n row kept files i ≡ pages_in n row i
left_kept n row kept files i e =
    cond-false (nat_lt i files && not (is_among kept i)) [] (pages_in n row i) (and_right (nat_lt i files) (not (is_among kept i)) (not_from_true (is_among kept i) e))

pub left_beyond : (n : Chains) (row : ℕ) (kept : List ℕ) (files i : ℕ) → files ≤ i → left_in n row kept files i ≡ pages_in n row i
left_beyond n row kept files i le =
    cond-false (nat_lt i files && not (is_among kept i)) [] (pages_in n row i) (and_left (nat_lt i files) (not (is_among kept i)) (le-ltb i files le))

pub left_gone : (n : Chains) (row : ℕ) (kept : List ℕ) (files i : ℕ) → i < files → is_among kept i ≡ false → left_in n row kept files i ≡ []
left_gone n row kept files i lt e =
    cond-true (nat_lt i files && not (is_among kept i)) [] (pages_in n row i) (and_from (nat_lt i files) (not (is_among kept i)) (lt-ltb i files lt) (not_from_false (is_among kept i) e))

-- at another file one file more changes nothing
left_other : (n : Chains) (row : ℕ) (kept : List ℕ) (files i : ℕ) → (i ≡ files → ⊥) → left_in n row kept (suc files) i ≡ left_in n row kept files i
left_other n row kept files i ne = elim (cases_Bool (is_among kept i)) [
  | inl e ↦ left_kept n row kept (suc files) i e ∙ sym (left_kept n row kept files i e)
  | inr e ↦ elim (cases_lt i files) [
    | inl lt ↦ left_gone n row kept (suc files) i (omega arith) e ∙ sym (left_gone n row kept files i lt e)
    | inr le ↦ left_beyond n row kept (suc files) i (omega (arith, le, ne)) ∙ sym (left_beyond n row kept files i le)
  ]
]

pub dropped_more : (n : Chains) (row : ℕ) (kept : List ℕ) (i m : ℕ) → i ≤ m → dropped_in n row kept i ≤ dropped_in n row kept m
dropped_more n row kept i zero le = let none : i ≡ 0 = omega arith in subst (λ (j : ℕ). dropped_in n row kept j ≤ dropped_in n row kept zero) (sym none) (omega arith)
dropped_more n row kept i (suc m) le = elim (cases_lt i (suc m)) [
  | inl lt ↦ let ih = dropped_more n row kept i m (omega (arith, lt)) in omega (arith, ih)
  | inr ge ↦ let all : i ≡ suc m = omega (arith, le, ge) in subst (λ (j : ℕ). dropped_in n row kept j ≤ dropped_in n row kept (suc m)) (sym all) (omega arith)
]

-- so far the first i files of the row went, but for the kept
pub record Drains (n : Chains) (row : ℕ) (kept : List ℕ) (pool : Pages) (new : Chains) (after : Pages) (i : ℕ) : Type 0 where
  pub only : OnlyRow n new row
  pub left : (j : ℕ) → j < 52 → pages_in new row j ≡ left_in n row kept i j
  pub pool_is : after ≡ record pool { free = pool.free + dropped_in n row kept i }
  pub counted : total new.chains + dropped_in n row kept i ≡ total n.chains

pub drains_none : (n : Chains) (row : ℕ) (kept : List ℕ) (pool : Pages) → Drains n row kept pool n pool 0
drains_none n row kept pool = record {
  only = only_none n row;
  left = λ j lt. sym (left_beyond n row kept 0 j (omega arith));
  pool_is = (let none : pool.free ≡ pool.free + 0 = omega arith in ap (λ (m : ℕ). record pool { free = m }) none);
  counted = omega arith;
}

pub drains_kept : (n : Chains) (row : ℕ) (kept : List ℕ) (pool : Pages) (new : Chains) (after : Pages) (i : ℕ) → Drains n row kept pool new after i
    → is_among kept i ≡ true → Drains n row kept pool new after (suc i)
drains_kept n row kept pool new after i d e =
    let same : dropped_in n row kept i ≡ dropped_in n row kept (suc i) =
    (let none = cond-true (is_among kept i) 0 (length (pages_in n row i)) e in omega (arith, none)) in
    record {
      only = d.only;
      left = λ j lt. d.left j lt ∙ elim (cases_eq j i) [
        | inl at ↦
            let among : is_among kept j ≡ true = ap (is_among kept) at ∙ e in
            left_kept n row kept i j among ∙ sym (left_kept n row kept (suc i) j among)
        | inr ne ↦ sym (left_other n row kept i j ne)
      ];
      pool_is = d.pool_is ∙ ap (λ (m : ℕ). record pool { free = pool.free + m }) same;
      counted = (let c = d.counted in omega (arith, c, same));
    }

-- the pages that go now
pub still_in : (n : Chains) (row : ℕ) (kept : List ℕ) (pool : Pages) (new : Chains) (after : Pages) (i : ℕ) → Drains n row kept pool new after i
    → i < 52 → pages_in new row i ≡ pages_in n row i
still_in n row kept pool new after i d lt = d.left i lt ∙ left_beyond n row kept i i (omega arith)

pub drains_gone : (n : Chains) (row : ℕ) (kept : List ℕ) (pool : Pages) (new : Chains) (after : Pages) (i : ℕ) (later : Chains) (then : Pages)
    → Drains n row kept pool new after i → i < 52 → HasRow n row → is_among kept i ≡ false → later ≡ with_chain new (52 * row + i) []
    → then ≡ record after { free = after.free + length (pages_in new row i) } → Drains n row kept pool later then (suc i)
drains_gone n row kept pool new after i later then d lt h e is p =
    let still = still_in n row kept pool new after i d lt in
    let here = row_stays n new row d.only row h in
    let len = ap length still in
    let same : dropped_in n row kept i + length (pages_in new row i) ≡ dropped_in n row kept (suc i) =
    (let all = cond-false (is_among kept i) 0 (length (pages_in n row i)) e in omega (arith, all, len)) in
    record {
      only = only_both n new later row d.only (only_row new later row i [] is lt);
      left = λ j jl. elim (cases_eq j i) [
        | inl at ↦
            ap (λ (u : Chains). pages_in u row j) is
            ∙ (ap (λ (k : ℕ). pages_in (with_chain new (52 * row + i) []) row k) at
            ∙ (in_same new row i [] here lt ∙ sym (left_gone n row kept (suc i) j (omega (arith, at)) (ap (is_among kept) at ∙ e))))
        | inr ne ↦
            ap (λ (u : Chains). pages_in u row j) is
            ∙ (in_other new row i j [] ne ∙ (d.left j jl ∙ sym (left_other n row kept i j ne)))
      ];
      pool_is =
          p ∙ (ap (λ (u : Pages). record u { free = u.free + length (pages_in new row i) }) d.pool_is
          ∙ (let sum : (pool.free + dropped_in n row kept i) + length (pages_in new row i) ≡ pool.free + dropped_in n row kept (suc i) = omega (arith, same) in
          ap (λ (m : ℕ). record pool { free = m }) sum));
      counted = (let c = d.counted in let t = total_with new later row i [] is here lt in omega (arith, c, t, same));
    }
