-- A call on one chain of a row, and all other chains.
use Rattle.std.proofs.Common.{◌≡◌, ℕ, ◌+◌, ◌*◌, ◌<◌, List, length, refl, ◌∙◌, ap, arith}
use Rattle.page_pool.specs.Page.{Page}
use Rattle.page_nodes.specs.Chains.{Chains, chain_of, with_chain, total}
use Rattle.page_nodes.proofs.Frames.{chain_same, chain_other, chain_count, total_set}
use Rattle.page_chain.specs.Held.{HasRow, OnlyRow, pages_in}

pub in_same : (n : Chains) (row i : ℕ) (pages : List Page) → HasRow n row → i < 52 → pages_in (with_chain n (52 * row + i) pages) row i ≡ pages
in_same n row i pages h lt = chain_same n (52 * row + i) pages (omega (arith, h, lt))

pub in_other : (n : Chains) (row i j : ℕ) (pages : List Page) → (j ≡ i → ⊥) → pages_in (with_chain n (52 * row + i) pages) row j ≡ pages_in n row j
in_other n row i j pages ne = chain_other n (52 * row + i) (52 * row + j) pages (λ e. ne (omega (arith, e)))

pub only_row : (n new : Chains) (row i : ℕ) (pages : List Page) → new ≡ with_chain n (52 * row + i) pages → i < 52 → OnlyRow n new row
only_row n new row i pages e lt =
    record {
      room = ap (λ (u : Chains). u.room) e;
      count = ap (λ (u : Chains). length u.chains) e ∙ chain_count n (52 * row + i) pages;
      others = λ other j ne l. ap (λ (u : Chains). chain_of u (52 * other + j)) e ∙ chain_other n (52 * row + i) (52 * other + j) pages (λ s. ne (omega (arith, s, lt, l)));
    }

-- calls on one row, one after the other
pub only_none : (n : Chains) (row : ℕ) → OnlyRow n n row
only_none n row = record { room = refl; count = refl; others = λ other i ne lt. refl }

pub only_both : (a b c : Chains) (row : ℕ) → OnlyRow a b row → OnlyRow b c row → OnlyRow a c row
only_both a b c row f g =
    record {
      room = g.room ∙ f.room;
      count = g.count ∙ f.count;
      others = λ other i ne lt. g.others other i ne lt ∙ f.others other i ne lt;
    }

pub row_stays : (old new : Chains) (row : ℕ) → OnlyRow old new row → (other : ℕ) → HasRow old other → HasRow new other
row_stays old new row o other h = let n = o.count in omega (arith, n, h)

pub total_with : (n new : Chains) (row i : ℕ) (pages : List Page) → new ≡ with_chain n (52 * row + i) pages → HasRow n row → i < 52
    → total new.chains + length (pages_in n row i) ≡ total n.chains + length pages
total_with n new row i pages e h lt =
    let a = ap (λ (u : Chains). total u.chains) e in
    let b = total_set n.chains (52 * row + i) pages (omega (arith, h, lt)) in
    omega (arith, a, b)
