-- A table of claims stays one whatever a row gives back and needs no more, and what its rows are then.
use Rattle.std.proofs.Common.{◌≡◌, ℕ, ◌+◌, ◌-◌, ◌<◌, ◌≤◌, List, length, set, refl, sym, ◌∙◌, ap, subst, arith}
use Rattle.std.specs.Prelude.{remove}
use Rattle.std.proofs.lemmas.List.{length-set, get_or-set_same, get_or-set_other, set-get_or, set-set}
use Rattle.std.proofs.lemmas.List.Elements.{All-get_or}
use Rattle.std.proofs.lemmas.List.Sums.{get_or-le-sum_by}
use Rattle.counts.specs.Amounts.{amount}
use Rattle.counts.proofs.Sums.{amount-sum_of}
use Rattle.claims.specs.declared.row.Row.{Row}
use Rattle.claims.specs.Claims.{Claims, IsTable, row_at, no_row}
use Rattle.claims.specs.Changes.{row_with, with_amounts, granted_row, granted, given_back, need_ended, closed}
use Rattle.claims.proofs.Tables.{with_table, granted_table, close_table, need_ended_is}

-- the row that holds n less of a kind
abbrev pub given_row : (kind n : ℕ) → Row → Row
given_row kind n row = row_with (set row.held kind (amount row.held kind - n)) row.need row

-- the row that needs no more of a kind
abbrev pub ended_row : (kind : ℕ) → Row → Row
ended_row kind row = row_with row.held (set row.need kind 0) row

-- n of a kind given back are so much less held, and free
given_back_is : (t : Claims) (i kind n : ℕ) → n ≤ amount (row_at t.rows i).held kind → with_amounts t i kind (amount (row_at t.rows i).held kind - n) (amount (row_at t.rows i).need kind) ≡ given_back t i kind n
given_back_is t i kind n le =
    let row = row_at t.rows i in
    let f : (amount t.free kind + amount row.held kind) - (amount row.held kind - n) ≡ amount t.free kind + n = omega arith in
    ap (λ (m : ℕ). record t { free = set t.free kind m; rows = set t.rows i (row_with (set row.held kind (amount row.held kind - n)) (set row.need kind (amount row.need kind)) row) }) f
    ∙ ap (λ (l : List ℕ). record t { free = set t.free kind (amount t.free kind + n); rows = set t.rows i (row_with (set row.held kind (amount row.held kind - n)) l row) }) (set-get_or row.need kind 0)

-- a table stays one where a row gives something back
pub given_table : (t : Claims) (i kind n : ℕ) → IsTable t → i < length t.rows → kind < length t.capacity → n ≤ amount (row_at t.rows i).held kind → IsTable (given_back t i kind n)
given_table t i kind n h lt kc le =
    subst IsTable (given_back_is t i kind n le) (with_table t i kind (amount (row_at t.rows i).held kind - n) (amount (row_at t.rows i).need kind) h lt kc (omega arith))

-- and where a row needs no more of a kind
pub ended_table : (t : Claims) (i kind : ℕ) → IsTable t → i < length t.rows → kind < length t.capacity → IsTable (need_ended t i kind)
ended_table t i kind h lt kc =
    subst IsTable (need_ended_is t i kind) (with_table t i kind (amount (row_at t.rows i).held kind) 0 h lt kc (omega arith))

-- the row that was put at a place stands there
pub row_put : (rows : List Row) (i : ℕ) (y : Row) → i < length rows → row_at (set rows i y) i ≡ y
row_put rows i y lt = get_or-set_same rows i y no_row lt

-- a row has an amount of each kind
pub row_kinds : (t : Claims) (i : ℕ) → IsTable t → i < length t.rows → (length (row_at t.rows i).held ≡ length t.capacity) × (length (row_at t.rows i).need ≡ length t.capacity)
row_kinds t i h lt = All-get_or (λ (r : Row). (length r.held ≡ length t.capacity) × (length r.need ≡ length t.capacity)) t.rows i no_row lt h.kinds

-- the table u is t with this row at the place i, and so many pages are free in it
pub record WithRow (t u : Claims) (i : ℕ) (row : Row) (pages : ℕ) : Type 0 where
  pub table : IsTable u
  pub rows : u.rows ≡ set t.rows i row
  pub capacity : u.capacity ≡ t.capacity
  pub room : u.room ≡ t.room
  pub free : amount u.free 0 ≡ pages

-- the row at a place of a table that has pages as its first kind
pub record Here (t : Claims) (i : ℕ) (row : Row) : Type 0 where
  pub table : IsTable t
  pub there : i < length t.rows
  pub pages : 0 < length t.capacity
  pub is : row_at t.rows i ≡ row

-- what the row at the place holds
pub here_held : (t : Claims) (i : ℕ) (row : Row) (k : ℕ) → Here t i row → amount (row_at t.rows i).held k ≡ amount row.held k
here_held t i row k h = ap (λ (r : Row). amount r.held k) h.is

-- what it holds is not free: given back, it is no more than there is
pub room_for : (t : Claims) (i : ℕ) (row : Row) (k n : ℕ) → Here t i row → n ≤ amount row.held k → amount t.free k + n ≤ amount t.capacity k
room_for t i row k n h le = omega (arith, h.table.adds_up k, get_or-le-sum_by (λ (r : Row). amount r.held k) t.rows i no_row h.there, here_held t i row k h)

-- the first amount of a list that has one
set_first : (xs : List ℕ) (n : ℕ) → 0 < length xs → amount (set xs 0 n) 0 ≡ n
set_first xs n lt = get_or-set_same xs 0 n 0 lt

-- a row that stays as it is leaves the table as it is
pub same_leaves : (t : Claims) (i : ℕ) (row row' : Row) → Here t i row → row' ≡ row → WithRow t t i row' (amount t.free 0)
same_leaves t i row row' h same = record {
  table = h.table;
  rows = sym (ap (set t.rows i) (same ∙ sym h.is) ∙ set-get_or t.rows i no_row);
  capacity = refl;
  room = refl;
  free = refl;
}

-- another kind granted: as many pages are free as before
pub other_leaves : (t : Claims) (i kind : ℕ) (row row' : Row) → Here t i row → 0 < kind → kind < length t.capacity → 0 < amount t.free kind → granted_row kind row ≡ row' → WithRow t (granted t i kind) i row' (amount t.free 0)
other_leaves t i kind row row' h pos kc some e =
    let ne : 0 ≡ kind → ⊥ = λ z. (let w = z in omega arith) in
    record {
      table = granted_table t i kind h.table h.there kc some;
      rows = ap (set t.rows i) (ap (granted_row kind) h.is ∙ e);
      capacity = refl;
      room = refl;
      free = get_or-set_other t.free kind 0 (amount t.free kind - 1) 0 ne;
    }

-- pages given back
pub given_leaves : (t : Claims) (i n : ℕ) (row row' : Row) → Here t i row → n ≤ amount row.held 0 → given_row 0 n row ≡ row' → WithRow t (given_back t i 0 n) i row' (amount t.free 0 + n)
given_leaves t i n row row' h le e =
    let le' : n ≤ amount (row_at t.rows i).held 0 = subst (λ (r : Row). n ≤ amount r.held 0) (sym h.is) le in
    record {
      table = given_table t i 0 n h.table h.there h.pages le';
      rows = ap (set t.rows i) (ap (given_row 0 n) h.is ∙ e);
      capacity = refl;
      room = refl;
      free = set_first t.free (amount t.free 0 + n) (omega (arith, h.table.same_kinds, h.pages));
    }

-- a need ended leaves the row that needs no more, and all else as it was
pub ended_here : (t : Claims) (i kind : ℕ) (row : Row) → Here t i row → kind < length t.capacity → Here (need_ended t i kind) i (ended_row kind row)
ended_here t i kind row h kc =
    let there = h.there in
    record {
      table = ended_table t i kind h.table h.there kc;
      there = omega (arith, length-set t.rows i (ended_row kind (row_at t.rows i)));
      pages = h.pages;
      is = row_put t.rows i (ended_row kind (row_at t.rows i)) h.there ∙ ap (ended_row kind) h.is;
    }

-- what a change of the table with a need ended leaves, it leaves of the table before
pub after_ended : (t u : Claims) (i kind n : ℕ) (row : Row) → WithRow (need_ended t i kind) u i row n → WithRow t u i row n
after_ended t u i kind n row l = record {
  table = l.table;
  rows = l.rows ∙ set-set t.rows i (ended_row kind (row_at t.rows i)) row;
  capacity = l.capacity;
  room = l.room;
  free = l.free;
}

-- the table u is t without the row at the place i, and so many pages are free in it
pub record WithoutRow (t u : Claims) (i pages : ℕ) : Type 0 where
  pub table : IsTable u
  pub rows : u.rows ≡ remove t.rows i
  pub capacity : u.capacity ≡ t.capacity
  pub room : u.room ≡ t.room
  pub free : amount u.free 0 ≡ pages

-- a row closed: the pages that it held are free
pub closed_drops : (t : Claims) (i : ℕ) (row : Row) → Here t i row → WithoutRow t (closed t i) i (amount t.free 0 + amount row.held 0)
closed_drops t i row h =
    let k = row_kinds t i h.table h.there in
    record {
      table = close_table t i h.table h.there;
      rows = refl;
      capacity = refl;
      room = refl;
      free = amount-sum_of t.free (row_at t.rows i).held 0 (k.0 ∙ sym h.table.same_kinds) ∙ ap (λ (r : Row). amount t.free 0 + amount r.held 0) h.is;
    }
