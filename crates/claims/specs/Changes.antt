-- What each call makes of a table of claims.
use Rattle.std.specs.Prelude.{◌≡◌, ℕ, ◌+◌, ◌-◌, ◌<◌, List, [], ◌∷◌, ◌++◌, length, replicate, remove, slice_set}
use Rattle.counts.specs.Amounts.{amount, Fits, sum_of}
use Rattle.claims.specs.declared.row.Row.{Row}
use Rattle.claims.specs.declared.table.OpenError.{OpenError}
use Rattle.claims.specs.declared.table.OpenError.TheVariants.{OverCapacity, Full, Memory}
use Rattle.claims.specs.Claims.{Claims, row_at}

-- a row that holds nothing
abbrev pub new_row_of : ℕ → ℕ → ℕ → List ℕ → Row
new_row_of number sender queue need =
    record { number = number; sender = sender; queue = queue; held = replicate (length need) 0; need = need }

-- the table with such a row last
abbrev pub opened : Claims → ℕ → ℕ → ℕ → List ℕ → Claims
opened t number sender queue need = record t { rows = t.rows ++ new_row_of number sender queue need ∷ [] }

-- the need is within the capacity, and there is room for a row
abbrev pub HasPlace : Claims → List ℕ → Type 0
HasPlace t need = Fits need (amount t.capacity) × (length t.rows < t.room)

-- when each refusal of a new row comes
abbrev pub RefusedFor : Claims → List ℕ → OpenError → Type 0
RefusedFor t need OverCapacity = ¬ (Fits need (amount t.capacity))
RefusedFor t need Full = Fits need (amount t.capacity) × (length t.rows ≡ t.room)
RefusedFor t need Memory = HasPlace t need

-- the row with other amounts
abbrev pub row_with : List ℕ → List ℕ → Row → Row
row_with held need row = record row { held = held; need = need }

-- the table where the row at i holds and needs so much of a kind, and the rest of it is free
abbrev pub with_amounts : Claims → ℕ → ℕ → ℕ → ℕ → Claims
with_amounts t i kind held need =
    let row = row_at t.rows i in record t {
      free = slice_set t.free kind ((amount t.free kind + amount row.held kind) - held);
      rows = slice_set t.rows i (row_with (slice_set row.held kind held) (slice_set row.need kind need) row);
    }

-- the row that holds one more of a kind and needs one less of it
abbrev pub granted_row : ℕ → Row → Row
granted_row kind row = row_with (slice_set row.held kind (amount row.held kind + 1)) (slice_set row.need kind (amount row.need kind - 1)) row

-- the table where the row at i is such a row, and one less is free
abbrev pub granted : Claims → ℕ → ℕ → Claims
granted t i kind = record t {
  free = slice_set t.free kind (amount t.free kind - 1);
  rows = slice_set t.rows i (granted_row kind (row_at t.rows i));
}

-- the table where the row at i holds n less of a kind, and n more are free
abbrev pub given_back : Claims → ℕ → ℕ → ℕ → Claims
given_back t i kind n =
    let row = row_at t.rows i in record t {
      free = slice_set t.free kind (amount t.free kind + n);
      rows = slice_set t.rows i (row_with (slice_set row.held kind (amount row.held kind - n)) row.need row);
    }

-- the table where the row at i needs no more of a kind
abbrev pub need_ended : Claims → ℕ → ℕ → Claims
need_ended t i kind =
    let row = row_at t.rows i in record t {
      rows = slice_set t.rows i (row_with row.held (slice_set row.need kind 0) row);
    }

-- the table without the row at i, and what that held is free
abbrev pub closed : Claims → ℕ → Claims
closed t i = record t { free = sum_of t.free (row_at t.rows i).held; rows = remove t.rows i }
