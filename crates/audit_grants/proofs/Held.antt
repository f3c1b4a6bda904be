-- What jobs hold of pages, and the tables of their claims.
use Rattle.std.proofs.Common.{◌↔◌, ◌≡◌, ◌==◌, Bool, true, false, ℕ, ◌+◌, ◌-◌, ◌<◌, ◌≤◌, List, [], ◌∷◌, ◌++◌, length, get_or, set, take, map, replicate, refl, sym, ◌∙◌, ap, subst, arith}
use Rattle.std.specs.Prelude.{All, sum_by, cond, if◌then◌else◌}
use Rattle.std.proofs.lemmas.List.{get_or-set_same, set-set, set-get_or, length-set, get_or_push, set-append_right, length-map, map-append, take_more}
use Rattle.std.proofs.lemmas.List.Elements.{All-get_or, All-push}
use Rattle.std.proofs.lemmas.List.Sums.{sum_by-cons}
use Rattle.counts.specs.Amounts.{amount}
use Rattle.claims.specs.declared.row.Row.{Row}
use Rattle.claims.specs.Claims.{Claims, IsTable, row_at, no_row}
use Rattle.claims.specs.Changes.{row_with, granted, granted_row, new_row_of, opened}
use Rattle.config_values.specs.Config.{Config, IsQueue, Queue}
use Rattle.spool_history.specs.Now.{Job, amounts, capacity, row_of, up_to, pages_held, pages_needed, printers_held, printers_needed}
use Rattle.account.specs.declared.entry.Outline.{Outline}
use Rattle.history_reader.specs.declared.state.Job as H
use Rattle.history_reader.specs.declared.state.State as V
use Rattle.history_reader.specs.Seen.{job_seen, state_seen}
use Rattle.claims.specs.Safety.{IsSafe}
use Rattle.spool_history.specs.Claimed.{IsTableOf}
use Rattle.spool_history.specs.Now.{IsSafeNow}
use Rattle.step_lemmas.proofs.HeldJobs.Claimed.{table_safe, safe_table}
use Rattle.spool_laws.proofs.Adding.{length_up_to}
use Rattle.audit_grants.specs.Lent.{lent, lent_row, HasRow, IsTableFor}
use Rattle.audit_grants.proofs.OneQueue.{kind_of, set_kind}

-- what rows of jobs hold of pages is what the jobs hold
pub pages_of : (c : Config) (jobs : List (Job Outline)) → sum_by (λ (row : Row). amount row.held 0) (map (row_of c) jobs) ≡ sum_by (λ (v : Job Outline). pages_held v) jobs
pages_of c [] = refl
pages_of c (x ∷ xs) =
    sum_by-cons (λ (row : Row). amount row.held 0) (row_of c x) (map (row_of c) xs)
    ∙ (ap (λ (n : ℕ). pages_held x + n) (pages_of c xs) ∙ sym (sum_by-cons (λ (v : Job Outline). pages_held v) x xs))

-- none of a kind more
pub lent_none : (t : Claims) (i kind : ℕ) → lent t i kind 0 ≡ t
lent_none t i kind =
    let row = row_at t.rows i in
    let plus : amount row.held kind + 0 ≡ amount row.held kind = omega arith in
    let held : set row.held kind (amount row.held kind + 0) ≡ row.held = ap (set row.held kind) plus ∙ set-get_or row.held kind 0 in
    let need : set row.need kind (amount row.need kind) ≡ row.need = set-get_or row.need kind 0 in
    let none : amount row.need kind - 0 ≡ amount row.need kind = omega arith in
    let free_none : amount t.free kind - 0 ≡ amount t.free kind = omega arith in
    let needs : set row.need kind (amount row.need kind - 0) ≡ row.need = ap (set row.need kind) none ∙ need in
    let frees : set t.free kind (amount t.free kind - 0) ≡ t.free = ap (set t.free kind) free_none ∙ set-get_or t.free kind 0 in
    let same : lent_row kind 0 row ≡ row = ap (λ (h : List ℕ). row_with h (set row.need kind (amount row.need kind - 0)) row) held ∙ ap (λ (m : List ℕ). row_with row.held m row) needs in
    ap (λ (f : List ℕ). record t { free = f; rows = set t.rows i (lent_row kind 0 row) }) frees
    ∙ ap (λ (r : List Row). record t { rows = r }) (ap (set t.rows i) same ∙ set-get_or t.rows i no_row)

-- one of a kind more
less_again : (xs : List ℕ) (k n : ℕ) → k < length xs → set (set xs k (amount xs k - n)) k (amount (set xs k (amount xs k - n)) k - 1) ≡ set xs k (amount xs k - (n + 1))
less_again xs k n lt =
    let d : (amount xs k - n) - 1 ≡ amount xs k - (n + 1) = omega arith in
    ap (λ (v : ℕ). set (set xs k (amount xs k - n)) k (v - 1)) (get_or-set_same xs k (amount xs k - n) 0 lt)
    ∙ (set-set xs k (amount xs k - n) ((amount xs k - n) - 1) ∙ ap (set xs k) d)

more_again : (xs : List ℕ) (k n : ℕ) → k < length xs → set (set xs k (amount xs k + n)) k (amount (set xs k (amount xs k + n)) k + 1) ≡ set xs k (amount xs k + (n + 1))
more_again xs k n lt =
    let d : (amount xs k + n) + 1 ≡ amount xs k + (n + 1) = omega arith in
    ap (λ (v : ℕ). set (set xs k (amount xs k + n)) k (v + 1)) (get_or-set_same xs k (amount xs k + n) 0 lt)
    ∙ (set-set xs k (amount xs k + n) ((amount xs k + n) + 1) ∙ ap (set xs k) d)

row_again : (row : Row) (k n : ℕ) → k < length row.held → k < length row.need → granted_row k (lent_row k n row) ≡ lent_row k (n + 1) row
row_again row k n lh ln =
    ap (λ (h : List ℕ). row_with h (set (set row.need k (amount row.need k - n)) k (amount (set row.need k (amount row.need k - n)) k - 1)) row) (more_again row.held k n lh)
    ∙ ap (λ (m : List ℕ). row_with (set row.held k (amount row.held k + (n + 1))) m row) (less_again row.need k n ln)

-- the kinds that a row has
pub row_kinds : (t : Claims) (i : ℕ) → IsTable t → i < length t.rows → (length (row_at t.rows i).held ≡ length t.capacity) × (length (row_at t.rows i).need ≡ length t.capacity)
row_kinds t i h lt = All-get_or (λ (r : Row). (length r.held ≡ length t.capacity) × (length r.need ≡ length t.capacity)) t.rows i no_row lt h.kinds

pub lent_more : (t : Claims) (i kind n : ℕ) → IsTable t → i < length t.rows → kind < length t.capacity → granted (lent t i kind n) i kind ≡ lent t i kind (n + 1)
lent_more t i kind n h lt kc =
    let row = row_at t.rows i in
    let k = row_kinds t i h lt in
    let lf : kind < length t.free = omega (arith, h.same_kinds) in
    let lh : kind < length row.held = omega (arith, k.0) in
    let ln : kind < length row.need = omega (arith, k.1) in
    let rows : set (set t.rows i (lent_row kind n row)) i (granted_row kind (row_at (set t.rows i (lent_row kind n row)) i)) ≡ set t.rows i (lent_row kind (n + 1) row) =
    ap (λ (r : Row). set (set t.rows i (lent_row kind n row)) i (granted_row kind r)) (get_or-set_same t.rows i (lent_row kind n row) no_row lt)
    ∙ (set-set t.rows i (lent_row kind n row) (granted_row kind (lent_row kind n row)) ∙ ap (set t.rows i) (row_again row kind n lh ln)) in
    ap (λ (f : List ℕ). record t { free = f; rows = set (set t.rows i (lent_row kind n row)) i (granted_row kind (row_at (set t.rows i (lent_row kind n row)) i)) }) (less_again t.free kind n lf)
    ∙ ap (λ (r : List Row). record t { free = set t.free kind (amount t.free kind - (n + 1)); rows = r }) rows

-- what one more of a kind asks for
pub lent_here : (t : Claims) (i kind n : ℕ) → i < length t.rows → i < length (lent t i kind n).rows
lent_here t i kind n lt = let e = length-set t.rows i (lent_row kind n (row_at t.rows i)) in omega arith

pub lent_free : (t : Claims) (i kind n m : ℕ) → IsTable t → kind < length t.capacity → n < m → m ≤ amount t.free kind → 0 < amount (lent t i kind n).free kind
lent_free t i kind n m h kc lt le =
    let lf : kind < length t.free = omega (arith, h.same_kinds) in
    let e = get_or-set_same t.free kind (amount t.free kind - n) 0 lf in
    omega (arith, e)

pub lent_needed : (t : Claims) (i kind n m : ℕ) → IsTable t → i < length t.rows → kind < length t.capacity → n < m → m ≤ amount (row_at t.rows i).need kind → 0 < amount (row_at (lent t i kind n).rows i).need kind
lent_needed t i kind n m h there kc lt le =
    let row = row_at t.rows i in
    let k = row_kinds t i h there in
    let ln : kind < length row.need = omega (arith, k.1) in
    let at : row_at (set t.rows i (lent_row kind n row)) i ≡ lent_row kind n row = get_or-set_same t.rows i (lent_row kind n row) no_row there in
    let e : amount (row_at (set t.rows i (lent_row kind n row)) i).need kind ≡ amount row.need kind - n = ap (λ (r : Row). amount r.need kind) at ∙ get_or-set_same row.need kind (amount row.need kind - n) 0 ln in
    omega (arith, e)

-- the last row
pub row_last : (rows : List Row) (x : Row) → row_at (rows ++ x ∷ []) (length rows) ≡ x
row_last rows x = get_or_push rows x no_row (length rows) refl

set_last : (rows : List Row) (x y : Row) → set (rows ++ x ∷ []) (length rows) y ≡ rows ++ y ∷ []
set_last rows x y =
    let z : length rows - length rows ≡ 0 = omega arith in
    set-append_right rows (x ∷ []) (length rows) (length rows) y refl (omega arith) ∙ ap (λ (i : ℕ). rows ++ set (x ∷ []) i y) z

pub lent_last : (t : Claims) (rows : List Row) (x : Row) (kind n : ℕ) → t.rows ≡ rows ++ x ∷ [] → (lent t (length rows) kind n).rows ≡ rows ++ lent_row kind n x ∷ []
lent_last t rows x kind n e =
    ap (λ (r : List Row). set r (length rows) (lent_row kind n (row_at r (length rows)))) e
    ∙ (ap (λ (r : Row). set (rows ++ x ∷ []) (length rows) (lent_row kind n r)) (row_last rows x) ∙ set_last rows x (lent_row kind n x))

-- a row that holds nothing
zeros_are : (f g : ℕ → ℕ) (xs : List ℕ) → ((r : ℕ) → g r ≡ 0) → replicate (length (map f xs)) 0 ≡ map g xs
zeros_are f g [] z = refl
zeros_are f g (x ∷ xs) z = ap (λ (n : ℕ). n ∷ replicate (length (map f xs)) 0) (sym (z x)) ∙ ap (λ (l : List ℕ). g x ∷ l) (zeros_are f g xs z)

cond_none : (b : Bool) → cond {A = ℕ} b 0 0 ≡ 0
cond_none true = refl
cond_none false = refl

pub none_held : (c : Config) (p q m : ℕ) → replicate (length (amounts c p q m)) 0 ≡ amounts c 0 q 0
none_held c p q m = ap (λ (l : List ℕ). 0 ∷ l) (zeros_are (λ (r : ℕ). if r == q then m else 0) (λ (r : ℕ). if r == q then 0 else 0) (up_to (length c.queues)) (λ r. cond_none (r == q)))

-- the row of a job, from one that holds nothing
pub row_made : (c : Config) (x : Job Outline) (total printers held taken : ℕ) → IsQueue c x.queue → held ≡ pages_held x → total ≡ held + pages_needed c x → taken ≡ printers_held x → printers ≡ taken + printers_needed x
    → lent_row x.queue taken (lent_row 0 held (new_row_of x.number x.sender x.queue (amounts c total x.queue printers))) ≡ row_of c x
row_made c x total printers held taken is eh et ek ep =
    let q = x.queue in
    let need = amounts c total q printers in
    let plus : 0 + held ≡ held = omega arith in
    let plus' : 0 + taken ≡ taken = omega arith in
    let rest : total - held ≡ pages_needed c x = omega (arith, et) in
    let rest' : printers - taken ≡ printers_needed x = omega (arith, ep) in
    let first : lent_row 0 held (new_row_of x.number x.sender q need) ≡ row_with (amounts c held q 0) (amounts c (total - held) q printers) (new_row_of x.number x.sender q need) =
    ap (λ (z : List ℕ). row_with (set z 0 (amount z 0 + held)) (amounts c (total - held) q printers) (new_row_of x.number x.sender q need)) (none_held c total q printers)
    ∙ ap (λ (n : ℕ). row_with (amounts c n q 0) (amounts c (total - held) q printers) (new_row_of x.number x.sender q need)) plus in
    let second : lent_row q taken (row_with (amounts c held q 0) (amounts c (total - held) q printers) (new_row_of x.number x.sender q need)) ≡ row_with (amounts c held q taken) (amounts c (total - held) q (printers - taken)) (new_row_of x.number x.sender q need) =
    ap (λ (n : ℕ). row_with (set (amounts c held q 0) q (n + taken)) (set (amounts c (total - held) q printers) q (amount (amounts c (total - held) q printers) q - taken)) (new_row_of x.number x.sender q need)) (kind_of c held q 0 is)
    ∙ (ap (λ (n : ℕ). row_with (set (amounts c held q 0) q n) (set (amounts c (total - held) q printers) q (amount (amounts c (total - held) q printers) q - taken)) (new_row_of x.number x.sender q need)) plus'
    ∙ (ap (λ (l : List ℕ). row_with l (set (amounts c (total - held) q printers) q (amount (amounts c (total - held) q printers) q - taken)) (new_row_of x.number x.sender q need)) (set_kind c held q 0 taken is)
    ∙ (ap (λ (n : ℕ). row_with (amounts c held q taken) (set (amounts c (total - held) q printers) q (n - taken)) (new_row_of x.number x.sender q need)) (kind_of c (total - held) q printers is)
    ∙ ap (λ (l : List ℕ). row_with (amounts c held q taken) l (new_row_of x.number x.sender q need)) (set_kind c (total - held) q printers (printers - taken) is)))) in
    ap (lent_row q taken) first
    ∙ (second
    ∙ (ap (λ (n : ℕ). row_with (amounts c n q taken) (amounts c (total - held) q (printers - taken)) (new_row_of x.number x.sender q need)) eh
    ∙ (ap (λ (n : ℕ). row_with (amounts c (pages_held x) q n) (amounts c (total - held) q (printers - taken)) (new_row_of x.number x.sender q need)) ek
    ∙ (ap (λ (n : ℕ). row_with (amounts c (pages_held x) q (printers_held x)) (amounts c n q (printers - taken)) (new_row_of x.number x.sender q need)) rest
    ∙ ap (λ (n : ℕ). row_with (amounts c (pages_held x) q (printers_held x)) (amounts c (pages_needed c x) q n) (new_row_of x.number x.sender q need)) rest'))))

-- a row has an amount of each kind
pub amounts_kinds : (c : Config) (p q m : ℕ) → length (amounts c p q m) ≡ length (capacity c)
amounts_kinds c p q m =
    let a = length_up_to (λ (r : ℕ). cond (r == q) m 0) (length c.queues) in
    let b = length-map c.queues (λ (r : Queue). r.printers) in
    omega (arith, a, b)

-- the row that is added, in four tables: before, opened, with its pages, and with its printers
module _ (c : Config) (x : Job Outline) (t0 t1 t2 : Claims) (row held total printers taken : ℕ) (is : IsQueue c x.queue) (e1 : t1 ≡ opened t0 x.number x.sender x.queue (amounts c total x.queue printers)) (er : row ≡ length t0.rows) (e2 : t2 ≡ lent t1 row 0 held) where
  rows2 : t2.rows ≡ t0.rows ++ lent_row 0 held (new_row_of x.number x.sender x.queue (amounts c total x.queue printers)) ∷ []
  rows2 =
      ap (λ (t : Claims). t.rows) e2
      ∙ (ap (λ (i : ℕ). (lent t1 i 0 held).rows) er ∙ lent_last t1 t0.rows (new_row_of x.number x.sender x.queue (amounts c total x.queue printers)) 0 held (ap (λ (t : Claims). t.rows) e1))

  -- it needs its printers
  pub needs_printers : taken ≤ printers → taken ≤ amount (row_at t2.rows row).need x.queue
  needs_printers le =
      let y = lent_row 0 held (new_row_of x.number x.sender x.queue (amounts c total x.queue printers)) in
      let at : row_at t2.rows row ≡ y = ap (λ (r : List Row). row_at r row) rows2 ∙ (ap (row_at (t0.rows ++ y ∷ [])) er ∙ row_last t0.rows y) in
      let need : amount (row_at t2.rows row).need x.queue ≡ printers = ap (λ (r : Row). amount r.need x.queue) at ∙ kind_of c (total - held) x.queue printers is in
      omega (arith, need, le)

  -- it is the row of the job
  pub row_added : (t3 : Claims) → t3 ≡ lent t2 row x.queue taken → held ≡ pages_held x → total ≡ held + pages_needed c x → taken ≡ printers_held x → printers ≡ taken + printers_needed x → HasRow t0 (row_of c x) t3
  row_added t3 e3 eh et ek ep = record {
    rows =
        ap (λ (t : Claims). t.rows) e3
        ∙ (ap (λ (i : ℕ). (lent t2 i x.queue taken).rows) er
        ∙ (lent_last t2 t0.rows (lent_row 0 held (new_row_of x.number x.sender x.queue (amounts c total x.queue printers))) x.queue taken rows2
        ∙ ap (λ (r : Row). t0.rows ++ r ∷ []) (row_made c x total printers held taken is eh et ek ep)));
    capacity = ap (λ (t : Claims). t.capacity) e3 ∙ (ap (λ (t : Claims). t.capacity) e2 ∙ ap (λ (t : Claims). t.capacity) e1);
    room = ap (λ (t : Claims). t.room) e3 ∙ (ap (λ (t : Claims). t.room) e2 ∙ ap (λ (t : Claims). t.room) e1);
  }

-- one row more
pub rows_more : (c : Config) (jobs : List H.Job) (i : ℕ) (x : H.Job) (rows more : List Row) → i < length jobs → x ≡ get_or jobs i x → rows ≡ map (row_of c) (map job_seen (take i jobs)) → more ≡ rows ++ row_of c (job_seen x) ∷ []
    → more ≡ map (row_of c) (map job_seen (take (i + 1) jobs))
rows_more c jobs i x rows more lt is e m =
    let f : H.Job → Row = λ y. row_of c (job_seen y) in
    m
    ∙ (ap (λ (r : List Row). r ++ row_of c (job_seen x) ∷ []) e
    ∙ sym (ap (λ (l : List H.Job). map (row_of c) (map job_seen l)) (take_more jobs i x lt)
    ∙ (ap (map (row_of c)) (map-append job_seen (take i jobs) (get_or jobs i x ∷ []))
    ∙ (map-append (row_of c) (map job_seen (take i jobs)) (job_seen (get_or jobs i x) ∷ [])
    ∙ ap (λ (y : H.Job). map (row_of c) (map job_seen (take i jobs)) ++ row_of c (job_seen y) ∷ []) (sym is)))))

-- rows below a number, and one more
pub below_more : (rows more : List Row) (x : Row) (a b : ℕ) → All (λ (r : Row). r.number < a) rows → a ≤ b → x.number < b → more ≡ rows ++ x ∷ [] → All (λ (r : Row). r.number < b) more
below_more rows more x a b below le lt e =
    subst (λ (l : List Row). All (λ (r : Row). r.number < b) l) (sym e)
    (All-push (λ (r : Row). r.number < b) rows x (λ k d i. (let p = below k d i in omega arith)) lt)

-- the table of a state's claims is safe exactly where the state is
pub safe_both : (c : Config) (s : V.State) (t : Claims) → IsTable t → IsTableFor c (map job_seen s.jobs.items) t → IsSafe t ↔ IsSafeNow (state_seen c s)
safe_both c s t table made =
    let v = state_seen c s in
    let tie : IsTableOf t v = record { table = table; rows = made.rows; capacity = made.capacity; room = made.room } in
    (table_safe t v tie, safe_table t v tie)
