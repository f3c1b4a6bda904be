-- A page comes back from a printer, and its job goes on: where its page doesn't come again it is given back, else it is in the
-- chain again.
use Rattle.std.proofs.Common.{◌≡◌, ◌==◌, ℕ, ◌+◌, ◌-◌, ◌<◌, ◌≤◌, Bool, true, false, List, ◌∷◌, length, drop, refl, sym, ◌∙◌, ap, ap₂, arith}
use Rattle.std.specs.Prelude.{Option, option_map, slice_get}
use Rattle.std.specs.List.{list_any}
use Rattle.std.proofs.lemmas.Bool.Decides.{nat_tests}
use Rattle.counts.specs.Amounts.{amount}
use Rattle.claims.specs.Claims.{Claims}
use Rattle.claims.specs.Changes.{given_back}
use Rattle.page_chain.specs.Changes.{comes_again}
use Rattle.config_values.specs.Config.{Config}
use Rattle.spool_history.specs.Events.{Sheet}
use Rattle.spool_history.specs.Events.Progress.{Going}
use Rattle.spool_history.specs.Events.Turn.{Printed}
use Rattle.lpd_values.specs.Told.{prints_in}
use Rattle.spool_history.specs.Acts.{Page, all_pages, is_same_page, pages_among}
use Rattle.spool_history.specs.Now.{Job, is_held, places, pages_kept, row_of}
use Rattle.spool_history.specs.Steps.{turned}
use Rattle.spool_laws.specs.Sums.{chained_of}
use Rattle.spool_laws.proofs.Copies.{kept_some}
use Rattle.step_lemmas.proofs.HeldJobs.Out.{OutOf, drop_first}
use Rattle.spool_calls.specs.Kept.{place_of, spots}
use Rattle.step_lemmas.proofs.Rows.Tables.{Here, WithRow, given_row, given_leaves, same_leaves}
use Rattle.step_lemmas.proofs.Rows.Amounts.{row_with_amounts}
use Rattle.step_lemmas.proofs.Rows.Received.{held_received, chained_received}
use Rattle.step_lemmas.proofs.Rows.Handing.{Goes, row_begun}
use Rattle.std.proofs.lemmas.List.{drop-map}
use Rattle.std.proofs.lemmas.Option.{slice_get-map}
use Rattle.step_lemmas.proofs.HeldJobs.EachPage.{Nth, among_again, among_last, nth}
use Rattle.spool_calls.proofs.Spots.{any_spot}
use Rattle.spool_laws.proofs.Copies.{places_there}

-- the page of the place that is out comes again: a place that wasn't handed out is of the same page
abbrev pub again : {C : Type 0} → Job C → Bool
again x = comes_again (drop x.handed (spots x)) (slice_get (spots x) x.back)

-- the page of a job that is out: the one of the place after those that came back
pub record IsOut {C : Type 0} (x : Job C) : Type 0 where
  pub goes : Goes x
  pub one : x.handed ≡ x.back + 1
  pub within : x.back < length (places x)

-- what is known of the job whose page comes back says so, where it hasn't ended
pub is_out_of : {C : Type 0} (q : ℕ) (sheet : Sheet C) (x : Job C) → OutOf q sheet x → x.ended ≡ false → IsOut x
is_out_of q sheet x o e = record { goes = (o.received, e); one = o.handed; within = (drop_first (places x) x.back o.page o.later o.page o.left).0 }

-- whether the page comes again, in pages
again_is : {C : Type 0} (x : Job C) → IsOut x → (n : Nth (places x) x.back) → again x ≡ list_any (is_same_page n.here) (drop (x.back + 1) (places x))
again_is {C} x o n =
    ap₂ comes_again (ap (λ (m : ℕ). drop m (spots x)) o.one ∙ drop-map (place_of {C = C}) (x.back + 1) (places x))
    (slice_get-map (place_of {C = C}) (places x) x.back ∙ ap (λ (p : Option (Page C)). option_map place_of p) n.is)
    ∙ any_spot n.here (drop (x.back + 1) (places x))

-- the pages that are kept before
kept_before : {C : Type 0} (x : Job C) (n : Nth (places x) x.back) → length (pages_kept x) ≡ length (pages_among (n.here ∷ drop (x.back + 1) (places x)) (all_pages 0 x.files))
kept_before {C} x n = ap (λ (l : List (Page C)). length (pages_among l (all_pages 0 x.files))) n.left

-- a page that comes again is kept
again_kept : {C : Type 0} (x : Job C) → IsOut x → again x ≡ true → length (pages_kept (turned (Printed Going) x)) ≡ length (pages_kept x)
again_kept x o e =
    let n = nth (places x) x.back o.within in
    sym (kept_before x n ∙ among_again n.here (drop (x.back + 1) (places x)) (all_pages 0 x.files) (sym (again_is x o n) ∙ e))

-- and one that doesn't is kept no more
last_kept : {C : Type 0} (x : Job C) → IsOut x → again x ≡ false → length (pages_kept (turned (Printed Going) x)) + 1 ≡ length (pages_kept x)
last_kept x o e =
    let n = nth (places x) x.back o.within in
    let has = places_there n.here x.files (prints_in x.control) n.has in
    sym (kept_before x n ∙ among_last n.here (drop (x.back + 1) (places x)) x.files has (sym (again_is x o n) ∙ e))

-- a page of it was handed out
begun : {C : Type 0} (x : Job C) → IsOut x → (x.handed == 0) ≡ false
begun x o = (let one = o.one in grind (arith, nat_tests))

-- where its page comes again the row of the job is as it was
pub again_row : {C : Type 0} (c : Config) (x : Job C) → IsOut x → again x ≡ true → row_of c (turned (Printed Going) x) ≡ row_of c x
again_row {C} c x o e =
    let y : Job C = turned (Printed Going) x in
    row_begun c y o.goes (begun x o) ∙ (ap (λ (n : ℕ). row_with_amounts c x n 1 0 0) (again_kept x o e) ∙ sym (row_begun c x o.goes (begun x o)))

-- so is the table
pub again_leaves : {C : Type 0} (c : Config) (t : Claims) (i : ℕ) (x : Job C) → Here t i (row_of c x) → IsOut x → again x ≡ true → WithRow t t i (row_of c (turned (Printed Going) x)) (amount t.free 0)
again_leaves c t i x h o e = same_leaves t i (row_of c x) (row_of c (turned (Printed Going) x)) h (again_row c x o e)

-- and one page more is in its chain
pub again_chain : {C : Type 0} (x : Job C) → IsOut x → again x ≡ true → chained_of (turned (Printed Going) x) ≡ chained_of x + 1
again_chain {C} x o e =
    let y : Job C = turned (Printed Going) x in
    omega (arith, again_kept x o e, kept_some x o.within, o.one, chained_received x o.goes.1 o.goes.0, chained_received y o.goes.1 o.goes.0)

-- where its page doesn't come again the row that gave a page back is that of the job after
pub last_row : {C : Type 0} (c : Config) (x : Job C) → IsOut x → again x ≡ false → given_row 0 1 (row_of c x) ≡ row_of c (turned (Printed Going) x)
last_row {C} c x o e =
    let y : Job C = turned (Printed Going) x in
    let less : length (pages_kept x) - 1 ≡ length (pages_kept y) = omega (arith, last_kept x o e) in
    ap (given_row 0 1) (row_begun c x o.goes (begun x o)) ∙ (ap (λ (n : ℕ). row_with_amounts c x n 1 0 0) less ∙ sym (row_begun c y o.goes (begun x o)))

-- the row of a job of which a page is out holds a page
pub out_holds : {C : Type 0} (c : Config) (x : Job C) → IsOut x → 1 ≤ amount (row_of c x).held 0
out_holds c x o = omega (arith, kept_some x o.within, held_received x o.goes.1 o.goes.0)

-- the table after it gave that back
pub last_leaves : {C : Type 0} (c : Config) (t : Claims) (i : ℕ) (x : Job C) → Here t i (row_of c x) → IsOut x → again x ≡ false → WithRow t (given_back t i 0 1) i (row_of c (turned (Printed Going) x)) (amount t.free 0 + 1)
last_leaves c t i x h o e = given_leaves t i 1 (row_of c x) (row_of c (turned (Printed Going) x)) h (out_holds c x o) (last_row c x o e)

-- and its chain is as it was
pub last_chain : {C : Type 0} (x : Job C) → IsOut x → again x ≡ false → chained_of (turned (Printed Going) x) ≡ chained_of x
last_chain {C} x o e =
    let y : Job C = turned (Printed Going) x in
    omega (arith, last_kept x o e, o.one, chained_received x o.goes.1 o.goes.0, chained_received y o.goes.1 o.goes.0)

-- the job is held after that
pub going_held : {C : Type 0} (x : Job C) → Goes x → is_held (turned (Printed Going) x) ≡ true
going_held x g = (let e = g.1 in rw e refl)
