use Rattle.std.proofs.Common.{◌≡◌, inl, inr, ℕ, ◌-◌, List, length, get_or, set, subst, ap, ap₂, sym, ◌∙◌, arith}
use Rattle.std.specs.Prelude.{IsTrue}
use Rattle.std.proofs.lemmas.List.{get_or_default}
use Rattle.counts.specs.Amounts.{amount}
use Rattle.counts.proofs.Sums.{within}
use Rattle.claims.specs.declared.row.Row.{Row}
use Rattle.claims.specs.Claims.{IsTable, Pairwise, IsLower, held_of, no_row}
use Rattle.claims.specs.Changes.{granted, granted_row}
use Rattle.claims.proofs.Tables.{granted_table}
use Rattle.ordered_safety.specs.Scan.{rows_at}
use Rattle.ordered_safety.specs.Compared.{OrderTakes}
use Rattle.ordered_safety.specs.Carried.{StillServes, carried, numbers_of}
use Rattle.ordered_safety.specs.Kept.{kept_numbers}
use Rattle.ordered_safety.specs.Room.{Room}
use Rattle.ordered_safety.proofs.safety.safe_after_page.Goals as goal
use Rattle.ordered_safety.proofs.safety.safe_after_page.Goals.{After-with-rows, Else-tried}

-- the rows with the page are those of the table that has it
rows_are : (c : After-with-rows) → c.with-rows.result ≡ (granted c.args.table.now c.args.row 0).rows
rows_are c =
    let rows = c.args.table.now.rows in
    let i = c.args.row in
    let same = c.rows-rows.ensures.rows in
    let here = c.index-rows-row.is ∙ (ap (λ (r : List Row). get_or r i c.index-rows-row.result) same ∙ get_or_default rows i c.index-rows-row.result no_row c.requires.here) in
    c.with-rows.ensures ∙ (ap (λ (r : List Row). set r i c.copy_with_page.new.asking) same ∙ ap (set rows i) (c.copy_with_page.ensures ∙ ap (granted_row 0) here))

page_table : (c : After-with-rows) → IsTable (granted c.args.table.now c.args.row 0)
page_table c =
    let h = c.rows-rows.ensures.table in
    let kinds = h.same_kinds in
    granted_table c.args.table.now c.args.row 0 h c.requires.here (let some = within c.args.table.now.free 0 c.requires.free in omega arith) c.requires.free

rising : (c : After-with-rows) → Pairwise IsLower c.with-rows.result
rising c = subst (Pairwise IsLower) (sym (rows_are c)) (page_table c).rising

-- what is free, without the page
page_taken : {free now left : List ℕ} → now ≡ free → left ≡ set now 0 (amount now 0 - 1) → left ≡ set free 0 (amount free 0 - 1)
page_taken same is = is ∙ ap (λ (f : List ℕ). set f 0 (amount f 0 - 1)) same

pub try_kept-tried-requires-clause-rising : goal.try_kept-tried-requires-clause-rising
try_kept-tried-requires-clause-rising c = rising (goal.at.try_kept-tried-requires-clause-rising c).After-with-rows

pub keep-requires-clause-rising : goal.keep-requires-clause-rising
keep-requires-clause-rising c = rising (goal.at.keep-requires-clause-rising c).After-with-rows

pub returns-then-tried-clause-carried : goal.returns-then-tried-clause-carried
returns-then-tried-clause-carried c = λ serves.
    let rows = rows_are (goal.at.returns-then-tried-clause-carried c).After-with-rows in
    let order = ap (λ (r : Room). r.order) c.scratch.view_is in
    c.keep.ensures.numbers
    ∙ (ap (λ (l : List ℕ). numbers_of (rows_at c.with-rows.result l)) c.as_slice-then-tried.ensures.value
    ∙ (c.try_kept-tried.ensures.carried ∙ ap₂ carried rows (ap kept_numbers c.as_slice.ensures.value ∙ order)))

pub returns-then-tried-clause-tests : goal.returns-then-tried-clause-tests
returns-then-tried-clause-tests c =
    let rows = rows_are (goal.at.returns-then-tried-clause-tests c).After-with-rows in
    let free = page_taken c.free.ensures.free c.take_page.ensures in
    let order = ap (λ (r : Room). r.order) c.scratch.view_is in
    let yes : IsTrue c.try_kept-tried.result.safe = c.if-tried.true in
    inl ((rw (rows, free, c.as_slice.ensures.value, order) at c.try_kept-tried.ensures.exact).0 yes, c.try_kept-tried.ensures.each yes ∙ ap length rows)

pub scan-scanned-requires-clause-rising : goal.scan-scanned-requires-clause-rising
scan-scanned-requires-clause-rising c = rising (goal.at.scan-scanned-requires-clause-rising c).After-with-rows

pub scan-scanned-requires-clause-small : goal.scan-scanned-requires-clause-small
scan-scanned-requires-clause-small c = λ kind.
    let s = goal.at.scan-scanned-requires-clause-small c in
    let h = page_table s.After-with-rows in
    let free = ap (λ (l : List ℕ). amount l kind) (page_taken c.free-2.ensures.free c.take_page-2.ensures) in
    let held = ap (held_of kind) (rows_are s.After-with-rows) in
    omega (arith, h.adds_up kind, h.small kind)

pub keep-requires-then-scanned-clause-rising : goal.keep-requires-then-scanned-clause-rising
keep-requires-then-scanned-clause-rising c = rising (goal.at.keep-requires-then-scanned-clause-rising c).After-with-rows

-- the trial failed
failed : (c : Else-tried) (rows : c.with-rows.result ≡ (granted c.args.table.now c.args.row 0).rows) → ¬ (StillServes (granted c.args.table.now c.args.row 0) c.args.scratch.now.order)
    × OrderTakes (granted c.args.table.now c.args.row 0) (carried (granted c.args.table.now c.args.row 0).rows c.args.scratch.now.order) c.try_kept-tried.result.tests
failed c rows =
    let free = page_taken c.free.ensures.free c.take_page.ensures in
    let order = ap (λ (r : Room). r.order) c.scratch.view_is in
    let exact = rw (rows, free, c.as_slice.ensures.value, order) at c.try_kept-tried.ensures.exact in
    (λ serves. absurd (let safe = exact.1 serves in let over = c.if-tried.false in cc), rw (rows, free, c.as_slice.ensures.value, order) at c.try_kept-tried.ensures.tests)

pub returns-clause-exact : goal.returns-clause-exact
returns-clause-exact c = rw (rows_are (goal.at.returns-clause-exact c).After-with-rows, page_taken c.free-2.ensures.free c.take_page-2.ensures) at c.scan-scanned.ensures.exact

pub returns-clause-carried : goal.returns-clause-carried
returns-clause-carried c = λ serves.
    let s = goal.at.returns-clause-carried c in
    absurd ((failed s.Else-tried (rows_are s.After-with-rows)).0 serves)

pub returns-clause-tests : goal.returns-clause-tests
returns-clause-tests c =
    let s = goal.at.returns-clause-tests c in
    let rows = rows_are s.After-with-rows in
    let tried = failed s.Else-tried rows in
    let scanned = rw (rows, page_taken c.free-2.ensures.free c.take_page-2.ensures) at c.scan-scanned.ensures.tests in
    inr (tried.0, c.try_kept-tried.result.tests, c.scan-scanned.result.tests, omega arith, tried.1, scanned)

pub returns-clause-few : goal.returns-clause-few
returns-clause-few c = λ serves.
    let s = goal.at.returns-clause-few c in
    absurd ((failed s.Else-tried (rows_are s.After-with-rows)).0 serves)
