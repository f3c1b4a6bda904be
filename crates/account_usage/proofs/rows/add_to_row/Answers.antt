use Rattle.std.proofs.Common.{◌≡◌, ℕ, List, [], ◌∷◌, ◌++◌, Option, Some, None, is_some, false, true≢false, Vec, refl, sym, ◌∙◌, ap, subst, arith}
use Rattle.std.specs.Global.{Global}
use Rattle.std.specs.Map.{lookup}
use Rattle.std.specs.Str.{bytes_eq}
use Rattle.std.proofs.lemmas.List.Sums.{sum_by_push}
use Rattle.indexmap.specs.IndexMap.{IndexMap, insert_entry}
use Rattle.indexmap.proofs.CallerLemmas.{insert_entry-new}
use Rattle.account_usage.specs.declared.rows.Totals.{Totals}
use Rattle.account_usage.specs.Rows.{Row, row_names, rows_printed, rows_sent}
use Rattle.account_usage.proofs.RowLemmas.{names-push, names-write, sum_by-set_value_at, value-le-sum_by}
use Rattle.account_usage.proofs.rows.add_to_row.Goals as goal

pub returns-in-Some-clause-names : goal.returns-in-Some-clause-names
returns-in-Some-clause-names c = names-write c.args.name.now c.args.rows.now.entries c.in-Some.at c.plus.result c.in-Some.ensures.found

pub returns-in-Some-clause-sent : goal.returns-in-Some-clause-sent
returns-in-Some-clause-sent c =
    let es = c.args.rows.now.entries in
    let was = c.index_mut-totals.result.now in
    let sum = sum_by-set_value_at (λ (t : Totals). t.sent) es c.in-Some.at was c.plus.result c.index_mut-totals.ensures.value in
    omega (arith, sum, value-le-sum_by (λ (t : Totals). t.sent) es c.in-Some.at was c.index_mut-totals.ensures.value)

pub returns-in-Some-clause-printed : goal.returns-in-Some-clause-printed
returns-in-Some-clause-printed c =
    let es = c.args.rows.now.entries in
    let was = c.index_mut-totals.result.now in
    let sum = sum_by-set_value_at (λ (t : Totals). t.printed) es c.in-Some.at was c.plus.result c.index_mut-totals.ensures.value in
    omega (arith, sum, value-le-sum_by (λ (t : Totals). t.printed) es c.in-Some.at was c.index_mut-totals.ensures.value)

-- where the name isn't there, its row is put behind the others
put : (name : List ℕ) {S : Type 0} (rows : IndexMap (Vec ℕ Global) Totals S) (row : Row) → row.0.items ≡ name → false ≡ is_some (lookup (λ k. bytes_eq name k.items) rows.entries)
    → insert_entry (λ k q. bytes_eq k.items q.items) rows.entries row.0 row.1 ≡ rows.entries ++ row ∷ []
put name rows row has absent =
    let here = subst (λ (n : List ℕ). false ≡ is_some (lookup (λ k. bytes_eq n k.items) rows.entries)) (sym has) absent in
    insert_entry-new (λ k q. bytes_eq k.items q.items) rows row.0 row.1 (none (lookup (λ k. bytes_eq row.0.items k.items) rows.entries) here)
  where
    none : (o : Option Totals) → false ≡ is_some o → o ≡ None
    none None h = refl
    none (Some t) h = absurd (true≢false (sym h))

pub returns-clause-names : goal.returns-clause-names
returns-clause-names c =
    let row : Row = (c.in_ok-from_slice.field-0, c.args.more) in
    let has = c.in_ok-from_slice.ensures.items in
    let absent = c.in_default.ensures.found in
    ap row_names (c.in_ok-insert.ensures.entries ∙ put c.args.name.now c.args.rows.now row has absent)
    ∙ names-push c.args.name.now c.args.rows.now.entries row has absent

pub returns-clause-sent : goal.returns-clause-sent
returns-clause-sent c =
    let row : Row = (c.in_ok-from_slice.field-0, c.args.more) in
    let entries = c.in_ok-insert.ensures.entries ∙ put c.args.name.now c.args.rows.now row c.in_ok-from_slice.ensures.items c.in_default.ensures.found in
    λ _. ap rows_sent entries ∙ sum_by_push (λ (r : Row). r.1.sent) c.args.rows.now.entries row

pub returns-clause-printed : goal.returns-clause-printed
returns-clause-printed c =
    let row : Row = (c.in_ok-from_slice.field-0, c.args.more) in
    let entries = c.in_ok-insert.ensures.entries ∙ put c.args.name.now c.args.rows.now row c.in_ok-from_slice.ensures.items c.in_default.ensures.found in
    λ _. ap rows_printed entries ∙ sum_by_push (λ (r : Row). r.1.printed) c.args.rows.now.entries row
