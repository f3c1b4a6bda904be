use Rattle.std.proofs.Common.{◌≡◌, ◌<◌, ap, subst, sym, ◌∙◌, arith, length}
use Rattle.std.proofs.lemmas.List.{get_or_default}
use Rattle.counts.specs.Amounts.{sum_of}
use Rattle.claims.specs.declared.row.Row.{Row}
use Rattle.claims.specs.Claims.{Claims, row_at, no_row}
use Rattle.claims.proofs.Tables.{close_table}
use Rattle.claims.proofs.table.Table.close_row.Goals as goal

pub invariant_of-self : goal.invariant_of-self
invariant_of-self c =
    let t : Claims = record { capacity = c.self.inside.capacity; free = c.self.inside.free; rows = c.self.inside.rows.items; room = c.self.inside.room } in
    let v : t ≡ c.args.self.now = c.self.view_is in
    let lt : c.args.row < length t.rows = subst (λ (u : Claims). c.args.row < length u.rows) (sym v) c.requires in
    let row : c.remove-row.result ≡ row_at t.rows c.args.row = c.remove-row.ensures.value ∙ get_or_default t.rows c.args.row _ no_row lt in
    let free : c.add.new.self ≡ sum_of t.free (row_at t.rows c.args.row).held = c.add.ensures ∙ ap (λ (r : Row). sum_of t.free r.held) row in
    (rw (c.remove-row.ensures.items, free) (close_table t c.args.row c.self.invariant.0 lt), let p = c.remove-row.ensures.capacity in let i = c.self.invariant.1 in omega arith)
