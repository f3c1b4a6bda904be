use Rattle.std.proofs.Common.{◌≡◌, ℕ, ◌<◌, ap, subst, sym, ◌∙◌, length}
use Rattle.std.proofs.lemmas.List.{get_or_default}
use Rattle.counts.specs.Amounts.{amount}
use Rattle.claims.specs.declared.row.Row.{Row}
use Rattle.claims.specs.Claims.{Claims, row_at, no_row}
use Rattle.claims.specs.Changes.{with_amounts}
use Rattle.claims.proofs.Tables.{need_ended_is}
use Rattle.claims.proofs.table.Table.need_ends.Goals as goal

pub returns : goal.returns
returns c =
    let t : Claims = record { capacity = c.self.inside.capacity; free = c.self.inside.free; rows = c.self.inside.rows.items; room = c.self.inside.room } in
    let v : t ≡ c.args.self.now = c.self.view_is in
    let lt : c.args.row < length t.rows = subst (λ (u : Claims). c.args.row < length u.rows) (sym v) c.requires.here in
    let row : c.index.result.now ≡ row_at t.rows c.args.row = c.index.ensures ∙ get_or_default t.rows c.args.row _ no_row lt in
    let same : row_at t.rows c.args.row ≡ row_at c.args.self.now.rows c.args.row = ap (λ (u : Claims). row_at u.rows c.args.row) v in
    let held : c.get-held.result ≡ amount (row_at c.args.self.now.rows c.args.row).held c.args.kind = c.get-held.ensures ∙ ap (λ (r : Row). amount r.held c.args.kind) (row ∙ same) in
    c.set_amounts.ensures ∙ (ap (λ (n : ℕ). with_amounts c.args.self.now c.args.row c.args.kind n 0) held ∙ need_ended_is c.args.self.now c.args.row c.args.kind)
