use Rattle.std.proofs.Common.{◌≡◌, ◌≤◌, ◌<◌, ◌+◌, ◌-◌, subst, sym, ◌∙◌, length, set}
use Rattle.std.proofs.lemmas.List.{get_or_default}
use Rattle.counts.specs.Amounts.{amount}
use Rattle.claims.specs.declared.row.Row.{Row}
use Rattle.claims.specs.Claims.{Claims, row_at, no_row}
use Rattle.claims.specs.Changes.{row_with}
use Rattle.claims.proofs.Tables.{with_table}
use Rattle.claims.proofs.table.Table.set_amounts.Goals as goal

pub invariant_of-self : goal.invariant_of-self
invariant_of-self c =
    let t : Claims = record { capacity = c.self.inside.capacity; free = c.self.inside.free; rows = c.self.inside.rows.items; room = c.self.inside.room } in
    let v : t ≡ c.args.self.now = c.self.view_is in
    let lt : c.args.i < length t.rows = subst (λ (u : Claims). c.args.i < length u.rows) (sym v) c.requires.here in
    let kf : c.args.kind < length t.capacity = subst (λ (u : Claims). c.args.kind < length u.capacity) (sym v) c.requires.kind in
    let fits = subst (λ (u : Claims). c.args.held ≤ amount u.free c.args.kind + amount (row_at u.rows c.args.i).held c.args.kind) (sym v) c.requires.fits in
    let row : c.index_mut-row.result.now ≡ row_at t.rows c.args.i = c.index_mut-row.ensures.value ∙ get_or_default t.rows c.args.i _ no_row lt in
    let x = row_at t.rows c.args.i in
    let y : Row = row_with (set x.held c.args.kind c.args.held) (set x.need c.args.kind c.args.need) x in
    let free : c.set-3.new.self ≡ set t.free c.args.kind ((amount t.free c.args.kind + amount x.held c.args.kind) - c.args.held) = cc (c.set-3.ensures, c.get-free.ensures, c.get-old.ensures, row) in
    let made : row_with c.set.new.self c.set-2.new.self c.index_mut-row.result.now ≡ y = cc (c.set.ensures, c.set-2.ensures, row) in
    (rw (free, made) (with_table t c.args.i c.args.kind c.args.held c.args.need c.self.invariant.0 lt kf fits), c.self.invariant.1)
