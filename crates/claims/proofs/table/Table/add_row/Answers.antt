use Rattle.std.proofs.Common.{◌≡◌, ◌<◌, [], ◌∷◌, refl, subst, sym, arith, length}
use Rattle.std.specs.Prelude.{All}
use Rattle.std.proofs.lemmas.Slice.{pushed}
use Rattle.claims.specs.declared.row.Row.{Row}
use Rattle.claims.specs.Claims.{Claims}
use Rattle.claims.proofs.Tables.{open_table}
use Rattle.claims.proofs.table.Table.add_row.Goals as goal

pub invariant_of-self : goal.invariant_of-self
invariant_of-self c =
    let t : Claims = record { capacity = c.self.inside.capacity; free = c.self.inside.free; rows = c.self.inside.rows.items; room = c.self.inside.room } in
    let v : t ≡ c.args.self.now = c.self.view_is in
    let y = c.args.row in
    let r = subst (λ (u : Claims). length u.rows < u.room) (sym v) c.requires.room in
    let n = subst (λ (u : Claims). All (λ (other : Row). other.number < y.number) u.rows) (sym v) c.requires.greater in
    let k = subst (λ (u : Claims). (length y.held ≡ length u.capacity) × (length y.need ≡ length u.capacity)) (sym v) c.requires.kinds in
    (rw (pushed (y ∷ []) refl c.unwrap.ensures c.push.ensures.items) (open_table t y c.self.invariant.0 r n c.requires.holds k.0 k.1), let p = c.push.ensures.capacity in let i = c.self.invariant.1 in omega arith)
