use Rattle.std.proofs.Common.{◌≡◌, ℕ, ◌-◌, sym, ◌∙◌, ap, subst}
use Rattle.account.specs.Seen.{base_seen}
use Rattle.spool_calls.specs.Looks.Detail.{Outlines}
use Rattle.locked_spool.specs.Held.{Held}
use Rattle.locked_spool.specs.Rotation.{gives_back}
use Rattle.locked_spool.proofs.locked.Locked.gives_back.Goals as goal

pub returns : goal.returns
returns g c =
    let a = c.self.inside in
    let still = c.still_reserved-still.ensures Outlines (base_seen a.base) a.account.events c.self.invariant.left in
    let counted = subst (λ (z : Held). c.counted.result ≡ z.core.reserved - z.freed) (sym c.self.view_is) c.counted.ensures.value in
    subst (λ (z : Held). c.saturating_sub.result ≡ gives_back z) c.self.view_is
    (c.saturating_sub.ensures
    ∙ (ap (λ (n : ℕ). n - c.still_reserved-still.result) (c.from.ensures ∙ counted)
    ∙ ap (λ (n : ℕ). a.core.reserved - a.freed - n) still))
