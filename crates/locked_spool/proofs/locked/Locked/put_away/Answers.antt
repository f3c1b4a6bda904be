use Rattle.std.proofs.Common.{ℕ, ◌-◌, ◌+◌, ◌≤◌, sym, ◌∙◌, ap, subst}
use Rattle.account.specs.Logs.{Log}
use Rattle.account.specs.Seen.{base_seen}
use Rattle.account.specs.declared.base.Base.{Base as Kept}
use Rattle.config_values.specs.Config.{Config}
use Rattle.spool_history.specs.Now.{now}
use Rattle.spool_history.specs.Rotated.{rotated}
use Rattle.spool_calls.specs.Looks.Detail.{Outlines}
use Rattle.locked_spool.specs.Held.{Held}
use Rattle.locked_spool.specs.Rotation.{HasNumbers}
use Rattle.locked_spool.proofs.Rotated.{back, begins, made_within}
use Rattle.locked_spool.proofs.locked.Locked.put_away.Goals as goal

pub invariant_of-self : goal.invariant_of-self
invariant_of-self g c =
    let i = c.self.invariant in
    let a = c.self.inside in
    let h : Held = record { core = a.core; base = base_seen a.base; events = a.account.events; since = a.since; freed = a.freed; number = a.number; before = a.before; kinds_before = a.kinds_before; handed_before = a.handed_before } in
    let new = c.replace.ensures.after in
    let log = c.replace-2.ensures.after in
    let v = sym c.self.view_is in
    let room_is = ap (λ (x : ℕ). x - a.freed) (c.account.ensures.value ∙ ap (λ (z : Config). z.account) c.config.ensures) in
    begins i c.rotated_to.new.self (base_seen c.replace.new.dest) c.replace-2.new.dest.events c.replace-2.new.dest.kept c.replace-2.new.dest.room c.len-entries.result c.kinds-kinds.result c.handed-handed.result
    (subst HasNumbers v c.requires.numbers) (c.rotated_to.ensures.answer Outlines h.base h.events i.left) (back i c.rotated_to.new.self _ c.rotated_to.ensures.config (room_is))
    (ap base_seen new ∙ (c.requires.base ∙ ap (λ (z : Held). rotated (now z.core.config z.base z.events)) v))
    (ap (λ (l : Log). l.events) log ∙ c.requires.none) (ap (λ (l : Log). l.kept) log ∙ c.requires.none_there)
    (subst (λ (b : Kept). b.reserved + 1 ≤ c.replace-2.new.dest.room) (sym new) (subst (λ (l : Log). c.args.base.reserved + 1 ≤ l.room) (sym log) c.requires.room))
    c.len-entries.ensures.value c.kinds-kinds.ensures.value c.kinds-kinds.ensures.within c.handed-handed.ensures.value c.handed-handed.ensures.within

pub rotated_to-requires-clause-some : goal.rotated_to-requires-clause-some
rotated_to-requires-clause-some g c =
    let a = c.self.inside in
    made_within c.self.invariant _ (ap (λ (x : ℕ). x - a.freed) (c.account.ensures.value ∙ ap (λ (z : Config). z.account) c.config.ensures))
