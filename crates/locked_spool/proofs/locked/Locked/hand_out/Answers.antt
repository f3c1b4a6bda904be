use Rattle.std.proofs.Common.{◌≡◌, ℕ, ◌+◌, ◌-◌, ◌^◌, ◌≤◌, refl, sym, ◌∙◌, ap, subst, arith}
use Rattle.account.specs.Seen.{base_seen}
use Rattle.config_values.specs.Config.{Config}
use Rattle.spool_history.specs.Now.{now}
use Rattle.spool_laws.specs.Freeing.{still_reserved, wider}
use Rattle.spool_calls.specs.Kept.{Kept}
use Rattle.spool_core.proofs.Widened.{larger, some}
use Rattle.locked_spool.specs.Held.{Held}
use Rattle.locked_spool.specs.Rotation.{HasNumbers, gives_back}
use Rattle.locked_spool.proofs.Gives.{gave}
use Rattle.locked_spool.proofs.Rotated.{goes_on}
use Rattle.locked_spool.proofs.locked.Locked.hand_out.Goals as goal

pub invariant_of-self : goal.invariant_of-self
invariant_of-self g c =
    let i = c.self.invariant in
    let a = c.self.inside in
    let h : Held = record { core = a.core; base = base_seen a.base; events = a.account.events; since = a.since; freed = a.freed; number = a.number; before = a.before; kinds_before = a.kinds_before; handed_before = a.handed_before } in
    let v = sym c.self.view_is in
    let s = c.set_account.ensures in
    let n = c.args.more in
    let account : c.account-account.result ≡ a.core.config.account = c.account-account.ensures.value ∙ ap (λ (z : Config). z.account) c.config.ensures in
    let core : c.set_account.new.self ≡ record a.core { config = wider n a.core.config } =
    s.new ∙ ap (λ (x : ℕ). record a.core { config = record a.core.config { account = n + x } }) account in
    let most : n + a.core.config.account ≤ 2 ^ 62 = subst (λ (z : Held). n + z.core.config.account ≤ 2 ^ 62) v c.requires.account in
    let ranges = subst (λ (z : Kept). Rattle.config_values.specs.Ranges.IsConfig z.config) (sym core) (larger a.core.config (n + a.core.config.account) i.core_ranges (some a.core.config (n + a.core.config.account) i.core_ranges (omega arith)) most) in
    goes_on i c.set_account.new.self (base_seen a.base) c.go_on.new.self.events c.go_on.new.self.kept c.go_on.new.self.room n c.len-entries.result c.kinds-kinds.result c.handed-handed.result
    (subst HasNumbers v c.requires.numbers) core ranges s.answer
    (subst (λ (z : Held). n + z.freed ≤ z.core.reserved) v c.requires.within) (gave a.core.reserved a.freed (still_reserved (now a.core.config (base_seen a.base) a.account.events)) (a.core.reserved - a.freed) n refl i.freed_is (subst (λ (z : Held). n ≡ gives_back z) v c.requires.gives))
    refl c.go_on.ensures.events c.go_on.ensures.kept
    (subst (λ (m : ℕ). a.core.reserved + 1 ≤ m + (n + a.freed)) (sym c.go_on.ensures.room) (subst (λ (z : Held). z.core.reserved + 1 ≤ c.args.next.room + (n + z.freed)) v c.requires.room))
    c.len-entries.ensures.value c.kinds-kinds.ensures.value c.kinds-kinds.ensures.within c.handed-handed.ensures.value c.handed-handed.ensures.within
