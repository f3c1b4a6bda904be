use Rattle.std.proofs.Common.{◌≡◌, ℕ, ◌+◌, ◌<◌, ◌≤◌, List, ◌∷◌, length, sym, ◌∙◌, ap, refl, subst, arith}
use Rattle.std.specs.Prelude.{sum_by}
use Rattle.std.proofs.lemmas.List.Sums.{sum_by_push}
use Rattle.account.specs.Seen.{base_seen}
use Rattle.account.specs.declared.entry.Outline.{Outline}
use Rattle.config_values.specs.Config.{Config, reserve_of}
use Rattle.spool_history.specs.Events.{Event}
use Rattle.spool_history.specs.Events.Event.{Opened}
use Rattle.spool_history.specs.Said.{Opening, openings}
use Rattle.spool_calls.specs.Looks.Detail.{Outlines}
use Rattle.spool_calls.specs.Kept.{Kept, Leaves}
use Rattle.locked_spool.specs.Held.{Held}
use Rattle.locked_spool.proofs.Written.{calm, room_for, unchanged, with_room, written}
use Rattle.locked_spool.proofs.locked.Locked.open_telling.Given.{Over}
use Rattle.locked_spool.proofs.locked.Locked.open_telling.Goals.{In_ok-job}
use Rattle.locked_spool.proofs.locked.Locked.open_telling.Goals as goal

module _ (g : Over) (c : In_ok-job g) where
  -- what the lock held before
  abbrev h : Held
  h = let a = c.self.inside in record { core = a.core; base = base_seen a.base; events = a.account.events; since = a.since; freed = a.freed; number = a.number; before = a.before; kinds_before = a.kinds_before; handed_before = a.handed_before }

  abbrev k : Kept
  k = c.accept.new.self

  abbrev q : ℕ
  q = c.in_ok-number.number

  abbrev event : Event Outline
  event = Opened c.in_ok-job.job c.args.sender q

  opened : Leaves Outlines h.base (event ∷ h.events) k
  opened = (c.in_ok-job.ensures.answer Outlines h.base h.events c.self.invariant.left).1

  -- its reserve is counted from now on
  counted : k.reserved ≡ h.core.reserved + reserve_of h.core.config q
  counted =
      let f : Opening → ℕ = λ (o : Opening). reserve_of h.core.config o.queue in
      let now : k.reserved ≡ h.base.reserved + sum_by f (openings (event ∷ h.events)) = opened.kept.reserved
      ∙ ap (λ (z : Config). h.base.reserved + sum_by (λ (o : Opening). reserve_of z o.queue) (openings (event ∷ h.events))) c.in_ok-job.ensures.config in
      let before = c.self.invariant.left.kept.reserved in
      let more = sum_by_push f (openings h.events) (record { job = c.in_ok-job.job; sender = c.args.sender; queue = q }) in
      omega (arith, now, before, more)

  -- that is what the account has room for
  within : k.reserved + 1 ≤ c.reserve.new.self.room + h.freed
  within =
      let n = counted in
      let f = c.self.invariant.freed_is in
      let all = c.counted_reserve.ensures.value in
      let r : c.reserve_of-reserve.result ≡ reserve_of h.core.config q = c.reserve_of-reserve.ensures.value ∙ ap (λ (z : Config). reserve_of z q) c.config.ensures in
      let le = c.in_ok-reserve.ensures.room in
      omega (arith, n, r, all, le)

pub write-requires-clause-room : goal.write-requires-clause-room
write-requires-clause-room g c =
    let n = (goal.at.write-requires-clause-room g c).In_ok-job in
    subst (λ (es : List (Event Outline)). length es < c.reserve.new.self.room) (sym c.in_ok-reserve.ensures.kept) (room_for c.self.invariant c.reserve.new.self.room (opened g n) c.in_ok-job.ensures.config (within g n))

pub invariant_of-self-2 : goal.invariant_of-self-2
invariant_of-self-2 g c =
    let n = (goal.at.invariant_of-self-2 g c).In_ok-job in
    let w = c.write.ensures in
    let r = c.in_ok-reserve.ensures in
    let more : (h g n).core.reserved ≤ (k g n).reserved = (let q = counted g n in omega arith) in
    written c.self.invariant c.write.new.account.events c.write.new.account.kept c.write.new.account.room c.write.new.books (opened g n) c.in_ok-job.ensures.config
    (w.events ∙ ap (λ (es : List (Event Outline)). event g n ∷ es) r.events) (w.kept ∙ ap (λ (es : List (Event Outline)). event g n ∷ es) r.kept) more
    (subst (λ (m : ℕ). (k g n).reserved + 1 ≤ m + (h g n).freed) (sym w.room) (within g n)) w.books (calm c.self.invariant (event g n) refl)

pub invariant_of-self-in_err-job : goal.invariant_of-self-in_err-job
invariant_of-self-in_err-job g c =
    let r = c.in_ok-reserve.ensures in
    with_room (unchanged c.self.invariant _ (c.in_err-job.ensures.answer _ _ _ c.self.invariant.left).1) c.reserve.new.self.events c.reserve.new.self.kept c.reserve.new.self.room r.events r.kept r.no_less
