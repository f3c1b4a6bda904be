-- One entry more in the account, and what it tells of its job.
use Rattle.std.proofs.Common.{◌≡◌, ℕ, ◌+◌, ◌<◌, ◌≤◌, Bool, false, List, ◌∷◌, ◌++◌, length, refl, sym, ◌∙◌, ap, subst, arith}
use Rattle.std.specs.Prelude.{sum_by}
use Rattle.account.specs.declared.entry.Outline.{Outline}
use Rattle.account.specs.Kinds.{kind_of}
use Rattle.config_values.specs.Config.{Config, reserve_of}
use Rattle.config_values.specs.Ranges.{IsConfig}
use Rattle.spool_history.specs.Events.{Event}
use Rattle.spool_history.specs.Said.{Opening, openings}
use Rattle.spool_history.specs.Now.{now}
use Rattle.spool_history.specs.Legal.{IsLegal}
use Rattle.spool_laws.specs.Freeing.{MayFree}
use Rattle.spool_calls.specs.Looks.{size}
use Rattle.spool_calls.specs.Looks.Detail.{Outlines}
use Rattle.spool_calls.specs.Kept.{Kept, Leaves}
use Rattle.spool_calls.specs.declared.answers.Receipt.{Receipt}
use Rattle.spool_calls.specs.declared.answers.Receipt.TheVariants as receipt
use Rattle.spool_calls.specs.contracts.answers.Receipt.{the_type}
use Rattle.spool_calls.specs.Calls.{is_whole}
use Rattle.spool_ledgers.specs.Sums.{Sums, with_entry}
use Rattle.locked_spool.specs.Held.{AreKept, AreMarked, Held, IsHeld}
use Rattle.locked_spool.proofs.Marked.{fails, marked_still}
use denote.Enum.Bare.{sameb}

module _ {config : Config} {h : Held} {kept : List (Event Outline)} {room : ℕ} {totals : Sums} {marked : Bool} (is : IsHeld config h kept room totals marked) where
  -- the configuration of the core is in its ranges
  pub in_ranges : IsConfig h.core.config
  in_ranges = is.core_ranges

  -- nothing has changed
  pub unchanged : (k : Kept) → k ≡ h.core → IsHeld config (record h { core = k }) kept room totals marked
  unchanged k same = subst (λ (z : Kept). IsHeld config (record h { core = z }) kept room totals marked) (sym same) is

  -- one event more, whose entry is there
  kept_more : (e : Event Outline) (k : Kept) → k.config ≡ h.core.config → AreKept (record h { core = k; events = e ∷ h.events }) (e ∷ kept)
  kept_more e k same =
      let r = is.kept_is in
      record {
        past = r.past;
        all = ap (λ (es : List (Event Outline)). e ∷ es) r.all;
        since = r.since;
        frees = subst (λ (c : Config). MayFree (size Outlines) c h.base r.past h.freed) (sym same) r.frees;
      }

  -- where a core counts no more than the account has room for, there is room for the entry that led to it
  pub room_for : {e : Event Outline} {k : Kept} (more : ℕ) → Leaves Outlines h.base (e ∷ h.events) k → k.config ≡ h.core.config → k.reserved + 1 ≤ more + h.freed → length kept < more
  room_for {e = e} {k = k} more l same within =
      let r = is.kept_is in
      let whole : e ∷ (kept ++ r.past) ≡ e ∷ h.events = ap (λ (es : List (Event Outline)). e ∷ es) r.all in
      let c = h.core.config in
      let legal : IsLegal (size Outlines) c h.base (e ∷ (kept ++ r.past)) = subst (λ (es : List (Event Outline)). IsLegal (size Outlines) c h.base es) (sym whole) (subst (λ (z : Config). IsLegal (size Outlines) z h.base (e ∷ h.events)) same l.legal) in
      let n : length (e ∷ kept) + h.freed ≤ (now c h.base (e ∷ (kept ++ r.past))).reserved + 1 = r.frees (e ∷ kept) legal in
      let there : (now c h.base (e ∷ (kept ++ r.past))).reserved ≡ k.reserved = ap (λ (es : List (Event Outline)). (now c h.base es).reserved) whole ∙ (ap (λ (z : Config). (now z h.base (e ∷ h.events)).reserved) (sym same) ∙ sym l.kept.reserved) in
      omega (arith, n, there, within)

  -- but for an acceptance no event changes what is counted
  pub counted : {e : Event Outline} {k : Kept} → Leaves Outlines h.base (e ∷ h.events) k → k.config ≡ h.core.config → openings (e ∷ h.events) ≡ openings h.events → k.reserved ≡ h.core.reserved
  counted {e = e} {k = k} l same none =
      l.kept.reserved
      ∙ (ap (λ (c : Config). h.base.reserved + sum_by (λ (o : Opening). reserve_of c o.queue) (openings (e ∷ h.events))) same
      ∙ (ap (λ (os : List Opening). h.base.reserved + sum_by (λ (o : Opening). reserve_of h.core.config o.queue) os) none
      ∙ sym is.left.kept.reserved))

  -- so there is room for its entry
  pub room_here : {e : Event Outline} {k : Kept} → Leaves Outlines h.base (e ∷ h.events) k → k.config ≡ h.core.config → openings (e ∷ h.events) ≡ openings h.events → length kept < room
  room_here {e = e} {k = k} l same none =
      let r = counted l same none in
      let w = is.room_is in
      room_for room l same (omega (arith, r, w))

  -- what is marked stays so by an event by which no page fails
  pub calm : (e : Event Outline) → fails e ≡ false → AreMarked config h.base (e ∷ h.events) marked
  calm e none = marked_still config h.base h.events marked is.stops e none

  pub calm_at : {e : Event Outline} (events : List (Event Outline)) → events ≡ e ∷ h.events → fails e ≡ false → AreMarked config h.base events marked
  calm_at {e = e} events one none = subst (λ (es : List (Event Outline)). AreMarked config h.base es marked) (sym one) (calm e none)

  pub same_marks : (events : List (Event Outline)) → events ≡ h.events → AreMarked config h.base events marked
  same_marks events one = subst (λ (es : List (Event Outline)). AreMarked config h.base es marked) (sym one) is.stops

  -- what the lock keeps once a core did a step and its entry was written
  pub written : {e : Event Outline} {k : Kept} (events kept' : List (Event Outline)) (more : ℕ) (sums : Sums) → Leaves Outlines h.base (e ∷ h.events) k → k.config ≡ h.core.config
      → events ≡ e ∷ h.events → kept' ≡ e ∷ kept → h.core.reserved ≤ k.reserved → k.reserved + 1 ≤ more + h.freed → sums ≡ with_entry (kind_of e) totals
      → {after : Bool} → AreMarked config h.base (e ∷ h.events) after → IsHeld config (record h { core = k; events = events }) kept' more sums after
  written {e = e} {k = k} events kept' more sums l same one one' grown within added {after = after} stops =
      let n = is.entries in
      let m = is.kinds in
      let o = is.handed in
      let f = is.freed_is in
      subst (λ (es : List (Event Outline)). IsHeld config (record h { core = k; events = es }) kept' more sums after) (sym one)
      (subst (λ (es : List (Event Outline)). IsHeld config (record h { core = k; events = e ∷ h.events }) es more sums after) (sym one')
      (subst (λ (s : Sums). IsHeld config (record h { core = k; events = e ∷ h.events }) (e ∷ kept) more s after) (sym added) (record {
        config_is = same ∙ is.config_is;
        ranges = is.ranges;
        core_ranges = subst IsConfig (sym same) is.core_ranges;
        left = l;
        counts = is.counts;
        kept_is = kept_more e k same;
        freed_is = omega (arith, f, grown);
        room_is = within;
        entries = omega (arith, n);
        kinds = omega (arith, m);
        handed = omega (arith, o);
        few = is.few;
        few_kinds = is.few_kinds;
        few_handed = is.few_handed;
        few_since = is.few_since;
        stops = stops;
      })))

  -- the same where the core is said to be where the account leaves it
  pub written_left : {e : Event Outline} {k : Kept} (events kept' : List (Event Outline)) (more : ℕ) (sums : Sums) → Leaves Outlines h.base events k → k.reserved ≡ h.core.reserved → k.config ≡ h.core.config
      → events ≡ e ∷ h.events → kept' ≡ e ∷ kept → more ≡ room → sums ≡ with_entry (kind_of e) totals
      → {after : Bool} → AreMarked config h.base events after → IsHeld config (record h { core = k; events = events }) kept' more sums after
  written_left {e = e} {k = k} events kept' more sums l r same one one' still added {after = after} stops =
      let w = is.room_is in
      written {e = e} {k = k} events kept' more sums (subst (λ (es : List (Event Outline)). Leaves Outlines h.base es k) one l) same one one' (omega (arith, r)) (omega (arith, r, w, still)) added
      (subst (λ (es : List (Event Outline)). AreMarked config h.base es after) one stops)

  -- the same for an event that accepts no job
  pub written_as : {e : Event Outline} {k : Kept} (events kept' : List (Event Outline)) (more : ℕ) (sums : Sums) → Leaves Outlines h.base (e ∷ h.events) k → k.config ≡ h.core.config
      → openings (e ∷ h.events) ≡ openings h.events → events ≡ e ∷ h.events → kept' ≡ e ∷ kept → more ≡ room → sums ≡ with_entry (kind_of e) totals
      → {after : Bool} → AreMarked config h.base (e ∷ h.events) after → IsHeld config (record h { core = k; events = events }) kept' more sums after
  written_as {e = e} {k = k} events kept' more sums l same none one one' still added stops =
      let r = counted l same none in
      let w = is.room_is in
      written events kept' more sums l same one one' (omega (arith, r)) (omega (arith, r, w, still)) added stops

  -- and by which no page fails
  pub written_here : {e : Event Outline} {k : Kept} (events kept' : List (Event Outline)) (more : ℕ) (sums : Sums) → Leaves Outlines h.base (e ∷ h.events) k → k.config ≡ h.core.config
      → openings (e ∷ h.events) ≡ openings h.events → fails e ≡ false → events ≡ e ∷ h.events → kept' ≡ e ∷ kept → more ≡ room → sums ≡ with_entry (kind_of e) totals
      → IsHeld config (record h { core = k; events = events }) kept' more sums marked
  written_here {e = e} {k = k} events kept' more sums l same none no_failure one one' still added =
      written_as events kept' more sums l same none one one' still added (calm e no_failure)

  -- the same with other room, where no entry was written
  pub with_room : (events kept' : List (Event Outline)) (more : ℕ) → events ≡ h.events → kept' ≡ kept → room ≤ more → IsHeld config (record h { events = events }) kept' more totals marked
  with_room events kept' more one one' le =
      let w = is.room_is in
      subst (λ (es : List (Event Outline)). IsHeld config (record h { events = es }) kept' more totals marked) (sym one)
      (subst (λ (es : List (Event Outline)). IsHeld config h es more totals marked) (sym one') (record {
        config_is = is.config_is;
        ranges = is.ranges;
        core_ranges = is.core_ranges;
        left = is.left;
        counts = is.counts;
        kept_is = is.kept_is;
        freed_is = is.freed_is;
        room_is = omega (arith, w, le);
        entries = is.entries;
        kinds = is.kinds;
        handed = is.handed;
        few = is.few;
        few_kinds = is.few_kinds;
        few_handed = is.few_handed;
        few_since = is.few_since;
        stops = is.stops;
      }))

-- a job is whole where "received" is told
pub whole_is : (got : Receipt) → sameb the_type got receipt.Received ≡ is_whole got
whole_is receipt.Stored = refl
whole_is receipt.Received = refl
