-- An account that is put away.
use Rattle.std.proofs.Common.{◌⊎◌, inl, inr, ◌≡◌, ℕ, ◌+◌, ◌-◌, ◌*◌, ◌≤◌, ◌^◌, Bool, List, [], ◌++◌, length, refl, sym, ◌∙◌, ap, subst, arith, append_assoc, length-append}
use Rattle.account.specs.declared.entry.Outline.{Outline}
use Rattle.account.specs.Kinds.{handed_in, kinds_in}
use Rattle.config_values.specs.Config.{Config}
use Rattle.spool_history.specs.Base.{Base}
use Rattle.spool_history.specs.Events.{Event}
use Rattle.spool_history.specs.Now.{now}
use Rattle.spool_history.specs.Legal.{IsLegal}
use Rattle.spool_history.specs.Rotated.{rotated}
use Rattle.spool_laws.specs.Reserve.{CountsStops}
use Rattle.spool_laws.proofs.Rotated.{counts}
use Rattle.spool_calls.specs.Looks.{Detail, What, size}
use Rattle.spool_calls.specs.Looks.Detail.{Outlines}
use Rattle.spool_calls.specs.Kept.{Kept, Leaves}
use Rattle.spool_ledgers.specs.Sums.{Sums}
use Rattle.config_values.specs.Ranges.{IsConfig}
use Rattle.spool_laws.specs.Freeing.{MayFree, still_reserved, wider}
use Rattle.spool_laws.proofs.Freeing.{held_reserve_is_enough}
use Rattle.spool_laws.proofs.Reserve.{reserve_is_enough}
use Rattle.locked_spool.specs.Held.{AreMarked, Held, IsHeld}
use Rattle.locked_spool.specs.Rotation.{HasNumbers}
use Rattle.locked_spool.proofs.Gives.{none_wider}
use Rattle.locked_spool.proofs.Marked.{marked_rotated}

module _ {config : Config} {h : Held} {kept : List (Event Outline)} {room : ℕ} {totals : Sums} {marked : Bool} (is : IsHeld config h kept room totals marked) where
  -- so many entries are there
  pub kept_len : length kept ≡ length h.events - h.since
  kept_len =
      let k = is.kept_is in
      let n = length-append kept k.past in
      let a = ap length k.all in
      let s = k.since in
      omega (arith, n, a, s)

  pub account_is : h.core.config.account ≡ h.freed + config.account
  account_is = ap (λ (c : Config). c.account) is.config_is

  -- without what was given back the account is as large as it was made
  pub made_is : (room : ℕ) → room ≡ h.core.config.account - h.freed → room ≡ config.account
  made_is room e = (let a = account_is in omega (arith, e, a))

  pub made_within : (room : ℕ) → room ≡ h.core.config.account - h.freed → (1 ≤ room) × (room ≤ 2 ^ 62)
  made_within room e =
      let m = made_is room e in
      let r = is.ranges in
      let low = r.account_low in
      let high = r.account_high in
      (omega (arith, m, low), omega (arith, m, high))

  pub back : (k : Kept) (room : ℕ) → k.config ≡ record h.core.config { account = room } → room ≡ h.core.config.account - h.freed → k.config ≡ config
  back k room e r = e ∙ (ap (λ (c : Config). record c { account = room }) is.config_is ∙ ap (λ (x : ℕ). record config { account = x }) (made_is room r))

  -- what the lock keeps once the entries so far were put away
  pub begins : (k : Kept) (base : Base) (events kept' : List (Event Outline)) (more len kinds handed : ℕ) → HasNumbers h → Leaves Outlines (rotated (now h.core.config h.base h.events)) [] k → k.config ≡ config
      → base ≡ rotated (now h.core.config h.base h.events) → events ≡ [] → kept' ≡ [] → base.reserved + 1 ≤ more → len ≡ length kept → kinds ≡ kinds_in kept → kinds ≤ 13 * length kept → handed ≡ handed_in kept → handed ≤ length kept
      → IsHeld config (record { core = k; base = base; events = events; since = 0; freed = 0; number = h.number + 1; before = h.before + len; kinds_before = h.kinds_before + kinds; handed_before = h.handed_before + handed }) kept' more totals marked
  begins k base events kept' more len kinds handed numbers left same from none none' within long sum most count few =
      let b : Base = rotated (now h.core.config h.base h.events) in
      let reserved : k.reserved ≡ b.reserved + 0 = left.kept.reserved in
      let r : base.reserved ≡ b.reserved = ap (λ (x : Base). x.reserved) from in
      let n = is.entries in
      let m = is.kinds in
      let o = is.handed in
      let w = is.few_kinds in
      let v = is.few_handed in
      let fit = numbers.1 in
      let there = kept_len in
      let counted : CountsStops k.config b = subst (λ (c : Config). CountsStops c b) (sym same) (subst (λ (c : Config). CountsStops c b) is.config_is (counts h.core.config h.base h.events)) in
      let enough : MayFree (size Outlines) k.config b [] 0 = λ later l. (let q = reserve_is_enough (size Outlines) k.config b (later ++ []) counted l in let len' = length-append later [] in omega arith) in
      let N : List (Event Outline) → Base → Held = λ es x. record { core = k; base = x; events = es; since = 0; freed = 0; number = h.number + 1; before = h.before + len; kinds_before = h.kinds_before + kinds; handed_before = h.handed_before + handed } in
      subst (λ (x : Base). IsHeld config (N events x) kept' more totals marked) (sym from)
      (subst (λ (es : List (Event Outline)). IsHeld config (N es b) kept' more totals marked) (sym none)
      (subst (λ (es : List (Event Outline)). IsHeld config (N [] b) es more totals marked) (sym none') (record {
        config_is = same ∙ sym (none_wider config);
        ranges = is.ranges;
        core_ranges = subst IsConfig (sym same) is.ranges;
        left = left;
        counts = subst (λ (c : Config). CountsStops c b) is.config_is (counts h.core.config h.base h.events);
        kept_is = record { past = []; all = refl; since = refl; frees = enough };
        freed_is = omega arith;
        room_is = omega (arith, reserved, r, within);
        entries = omega (arith, n, long);
        kinds = omega (arith, m, sum);
        handed = omega (arith, o, count);
        few = omega (arith, fit, long, there);
        few_kinds = omega (arith, w, most, long);
        few_handed = omega (arith, v, few, long);
        few_since = omega arith;
        stops = subst (λ (c : Config). AreMarked config (rotated (now c h.base h.events)) [] marked) (sym is.config_is) (marked_rotated config h.base h.events marked is.stops);
      })))

  -- where nothing more is given back, later entries have the place that they had
  none_freed : (n : ℕ) → n ≡ 0 → MayFree (size Outlines) (wider n h.core.config) h.base h.events (n + h.freed)
  none_freed n z later l =
      let r = is.kept_is in
      let c = h.core.config in
      let lists : (later ++ kept) ++ r.past ≡ later ++ h.events = append_assoc later kept r.past ∙ ap (λ (es : List (Event Outline)). later ++ es) r.all in
      let l0 : IsLegal (size Outlines) c h.base (later ++ h.events) = subst (λ (x : Config). IsLegal (size Outlines) x h.base (later ++ h.events)) (none_wider c) (subst (λ (m : ℕ). IsLegal (size Outlines) (wider m c) h.base (later ++ h.events)) z l) in
      let b = r.frees (later ++ kept) (subst (λ (es : List (Event Outline)). IsLegal (size Outlines) c h.base es) (sym lists) l0) in
      let res : (now c h.base ((later ++ kept) ++ r.past)).reserved ≡ (now c h.base (later ++ h.events)).reserved = ap (λ (es : List (Event Outline)). (now c h.base es).reserved) lists in
      let len = length-append later kept in
      omega (arith, b, res, len, z)

  -- what is given back is what no held job and no stopped printer may add, if there is such; else nothing
  abbrev pub Gives : ℕ → Type 0
  Gives n =
      (h.core.reserved ≡ n + h.freed + still_reserved (now h.core.config h.base h.events))
      ⊎ ((n ≡ 0) × (h.core.reserved ≤ h.freed + still_reserved (now h.core.config h.base h.events)))

  -- what the lock keeps once the entries so far were handed out, while jobs are held
  pub goes_on : (k : Kept) (base : Base) (events kept' : List (Event Outline)) (more n len kinds handed : ℕ) → HasNumbers h → k ≡ record h.core { config = wider n h.core.config } → IsConfig k.config
      → ((d : Detail) (b : Base) (es : List (Event (What d))) → Leaves d b es h.core → Leaves d b es k)
      → n + h.freed ≤ h.core.reserved → Gives n
      → base ≡ h.base → events ≡ h.events → kept' ≡ [] → h.core.reserved + 1 ≤ more + (n + h.freed) → len ≡ length kept → kinds ≡ kinds_in kept → kinds ≤ 13 * length kept → handed ≡ handed_in kept → handed ≤ length kept
      → IsHeld config (record { core = k; base = base; events = events; since = h.since + len; freed = n + h.freed; number = h.number + 1; before = h.before + len; kinds_before = h.kinds_before + kinds; handed_before = h.handed_before + handed }) kept' more totals marked
  goes_on k base events kept' more n len kinds handed numbers core in_ranges stays fits gives from same none' within long sum most count few =
      let c = h.core.config in
      let m = is.entries in
      let p = is.kinds in
      let o = is.handed in
      let w = is.few_kinds in
      let v = is.few_handed in
      let fit = numbers.1 in
      let there = kept_len in
      let left = stays Outlines h.base h.events is.left in
      let a : k.config ≡ wider n c = ap (λ (z : Kept). z.config) core in
      let r : k.reserved ≡ h.core.reserved = ap (λ (z : Kept). z.reserved) core in
      let here : h.core.reserved ≡ (now c h.base h.events).reserved = is.left.kept.reserved in
      let all = is.kept_is.all in
      let s = is.kept_is.since in
      let l = ap length all in
      let l' = length-append kept is.kept_is.past in
      let twice : wider n (wider h.freed config) ≡ wider (n + h.freed) config = ap (λ (x : ℕ). record config { account = x }) (let z : n + (h.freed + config.account) ≡ n + h.freed + config.account = omega arith in z) in
      let frees : MayFree (size Outlines) (wider n c) h.base h.events (n + h.freed) =
      elim gives [
        | inl counted ↦ held_reserve_is_enough (size Outlines) (wider n c) h.base h.events (n + h.freed) (omega (arith, counted, here))
        | inr none ↦ none_freed n none.0
      ] in
      let N : List (Event Outline) → Base → Held = λ es x. record { core = k; base = x; events = es; since = h.since + len; freed = n + h.freed; number = h.number + 1; before = h.before + len; kinds_before = h.kinds_before + kinds; handed_before = h.handed_before + handed } in
      subst (λ (x : Base). IsHeld config (N events x) kept' more totals marked) (sym from)
      (subst (λ (es : List (Event Outline)). IsHeld config (N es h.base) kept' more totals marked) (sym same)
      (subst (λ (es : List (Event Outline)). IsHeld config (N h.events h.base) es more totals marked) (sym none') (record {
        config_is = a ∙ (ap (wider n) is.config_is ∙ twice);
        ranges = is.ranges;
        core_ranges = in_ranges;
        left = left;
        counts = is.counts;
        kept_is = record { past = h.events; all = refl; since = omega (arith, long, l, l', s); frees = subst (λ (z : Config). MayFree (size Outlines) z h.base h.events (n + h.freed)) (sym a) frees };
        freed_is = omega (arith, r, fits);
        room_is = omega (arith, r, within);
        entries = omega (arith, m, long);
        kinds = omega (arith, p, sum);
        handed = omega (arith, o, count);
        few = omega (arith, fit, long, there);
        few_kinds = omega (arith, w, most, long);
        few_handed = omega (arith, v, few, long);
        few_since = omega (arith, is.few_since, long);
        stops = is.stops;
      })))
