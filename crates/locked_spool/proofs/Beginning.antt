-- A spool in which nothing has happened.
use Rattle.std.proofs.Common.{◌≡◌, ℕ, zero, suc, ◌+◌, ◌≤◌, Bool, false, List, [], ◌∷◌, ◌++◌, refl, sym, ◌∙◌, ap, subst, arith, length-append}
use Rattle.std.specs.Prelude.{cond, count_by}
use Rattle.account.specs.declared.entry.Outline.{Outline}
use Rattle.config_values.specs.Config.{Config, printer_count}
use Rattle.config_values.specs.Ranges.{IsConfig}
use Rattle.spool_history.specs.Base.{Base, first_base, was_stopped}
use Rattle.spool_history.specs.Events.{Event}
use Rattle.spool_history.specs.Now.{up_to}
use Rattle.spool_laws.specs.Reserve.{CountsStops}
use Rattle.spool_calls.specs.Looks.Detail.{Outlines}
use Rattle.spool_calls.specs.Kept.{Kept, Leaves}
use Rattle.spool_ledgers.specs.Sums.{Sums, no_sums}
use Rattle.spool_laws.specs.Freeing.{MayFree}
use Rattle.spool_laws.proofs.Reserve.{reserve_is_enough}
use Rattle.spool_calls.specs.Looks.{size}
use Rattle.locked_spool.specs.Held.{Held, IsHeld}
use Rattle.locked_spool.proofs.Marked.{none_marked}
use Rattle.locked_spool.proofs.Gives.{none_wider}
use Rattle.locked_spool.proofs.Stopped.{one_more}

none_stopped : (p : ℕ) → was_stopped first_base p ≡ false
none_stopped zero = refl
none_stopped (suc p) = refl

none_counted : (ps : List ℕ) → count_by (was_stopped first_base) ps ≤ 0
none_counted [] = omega arith
none_counted (p ∷ ps) =
    let n = one_more (was_stopped first_base) p ps in
    let z : ◌≡◌ {A = ℕ} (cond (was_stopped first_base p) 1 0) 0 = ap (λ (b : Bool). cond {A = ℕ} b 1 0) (none_stopped p) in
    omega (arith, n, z, none_counted ps)

-- its base counts no stopped printer, since there is none
pub none_counts : (c : Config) → CountsStops c first_base
none_counts c = none_counted (up_to (printer_count c))

-- what the lock keeps of it
pub begun : (config : Config) (k : Kept) (base : Base) (events kept : List (Event Outline)) (room : ℕ) (totals : Sums) → k.config ≡ config → IsConfig config → Leaves Outlines first_base [] k → base ≡ first_base → events ≡ [] → kept ≡ [] → 1 ≤ room → totals ≡ no_sums 0
    → IsHeld config (record { core = k; base = base; events = events; since = 0; freed = 0; number = 1; before = 0; kinds_before = 0; handed_before = 0 }) kept room totals false
begun config k base events kept room totals same ranges left first none none' one no_sum =
    let reserved : k.reserved ≡ 0 + 0 = left.kept.reserved in
    let N : Base → List (Event Outline) → Held = λ b es. record { core = k; base = b; events = es; since = 0; freed = 0; number = 1; before = 0; kinds_before = 0; handed_before = 0 } in
    let enough : MayFree (size Outlines) k.config first_base [] 0 = λ later l. (let n = reserve_is_enough (size Outlines) k.config first_base (later ++ []) (none_counts k.config) l in let len = length-append later [] in omega arith) in
    subst (λ (b : Base). IsHeld config (N b events) kept room totals false) (sym first)
    (subst (λ (es : List (Event Outline)). IsHeld config (N first_base es) kept room totals false) (sym none)
    (subst (λ (es : List (Event Outline)). IsHeld config (N first_base []) es room totals false) (sym none')
    (subst (λ (s : Sums). IsHeld config (N first_base []) [] room s false) (sym no_sum) (record {
      config_is = same ∙ sym (none_wider config);
      ranges = ranges;
      core_ranges = subst IsConfig (sym same) ranges;
      left = left;
      counts = none_counts config;
      kept_is = record { past = []; all = refl; since = refl; frees = enough };
      freed_is = omega arith;
      room_is = omega (arith, reserved, one);
      entries = omega arith;
      kinds = omega arith;
      handed = omega arith;
      few = omega arith;
      few_kinds = omega arith;
      few_handed = omega arith;
      few_since = omega arith;
      stops = none_marked config;
    }))))
