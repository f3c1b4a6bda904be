use Rattle.std.proofs.Common.{◌≡◌, ℕ, List, false, sym, ◌∙◌, subst}
use Rattle.spool_history.specs.Base.{Base}
use Rattle.spool_history.specs.Events.{Event}
use Rattle.spool_calls.specs.declared.printer.Printer.{Printer}
use Rattle.spool_calls.specs.Looks.{Detail, What}
use Rattle.spool_calls.specs.Kept.{Kept}
use Rattle.config_values.specs.Config.{IsPrinter}
use Rattle.spool_calls.specs.Calls.{IsRight}
use Rattle.step_lemmas.proofs.Cores.Handing.{Waits, hands_busy, hands_empty, hands_none, hands_some, hands_stopped}
use Rattle.spool_core.specs.declared.due.Due.{Due}
use Rattle.spool_core.specs.declared.due.Due.TheVariants as due
use Rattle.spool_core.specs.Inside.{core_view}
use Rattle.spool_core.specs.Due.{HasTurn, IsDue, IsTurn}
use Rattle.spool_core.proofs.Cores.{printer_of, printer_within, stays}
use Rattle.spool_core.proofs.Outs.{same_printer}
use Rattle.spool_core.proofs.core_state.Core.due.Goals.{After-index, After-is_some}
use Rattle.spool_core.proofs.core_state.Core.due.Goals as goal

abbrev Says : Due → ℕ → Kept → (d : Detail) → Base → List (Event (What d)) → Type 0
Says r p k d b h = IsDue d b h k p r

pub index-requires : goal.index-requires
index-requires c = printer_within c.self.inside c.args.printer c.self.invariant (printer_of (core_view c.self.inside) c.args.self.now c.args.printer c.self.view_is c.requires)

-- what is due is told of the core as it is seen from without
told : (c : After-index) (r : Due) → (IsPrinter c.self.inside.config c.args.printer → IsRight (core_view c.self.inside) (Says r c.args.printer (core_view c.self.inside))) → IsRight c.args.self.now (Says r c.args.printer c.args.self.now)
told c r e = stays (core_view c.self.inside) c.args.self.now (Says r c.args.printer) c.self.view_is (e (printer_of (core_view c.self.inside) c.args.self.now c.args.printer c.self.view_is c.requires))

pub returns-then-at-clause-due : goal.returns-then-at-clause-due
returns-then-at-clause-due c =
    told (goal.at.returns-then-at-clause-due c).After-index due.Stopped
    (λ ip d b h l. (hands_stopped d b h (core_view c.self.inside) l c.args.printer ip c.index.result.now c.index.ensures c.if-self.false c.if-at.true).0)

pub returns-then-is_some-clause-due : goal.returns-then-is_some-clause-due
returns-then-is_some-clause-due c =
    told (goal.at.returns-then-is_some-clause-due c).After-index due.Busy
    (λ ip d b h l. (hands_busy d b h (core_view c.self.inside) l c.args.printer ip c.index.result.now c.index.ensures c.if-self.false c.if-at.false (sym c.is_some.ensures ∙ c.if-is_some.true)).0)

waits : (c : After-is_some) → c.is_some.result ≡ false → Waits (core_view c.self.inside) c.index.result.now
waits c n = record { open' = c.if-self.false; runs = c.if-at.false; idle = sym c.is_some.ensures ∙ n }

pub returns-in_default-clause-due : goal.returns-in_default-clause-due
returns-in_default-clause-due c =
    let x = goal.at.returns-in_default-clause-due c in
    told x.After-index due.Nothing
    (λ ip d b h l. (hands_none d b h (core_view c.self.inside) l c.args.printer ip c.index.result.now c.index.ensures (waits x.After-is_some c.if-is_some.false) c.in_default.ensures).0)

pub returns-in-None-clause-due : goal.returns-in-None-clause-due
returns-in-None-clause-due c =
    let x = goal.at.returns-in-None-clause-due c in
    told x.After-index due.Nothing
    (λ ip d b h l. (hands_empty d b h (core_view c.self.inside) l c.args.printer ip c.index.result.now c.index.ensures (waits x.After-is_some c.if-is_some.false) c.in-Some.i c.in-Some.ensures (sym c.in-None.ensures)).0)

pub returns-in-Some-next_place-clause-due : goal.returns-in-Some-next_place-clause-due
returns-in-Some-next_place-clause-due c =
    let x = goal.at.returns-in-Some-next_place-clause-due c in
    let place = c.in-Some-next_place.place in
    told x.After-index (due.Page c.in-Some.i place)
    (λ ip d b h l. hands_some d b h (core_view c.self.inside) l c.args.printer ip c.index.result.now c.index.ensures (waits x.After-is_some c.if-is_some.false) c.in-Some.i c.in-Some.ensures place (sym c.in-Some-next_place.ensures))

pub returns-in-Some-next_place-clause-turn : goal.returns-in-Some-next_place-clause-turn
returns-in-Some-next_place-clause-turn c =
    let k = core_view c.self.inside in
    let p = c.args.printer in
    let place = c.in-Some-next_place.place in
    let w = waits (goal.at.returns-in-Some-next_place-clause-turn c).After-is_some c.if-is_some.false in
    let t : HasTurn k c.index.result.now c.in-Some.i place = record { open' = w.open'; runs = w.runs; idle = w.idle; turn = c.in-Some.ensures; first = sym c.in-Some-next_place.ensures } in
    let ip = printer_of k c.args.self.now p c.self.view_is c.requires in
    subst (λ (z : Kept). IsTurn z p c.in-Some.i place) c.self.view_is
    (λ y e. subst (λ (z : Printer). HasTurn k z c.in-Some.i place) (same_printer c.self.inside p c.index.result.now y c.self.invariant ip c.index.ensures e) t)
