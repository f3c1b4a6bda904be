use Rattle.std.proofs.Common.{Ok, refl, subst}
use Rattle.server_house.specs.Lines.{TellsRotations}
use Rattle.server_house.proofs.Rotations.{TellsRotations-then}
use Rattle.server_clients.proofs.listening.announce_all.Goals as goal

pub returns-in-Err-clause-tells : goal.returns-in-Err-clause-tells
returns-in-Err-clause-tells g c was n before =
    let until_now = subst (λ t. TellsRotations was n (g.W.OctetWrite.written c.args.output.now) (g.W.OctetWrite.faults c.args.output.now) t) (c.in_ok-told.was {u = tt}) before in
    TellsRotations-then (Ok tt) c.print-printed.result was _ n _ _ _ _ _ (c.loop-number.invariant was n until_now) refl
    c.print-printed.ensures.written c.print-printed.ensures.write_fault c.print-printed.ensures.fault

pub loop-number-preserved : goal.loop-number-preserved
loop-number-preserved g c was n before =
    subst (λ t. TellsRotations was n (g.W.OctetWrite.written c.print-printed.new.output) (g.W.OctetWrite.faults c.print-printed.new.output) t) c.in_default.is
    (TellsRotations-then (Ok tt) c.print-printed.result was _ n _ _ _ _ _ (c.loop-number.invariant was n before) refl c.print-printed.ensures.written c.print-printed.ensures.write_fault c.print-printed.ensures.fault)
