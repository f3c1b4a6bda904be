use Rattle.program_edge.proofs.PlaceLemmas.{no_host, no_place}
use Rattle.program_edge.proofs.places.PrinterPlace.read.Goals as goal

pub returns-in_err-address-clause-none : goal.returns-in_err-address-clause-none
returns-in_err-address-clause-none c =
    rw c.from_residual-in_err-address.ensures
    (no_place c.args.text.now c.in_default.ensures.none c.in_default-path_after.ensures.none
    (no_host c.args.text.now c.in_ok-host.host.now c.in_ok-host.ensures c.in_err-address.ensures.none))
