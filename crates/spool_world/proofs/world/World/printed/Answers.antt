use Rattle.spool_world.specs.Inside.{world_view}
use Rattle.spool_world.proofs.Printing.{printed_step, taken}
use Rattle.spool_world.proofs.world.World.printed.Goals as goal
use Rattle.spool_world.proofs.world.World.printed.Goals.{in-Ok-printed, in-Err-printed}

pub returns-clause-step : goal.returns-clause-step
returns-clause-step c =
    printed_step c.args.self.now (world_view c.self.inside) c.args.printer c.in-Ok.page
    (taken c.args.self.now c.take_page.new.self (world_view c.self.inside) c.args.printer c.in-Ok.page c.take_page.result c.take_page.ensures c.in-Ok.is c.self.view_is)
    c.self.invariant c.printed.new.self c.printed.ensures.config c.printed.result c.match-printed.result c.printed.ensures.answer
    (λ x e. elim c.match-printed.branch [ in-Ok-printed w ↦ cc | in-Err-printed w ↦ cc ])
