use Rattle.spool_world.specs.Inside.{world_view}
use Rattle.spool_world.proofs.Printing.{failed_step, taken}
use Rattle.spool_world.proofs.world.World.failed.Goals as goal
use Rattle.spool_world.proofs.world.World.failed.Goals.{in-Ok-failed, in-Err-failed}

pub returns-clause-step : goal.returns-clause-step
returns-clause-step c =
    failed_step c.args.self.now (world_view c.self.inside) c.args.printer c.in-Ok.page
    (taken c.args.self.now c.take_page.new.self (world_view c.self.inside) c.args.printer c.in-Ok.page c.take_page.result c.take_page.ensures c.in-Ok.is c.self.view_is)
    c.self.invariant c.failed.new.self c.failed.ensures.config c.failed.result c.match-failed.result c.failed.ensures.answer
    (λ e. elim c.match-failed.branch [ in-Ok-failed w ↦ cc | in-Err-failed w ↦ cc ])
