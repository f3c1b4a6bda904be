use Rattle.std.proofs.Common.{ap, sym, ◌∙◌}
use Rattle.config_values.specs.Config.{printer_count}
use Rattle.spool_calls.specs.Looks.Detail.{Octets}
use Rattle.spool_world.proofs.Beginning.{begins}
use Rattle.spool_world.proofs.world.World.new.Goals as goal

pub returns-in-Ok-new-clause-start : goal.returns-in-Ok-new-clause-start
returns-in-Ok-new-clause-start c =
    let core = c.in-Ok-new.core in
    let made = c.in-Ok-new.ensures in
    begins core c.new-in-Ok-new.result.items c.no_pages.result.items made.ranges (made.left Octets) c.new-in-Ok-new.ensures.items
    (c.no_pages.ensures.count ∙ c.printer_count-printers.ensures.value ∙ ap printer_count (sym made.config)) c.no_pages.ensures.none
