use Rattle.std.proofs.Common.{◌↔◌, IsTrue, subst, ◌∙◌}
use Rattle.config_values.specs.Config.{Config, IsPrinter}
use Rattle.spool_calls.specs.Looks.Detail.{Outlines}
use Rattle.spool_core.specs.Printers.{BeginsNext}
use Rattle.locked_spool.specs.Held.{Held}
use Rattle.locked_spool.proofs.locked.Locked.begins_next.Goals as goal

pub returns-then-is_printer : goal.returns-then-is_printer
returns-then-is_printer g c =
    let kept = c.self.invariant in
    let begins =
    subst (λ (z : Held). IsTrue c.begins_next.result ↔ BeginsNext Outlines z.base z.events z.core c.args.printer) c.self.view_is
    (c.begins_next.ensures Outlines _ _ kept.left) in
    let here = subst (λ (k : Config). IsPrinter k c.args.printer) (c.config.ensures ∙ kept.config_is) (c.is_printer.ensures.0 c.if-is_printer.true) in
    (λ yes. (here, begins.0 yes), λ both. begins.1 both.1)
