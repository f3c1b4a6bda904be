use Rattle.std.proofs.Common.{◌∙◌, arith, sym, ap, length}
use Rattle.config_values.specs.Config.{Queue}
use Rattle.history_legality.proofs.KindLaws.{of_kind, none_past}
use Rattle.history_legality.proofs.orders.amount_of.Goals as goal
use Rattle.std.proofs.lemmas.Bool.Decides.{nat_tests}

pub returns-then-kind-queues : goal.returns-then-kind-queues
returns-then-kind-queues c =
    sym (none_past c.args.config.now c.args.pages c.args.queue c.args.printers c.args.kind (omega (arith, ap (length {A = Queue}) c.queues.ensures.value)))

pub returns-then-kind-queue : goal.returns-then-kind-queue
returns-then-kind-queue c =
    let n = ap (length {A = Queue}) c.queues.ensures.value in
    sym (of_kind c.args.config.now c.args.pages c.args.queue c.args.printers c.args.kind (omega arith) (omega arith) ∙ grind (arith, nat_tests))

pub returns-else-kind-queue : goal.returns-else-kind-queue
returns-else-kind-queue c =
    let n = ap (length {A = Queue}) c.queues.ensures.value in
    sym (of_kind c.args.config.now c.args.pages c.args.queue c.args.printers c.args.kind (omega arith) (omega arith) ∙ grind (arith, nat_tests))
