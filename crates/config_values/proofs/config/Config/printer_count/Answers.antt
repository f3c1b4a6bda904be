use Rattle.std.proofs.Common.{arith}
use Rattle.config_values.proofs.Printers.{few_printers}
use Rattle.config_values.proofs.config.Config.printer_count.Goals as goal

pub overflow_cast-result : goal.overflow_cast-result
overflow_cast-result c =
    let few = few_printers c.self.inside.pages c.self.inside.queues.items c.as_slice.result.now c.printers_of.result c.self.invariant.queues c.self.invariant.few_queues c.printers_of.ensures.value c.as_slice.ensures.value in
    omega arith

pub returns-clause-within : goal.returns-clause-within
returns-clause-within c =
    few_printers c.self.inside.pages c.self.inside.queues.items c.as_slice.result.now c.printers_of.result c.self.invariant.queues c.self.invariant.few_queues c.printers_of.ensures.value c.as_slice.ensures.value
