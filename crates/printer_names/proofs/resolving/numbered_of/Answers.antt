use Rattle.std.proofs.Common.{◌<◌, ◌^◌, arith}
use Rattle.printer_names.proofs.MeaningLemmas.{no_number, no_queue, numbered_from}
use Rattle.printer_names.proofs.resolving.numbered_of.Goals as goal

pub returns-in_err-nth : goal.returns-in_err-nth
returns-in_err-nth c =
    rw c.from_residual-in_err-nth.ensures (
    no_number c.args.config.now c.args.name.now c.in_ok-queue.queue.now c.in_ok-queue.number.now c.in_ok-queue.ensures c.in_err-nth.ensures
    )

pub returns-in_err-queue-2 : goal.returns-in_err-queue-2
returns-in_err-queue-2 c =
    rw c.from_residual-in_err-queue-2.ensures (
    no_queue c.args.config.now c.args.name.now c.in_ok-queue.queue.now c.in_ok-queue.number.now c.in_ok-queue.ensures c.in_err-queue-2.ensures.named
    )

pub returns : goal.returns
returns c =
    let small : c.in_ok-nth.nth < 2 ^ 64 = omega (arith, c) in
    numbered_from c.args.config.now c.args.name.now c.in_ok-queue.queue.now c.in_ok-queue.number.now c.in_ok-nth.nth c.in_ok-queue-2.queue
    c.in_ok-queue.ensures c.in_ok-nth.ensures small c.in_ok-queue-2.ensures.named c.in_ok-queue-2.ensures.found.0.0 c.nth_printer.result c.nth_printer.ensures
