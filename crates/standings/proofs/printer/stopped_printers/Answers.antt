use Rattle.standings.specs.Printers.{is_stopped_at, one_if}
use Rattle.standings.proofs.CountLemmas.{few, step}
use Rattle.standings.proofs.printer.stopped_printers.Goals as goal
use Rattle.std.proofs.Common.{◌∙◌, ap}

pub loop-i-preserved : goal.loop-i-preserved
loop-i-preserved c = record {
  counted =
      step (is_stopped_at c.args.notes.now) c.args.printers.now c.loop-i.i _ c.loop-i.count c.one_if-count.result c.loop-i-test.true
      c.loop-i.invariant.counted (c.one_if-count.ensures ∙ ap one_if c.is_stopped_at.ensures);
  few = few c.is_stopped_at.result c.loop-i.i c.loop-i.count c.one_if-count.result c.loop-i.invariant.few c.one_if-count.ensures;
}
