use Rattle.std.proofs.Common.{◌∙◌, ap}
use Rattle.standings.specs.Printers.{one_if}
use Rattle.standings.proofs.CountLemmas.{few, step}
use Rattle.config_values.specs.Config.{no_queue}
use Rattle.status_scene.specs.Refusing.{is_refused_at}
use Rattle.status_scene.proofs.refusing.refusing_queues.Goals as goal

pub loop-i-preserved : goal.loop-i-preserved
loop-i-preserved c = record {
  counted =
      step (λ at _. is_refused_at c.args.config.now c.args.spool.now at) c.args.queues.now c.loop-i.i no_queue c.loop-i.count c.one_if-count.result c.loop-i-test.true
      c.loop-i.invariant.counted (c.one_if-count.ensures ∙ ap one_if c.is_refused_at.ensures);
  few = few c.is_refused_at.result c.loop-i.i c.loop-i.count c.one_if-count.result c.loop-i.invariant.few c.one_if-count.ensures;
}
