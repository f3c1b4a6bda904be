use Rattle.status_metrics.specs.Metrics.{each_text}
use Rattle.status_metrics.proofs.RowLemmas.{rows2}
use Rattle.status_metrics.proofs.whole.push_each.Goals as goal

pub returns : goal.returns
unfolding each_text
returns c = rows2 _ _ _ _ _ c.in_ok-push_all_queues.ensures c.in_ok-push_all_printers.ensures
