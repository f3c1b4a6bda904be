use Rattle.status_metrics.specs.Metrics.{all_queues_text}
use Rattle.status_metrics.proofs.RowLemmas.{rows5}
use Rattle.status_metrics.proofs.whole.push_all_queues.Goals as goal

pub returns : goal.returns
unfolding all_queues_text
returns c = rows5 _ _ _ _ _ _ _ _ _ _ _ c.in_ok-push_queues.ensures c.in_ok-push_queues-2.ensures c.in_ok-push_queues-3.ensures c.in_ok-push_queues-4.ensures c.in_ok-push_queues-5.ensures
