use Rattle.status_metrics.specs.Metrics.{octets_text}
use Rattle.status_metrics.proofs.RowLemmas.{rows3}
use Rattle.status_metrics.proofs.server.push_octets.Goals as goal

pub returns : goal.returns
unfolding octets_text
returns c = rows3 _ _ _ _ _ _ _ c.in_ok-push_counter.ensures c.in_ok-push_counter-2.ensures c.in_ok-push_counter-3.ensures
