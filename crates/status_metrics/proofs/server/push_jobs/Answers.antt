use Rattle.status_metrics.specs.Metrics.{jobs_text}
use Rattle.status_metrics.proofs.RowLemmas.{rows5}
use Rattle.status_metrics.proofs.server.push_jobs.Goals as goal

pub returns : goal.returns
unfolding jobs_text
returns c = rows5 _ _ _ _ _ _ _ _ _ _ _ c.in_ok-push_counter.ensures c.in_ok-push_counter-2.ensures c.in_ok-push_counter-3.ensures c.in_ok-push_counter-4.ensures c.in_ok-push_counter-5.ensures
