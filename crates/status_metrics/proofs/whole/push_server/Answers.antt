use Rattle.status_metrics.specs.Metrics.{server_text}
use Rattle.status_metrics.proofs.RowLemmas.{rows7}
use Rattle.status_metrics.proofs.whole.push_server.Goals as goal

pub returns : goal.returns
unfolding server_text
returns c = rows7 _ _ _ _ _ _ _ _ _ _ _ _ _ _ _ c.in_ok-push_pages.ensures c.in_ok-push_spool.ensures c.in_ok-push_edge.ensures c.in_ok-push_jobs.ensures c.in_ok-push_octets.ensures c.in_ok-push_account.ensures c.in_ok-push_kept.ensures
