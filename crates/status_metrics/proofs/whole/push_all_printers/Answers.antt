use Rattle.status_metrics.specs.Metrics.{all_printers_text}
use Rattle.status_metrics.proofs.RowLemmas.{rows4}
use Rattle.status_metrics.proofs.whole.push_all_printers.Goals as goal

pub returns : goal.returns
unfolding all_printers_text
returns c = rows4 _ _ _ _ _ _ _ _ _ c.in_ok-push_printers.ensures c.in_ok-push_printers-2.ensures c.in_ok-push_printers-3.ensures c.in_ok-push_printers-4.ensures
