use Rattle.std.proofs.Common.{ℕ, ◌++◌, ◌∙◌, ap, codes, string_bytes}
use Rattle.status_metrics.specs.declared.kind.SampleKind.TheVariants as kind
use Rattle.status_metrics.specs.Lines.{single_text}
use Rattle.status_metrics.specs.Metrics.{edge_text}
use Rattle.status_metrics.proofs.RowLemmas.{rows4}
use Rattle.status_metrics.proofs.server.push_edge.Goals as goal

pub returns : goal.returns
unfolding edge_text
returns c =
    rows4 _ _ _ _ _ _ _ _ _
    c.in_ok-push_gauge.ensures
    (c.in_ok-push_gauge-2.ensures ∙ ap (λ (n : ℕ). string_bytes c.push_gauge.new.text ++ single_text (codes "hurgwaye_stopping") (codes "Whether the server was asked to stop.") kind.Gauge n) (c.one_if.ensures))
    c.in_ok-push_gauge-3.ensures
    c.in_ok-push_gauge-4.ensures
