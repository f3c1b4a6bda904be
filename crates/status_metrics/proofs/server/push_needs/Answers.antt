use Rattle.std.proofs.Common.{ℕ, ◌++◌, ◌∙◌, ap, codes, string_bytes}
use Rattle.status_metrics.specs.declared.kind.SampleKind.TheVariants as kind
use Rattle.status_metrics.specs.Lines.{single_text}
use Rattle.status_metrics.specs.Metrics.{needs_text, one_if}
use Rattle.status_metrics.proofs.RowLemmas.{rows2}
use Rattle.status_metrics.proofs.server.push_needs.Goals as goal

pub returns : goal.returns
unfolding needs_text
returns c =
    rows2 _ _ _ _ _
    (c.in_ok-push_gauge.ensures ∙ ap (λ (n : ℕ). string_bytes c.args.text.now ++ single_text (codes "hurgwaye_pool_full") (codes "Whether no page is free, or a job waits for one.") kind.Gauge n) (c.one_if-is_full.ensures ∙ ap one_if c.has_full_pool.ensures))
    (c.in_ok-push_gauge-2.ensures ∙ ap (λ (n : ℕ). string_bytes c.push_gauge.new.text ++ single_text (codes "hurgwaye_sessions_silent") (codes "Sessions of whose peer no octet came for a minute.") kind.Gauge n) c.silent_sessions-silent.ensures)
