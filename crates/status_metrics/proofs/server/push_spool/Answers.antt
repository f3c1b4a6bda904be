use Rattle.std.proofs.Common.{ℕ, ◌++◌, ◌∙◌, ap, codes, string_bytes}
use Rattle.status_metrics.specs.declared.kind.SampleKind.TheVariants as kind
use Rattle.status_metrics.specs.Lines.{single_text}
use Rattle.status_metrics.specs.Metrics.{spool_text}
use Rattle.status_metrics.proofs.RowLemmas.{rows5}
use Rattle.status_metrics.proofs.server.push_spool.Goals as goal

pub returns : goal.returns
unfolding spool_text
returns c =
    rows5 _ _ _ _ _ _ _ _ _ _ _
    (c.in_ok-push_gauge.ensures ∙ ap (λ (n : ℕ). string_bytes c.args.text.now ++ single_text (codes "hurgwaye_page_size_bytes") (codes "Octets of a page.") kind.Gauge n) (c.from.ensures ∙ c.page_size.ensures.value))
    (c.in_ok-push_gauge-2.ensures ∙ ap (λ (n : ℕ). string_bytes c.push_gauge.new.text ++ single_text (codes "hurgwaye_closed") (codes "Whether the spool is closed.") kind.Gauge n) (c.one_if.ensures))
    c.in_ok-push_counter.ensures
    (c.in_ok-push_gauge-3.ensures ∙ ap (λ (n : ℕ). string_bytes c.push_counter.new.text ++ single_text (codes "hurgwaye_jobs_limit") (codes "Jobs that may be held at once.") kind.Gauge n) (c.from-2.ensures ∙ c.max_jobs.ensures.value))
    c.in_ok-push_gauge-4.ensures
