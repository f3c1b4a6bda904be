use Rattle.std.proofs.Common.{ℕ, ◌++◌, ◌∙◌, ap, codes, string_bytes}
use Rattle.status_metrics.specs.declared.kind.SampleKind.TheVariants as kind
use Rattle.status_metrics.specs.Lines.{single_text}
use Rattle.status_metrics.specs.Metrics.{account_text}
use Rattle.status_metrics.proofs.RowLemmas.{rows3}
use Rattle.status_metrics.proofs.server.push_account.Goals as goal

pub returns : goal.returns
unfolding account_text
returns c =
    rows3 _ _ _ _ _ _ _
    c.in_ok-push_gauge.ensures
    (c.in_ok-push_gauge-2.ensures ∙ ap (λ (n : ℕ). string_bytes c.push_gauge.new.text ++ single_text (codes "hurgwaye_account_limit_entries") (codes "Entries that the account may have.") kind.Gauge n) c.account.ensures.value)
    (c.in_ok-push_counter.ensures ∙ ap (λ (n : ℕ). string_bytes c.push_gauge-2.new.text ++ single_text (codes "hurgwaye_account_rotations_total") (codes "How often the account was rotated.") kind.Counter n) (c.saturating_sub-rotations.ensures))
