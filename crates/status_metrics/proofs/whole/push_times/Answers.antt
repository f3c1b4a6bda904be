use Rattle.std.proofs.Common.{◌≡◌, ◌++◌, rules, string_bytes}
use Rattle.status_lines.specs.Status.{placed}
use Rattle.status_metrics.specs.Metrics.{refusal_text, times_text}
use Rattle.status_metrics.proofs.RowLemmas.{rows4}
use Rattle.status_metrics.proofs.whole.push_times.Goals as goal

pub returns : goal.returns
unfolding times_text
returns c =
    let h : string_bytes c.push_refusals.new.text ≡ string_bytes c.push_family.new.text ++ placed refusal_text 0 c.args.scene.now.counts.now.refused = search rules in
    rows4 _ _ _ _ _ _ _ _ _ c.in_ok-push_family.ensures h c.in_ok-push_histogram.ensures c.in_ok-push_histogram-2.ensures
