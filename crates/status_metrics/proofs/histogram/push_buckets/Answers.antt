use Rattle.std.proofs.Common.{string_bytes}
use Rattle.server_counts.specs.declared.histogram.TheConstants.{BOUNDS}
use Rattle.status_lines.proofs.PlaceLemmas.{step_at}
use Rattle.status_metrics.specs.Lines.{bucket_text}
use Rattle.status_metrics.proofs.histogram.push_buckets.Goals as goal

pub loop-i-preserved : goal.loop-i-preserved
loop-i-preserved c =
    step_at (bucket_text c.args.name.now c.args.buckets.now) BOUNDS c.loop-i.i _
    (string_bytes c.args.text.now) (string_bytes c.loop-i.text) (string_bytes c.push_bucket.new.text)
    c.loop-i-test.true c.loop-i.invariant c.in_ok-push_bucket.ensures
