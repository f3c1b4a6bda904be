use Rattle.std.proofs.Common.{string_bytes}
use Rattle.status_lines.proofs.PlaceLemmas.{step_at}
use Rattle.status_metrics.specs.Metrics.{refusal_text}
use Rattle.status_metrics.proofs.server.push_refusals.Goals as goal

pub loop-i-preserved : goal.loop-i-preserved
loop-i-preserved c =
    step_at refusal_text c.args.refused.now c.loop-i.i _
    (string_bytes c.args.text.now) (string_bytes c.loop-i.text) (string_bytes c.push_refusal.new.text)
    c.loop-i-test.true c.loop-i.invariant c.in_ok-push_refusal.ensures
