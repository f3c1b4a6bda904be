use Rattle.std.proofs.Common.{◌≡◌, ◌++◌, take, string_bytes}
use Rattle.status_lines.specs.Status.{placed}
use Rattle.server_counts.specs.declared.histogram.TheConstants.{BOUNDS}
use Rattle.status_metrics.specs.Lines.{bucket_text}
use Rattle.status_metrics.proofs.histogram.push_buckets.Given as goal

abbrev pub invariant-loop-i : goal.invariant-loop-i
invariant-loop-i l = string_bytes l.text ≡ string_bytes l.initial.text ++ placed (bucket_text l.name l.buckets) 0 (take l.i BOUNDS)
