use Rattle.std.proofs.Common.{ℕ, ◌++◌, codes, ap, ◌∙◌, string_bytes}
use Rattle.std.specs.Fmt.{decimal}
use Rattle.status_metrics.specs.Lines.{bound_word, bucket_text, total_of}
use Rattle.status_metrics.proofs.histogram.push_bucket.Goals as goal

pub returns : goal.returns
unfolding bucket_text
returns c =
    c.in_ok-write.ensures.bytes
    ∙ ap (λ (n : ℕ). string_bytes c.args.text.now
    ++ (c.args.name.now ++ (codes "_bucket{le=\"" ++ (bound_word c.args.bound ++ (codes "\"} " ++ (decimal n ++ codes "\n"))))))
    (c.total_of-count.ensures ∙ ap total_of c.up_to.ensures)
