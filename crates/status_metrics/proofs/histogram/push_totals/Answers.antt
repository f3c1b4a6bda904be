use Rattle.std.proofs.Common.{ℕ, ◌++◌, codes, ap, ◌∙◌, string_bytes}
use Rattle.std.specs.Fmt.{decimal}
use Rattle.status_metrics.specs.Lines.{totals_text, total_of}
use Rattle.status_metrics.proofs.RowLemmas.{rows3}
use Rattle.status_metrics.proofs.histogram.push_totals.Goals as goal

pub returns : goal.returns
unfolding totals_text
returns c =
    let e = c.total_of-count.ensures ∙ ap total_of c.as_slice.ensures in
    rows3 _ _ _ _ _ _ _
    (c.in_ok-write.ensures.bytes ∙ ap (λ (n : ℕ). string_bytes c.args.text.now ++ (c.args.name.now ++ (codes "_bucket{le=\"+Inf\"} " ++ (decimal n ++ codes "\n")))) e)
    c.in_ok-write-2.ensures.bytes
    (c.in_ok-write-3.ensures.bytes ∙ ap (λ (n : ℕ). string_bytes c.write-2.new.self ++ (c.args.name.now ++ (codes "_count " ++ (decimal n ++ codes "\n")))) e)
