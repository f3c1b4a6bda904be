use Rattle.std.proofs.Common.{◌∙◌, ℕ, List, ap}
use Rattle.segment_text.specs.Seen.{origin_seen}
use Rattle.segment_audit.proofs.copies.copy_origin.Goals as goal

pub returns : goal.returns
returns c =
    let o = origin_seen c.args.origin.now in
    let last = c.in_ok-copy_octets-2.field-0 in
    ap (λ (x : List ℕ). record o { first = x; last = last }) c.in_ok-copy_octets.ensures
    ∙ ap (λ (x : List ℕ). record o { last = x }) c.in_ok-copy_octets-2.ensures
