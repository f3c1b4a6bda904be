use Rattle.std.proofs.Common.{◌≡◌, ◌+◌, ◌-◌, ◌^◌, ◌++◌, ℕ, List, ap, arith, length, length-append, min}
use Rattle.lpr_client.proofs.PartLemmas.{parts_more}
use Rattle.lpr_client.proofs.job.length_of.Goals as goal

-- one part more
one_more : (before part head tail : List ℕ) (was mid now : ℕ) → head ++ tail ≡ part → was ≡ min (length before) (2 ^ 64 - 1) → mid ≡ min (was + length head) (2 ^ 64 - 1) → now ≡ min (mid + length tail) (2 ^ 64 - 1)
    → now ≡ min (length (before ++ part)) (2 ^ 64 - 1)
one_more before part head tail was mid now e a b d =
    let whole = length-append before part in
    let parts = length-append head tail in
    let same = ap length e in
    omega arith

pub loop-part-preserved : goal.loop-part-preserved
loop-part-preserved c =
    let more = parts_more c.args.parts.now c.loop-part.part-index c.part-item.result _ c.loop-part-test.true c.part-item.is in
    rw more (one_more _ _ _ _ _ _ _ c.octets.ensures c.loop-part.invariant c.saturating_add.ensures c.saturating_add-length.ensures)
