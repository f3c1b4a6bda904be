use Rattle.std.proofs.Common.{◌≡◌, ◌≤◌, ◌-◌, ◌∙◌, length, arith}
use Rattle.printed_pages.proofs.Filling.{reads_more, rest_length, still_within}
use Rattle.printed_pages.proofs.source.read_full.Goals as goal

pub loop-count-preserved : goal.loop-count-preserved
loop-count-preserved g c =
    let buffer = c.loop-count.buffer in
    let got = c.read.new.buffer in
    let long : length got ≡ length buffer - c.loop-count.count = c.read.auto.buffer ∙ rest_length buffer c.loop-count.count in
    let some : c.in_ok-more.more ≤ length got = omega (arith, c.in_ok-more.ensures.within, c.read.auto.buffer) in
    record {
      within = still_within buffer got c.loop-count.count c.in_ok-more.more c.loop-count.invariant.within long some;
      took = reads_more _ _ _ buffer got c.loop-count.count c.in_ok-more.more _ _ c.loop-count.invariant.within some
          c.loop-count.invariant.took c.in_ok-more.ensures.given;
      octets = c.read.ensures.octets ∙ c.loop-count.invariant.octets;
    }
